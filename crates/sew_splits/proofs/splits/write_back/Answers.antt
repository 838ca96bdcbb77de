-- `splits::write_back` meets its contract: of an open face the second leg. Assumes nothing.
use native.Mathlib.Omega.{arith}
use mathlib.Core.Path.{refl, ap}
use lib.ListN.{length}
use Rattle.sew_pairs.specs.Pairs.{Pairs, entries_of}
use Rattle.sew_pairs.proofs.LegLaws.{leg_ends}
use Rattle.sew_pairs.proofs.SplitLaws.{back_none, back_some, open_null, pairs_same}
use Rattle.sew_pairs.proofs.Ends.{back_over}
use Rattle.sew_splits.proofs.splits.write_back.Goals as goal

pub returns-then-not-opened-clause-value : goal.returns-then-not-opened-clause-value
returns-then-not-opened-clause-value c =
    leg_ends _ _ _ _ _ _ (back_none _ _ _ _ c.requires.4 c.if-not-opened.true) refl refl

pub write_leg-requires : goal.write_leg-requires
write_leg-requires c = (
  omega arith,
  omega arith,
  rw c.beta-l.ensures (c.args.rows.formed.below _ _),
  rw c.beta-r.ensures (c.args.rows.formed.below _ _),
  c.requires.2,
  omega (
    arith,
    c.requires.3,
    ap (λ (ps : Pairs). length (entries_of c.args.rows.list.now ps))
        (back_some c.args.rows.list.now c.args.ld c.args.rd c.args.opened c.requires.4 _ _ c.if-not-opened.false
        c.beta-l.ensures c.beta-r.ensures),
  ),
  rw c.beta-l.ensures (back_over c.args.rows.list.now c.args.rows.formed c.args.ld c.requires.0
      (open_null c.args.rows.list.now c.args.ld c.args.rd c.args.opened c.requires.4 c.if-not-opened.false)),
)

pub returns-clause-value : goal.returns-clause-value
returns-clause-value c =
    pairs_same _ _ _ _ _ _ _
    (back_some _ _ _ _ c.requires.4 _ _ c.if-not-opened.false c.beta-l.ensures c.beta-r.ensures)
    c.write_leg.ensures.value.0 c.write_leg.ensures.value.1
