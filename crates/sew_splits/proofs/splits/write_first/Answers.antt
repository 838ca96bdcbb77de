-- `splits::write_first` meets its contract: the first pair, and the first leg behind it. Assumes nothing.
use native.Mathlib.Omega.{arith}
use mathlib.Core.Path.{ap}
use lib.ListN.{length}
use Rattle.sew_ground.proofs.SideLaws.{clean_same}
use Rattle.sew_pairs.specs.Pairs.{Pairs, entries_of}
use Rattle.sew_pairs.specs.Three.{first_pairs}
use Rattle.sew_pairs.proofs.SplitLaws.{first_is, pair_length, first_written}
use Rattle.sew_pairs.proofs.Ends.{first_over}
use Rattle.sew_splits.proofs.splits.write_first.Goals as goal

pub write_pair-at-requires : goal.write_pair-at-requires
write_pair-at-requires c = (
  c.requires.0,
  c.requires.1,
  c.requires.2,
  omega (
    arith,
    c.requires.3,
    pair_length c.args.rows.list.now c.args.ld c.args.rd (first_pairs c.args.rows.list.now c.args.ld c.args.rd),
  ),
)

pub write_leg-requires : goal.write_leg-requires
write_leg-requires c = (
  omega arith,
  omega arith,
  rw c.beta-l.ensures (c.args.rows.formed.below _ _),
  rw c.beta-r.ensures (c.args.rows.formed.below _ _),
  clean_same _ _ _ _ _ c.requires.2 c.write_pair-at.ensures.marks_unchanged.0 c.write_pair-at.ensures.marks_unchanged.1,
  omega (
    arith,
    c.requires.3,
    c.write_pair-at.ensures.value.0,
    c.write_pair-at.auto.plan,
    pair_length c.args.rows.list.now c.args.ld c.args.rd (first_pairs c.args.rows.list.now c.args.ld c.args.rd),
    ap (λ (ps : Pairs). length (entries_of c.args.rows.list.now ps))
        (first_is c.args.rows.list.now c.args.ld c.args.rd _ _ c.beta-l.ensures c.beta-r.ensures),
  ),
  rw c.beta-l.ensures (first_over c.args.rows.list.now c.args.rows.formed c.args.ld c.requires.0),
)

pub returns-clause-value : goal.returns-clause-value
returns-clause-value c =
    first_written _ _ _ _ _ _ _ _ _ _ _ c.write_pair-at.ensures.value.1 c.write_pair-at.ensures.value.0
    c.write_leg.ensures.value.1 c.write_leg.ensures.value.0
    (first_is _ _ _ _ _ c.beta-l.ensures c.beta-r.ensures)
