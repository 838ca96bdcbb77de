-- `tallies::tally_pairs` meets its contract: the first pair, the first leg and, of an open face, the second. Assumes nothing.
use native.Mathlib.Omega.{arith}
use mathlib.Core.Path.{◌∙◌}
use Rattle.sew_ground.proofs.SideLaws.{clean_same}
use Rattle.sew_pairs.proofs.Ends.{first_over, back_over}
use Rattle.sew_tallies.proofs.TallyLaws.{stands, next_below, first_tally, open_end, closed_tally, open_tally}
use Rattle.sew_tallies.proofs.tallies.tally_pairs.Goals as goal

pub tally_leg-first-requires : goal.tally_leg-first-requires
tally_leg-first-requires g c = (omega arith, omega arith, next_below _ _ _ _ _ _ _ c.args.rows.formed c.note-one.ensures.value.0, rw c.beta.ensures (c.args.rows.formed.below _ _), clean_same _ _ _ _ _ c.requires.2 c.note-one.ensures.marks_unchanged.0 c.note-one.ensures.marks_unchanged.1, omega (arith, c.note-one.ensures.value.1), rw (stands _ _ _ _ _ _ c.note-one.ensures.value.0) (first_over c.args.rows.list.now c.args.rows.formed c.args.ld c.requires.0))

pub returns-then-first-ne0-clause-value : goal.returns-then-first-ne0-clause-value
returns-then-first-ne0-clause-value g c =
    closed_tally _ _ _ _ _
    (first_tally _ _ _ _ _ _ _ c.note-one.ensures.value.0 c.beta.ensures c.tally_leg-first.ensures.value.0) c.if-first-ne0.true

pub tally_leg-requires : goal.tally_leg-requires
tally_leg-requires g c = (
  omega arith,
  omega arith,
  rw c.beta-2.ensures (c.args.rows.formed.below _ _),
  rw c.beta-3.ensures (c.args.rows.formed.below _ _),
  clean_same _ _ _ _ _ c.requires.2 (c.tally_leg-first.ensures.marks_unchanged.0 ∙ c.note-one.ensures.marks_unchanged.0)
      (c.tally_leg-first.ensures.marks_unchanged.1 ∙ c.note-one.ensures.marks_unchanged.1),
  omega (arith, c.tally_leg-first.ensures.value.1, c.note-one.ensures.value.1, c.args.rows.formed.sized.whole, c.args.rows.formed.sized.few),
  rw c.beta-2.ensures (back_over c.args.rows.list.now c.args.rows.formed c.args.ld c.requires.0
      (open_end _ _ _ _ _ (first_tally _ _ _ _ _ _ _ c.note-one.ensures.value.0 c.beta.ensures
      c.tally_leg-first.ensures.value.0) c.if-first-ne0.false)),
)

pub returns-clause-value : goal.returns-clause-value
returns-clause-value g c =
    open_tally _ _ _ _ c.tally_leg-first.result
    (first_tally _ _ _ _ _ _ _ c.note-one.ensures.value.0 c.beta.ensures c.tally_leg-first.ensures.value.0) _ _ _
    c.if-first-ne0.false (rw c.beta-2.ensures (back_over c.args.rows.list.now c.args.rows.formed c.args.ld c.requires.0
    (open_end _ _ _ _ _ (first_tally _ _ _ _ _ _ _ c.note-one.ensures.value.0 c.beta.ensures
    c.tally_leg-first.ensures.value.0) c.if-first-ne0.false)))
    c.beta-2.ensures c.beta-3.ensures c.tally_leg.ensures.value.0
