-- `tallies::tally_leg` meets its contract. The loop's invariant: the leg from here on gives the whole tally, and marks and queue are as they were.
-- Assumes nothing.
use native.Mathlib.Omega.{arith}
use mathlib.Core.Path.{◌∙◌}
use lib.ListN.{length}
use Rattle.sew_ground.proofs.SideLaws.{clean_same}
use Rattle.sew_pairs.proofs.LegLaws.{pairs_few}
use Rattle.sew_tallies.proofs.TallyLaws.{next_below, tally_over, tally_next}
use Rattle.sew_tallies.proofs.tallies.tally_leg.Goals as goal

pub returns-clause-value : goal.returns-clause-value
returns-clause-value g c = (
  tally_over _ _ _ _ _ _ _ _ c.leg_over.ensures c.loop-rows-test.false ∙ c.loop-rows.invariant.6,
  omega (
    arith,
    c.loop-rows.invariant.4,
    pairs_few c.args.rows.list.now c.args.i c.args.j c.args.stop (length c.args.rows.list.now) c.args.t0.l
        c.args.r0,
  ),
)

pub note-t-requires : goal.note-t-requires
note-t-requires g c = (
  c.requires.0,
  c.loop-rows.invariant.2,
  c.loop-rows.invariant.3,
  clean_same _ _ _ _ _ c.requires.4 c.loop-rows.invariant.0 c.loop-rows.invariant.1,
  omega (
    arith,
    c.loop-rows.invariant.4,
    c.requires.5,
    pairs_few c.args.rows.list.now c.args.i c.args.j c.args.stop (length c.args.rows.list.now) c.args.t0.l
        c.args.r0,
    c.args.rows.formed.sized.whole,
    c.args.rows.formed.sized.few,
  ),
)

pub loop-rows-smaller : goal.loop-rows-smaller
loop-rows-smaller g c =
    omega (
      arith,
      (tally_next g.C.Counting.splits c.args.rows.list.now c.args.i c.args.j c.args.stop c.loop-rows.t c.loop-rows.r _
          c.leg_over.ensures c.loop-rows-test.true c.loop-rows.invariant.5 _ c.note-t.ensures.value.0 _ c.beta-r.ensures).0,
    )

pub loop-rows-preserved : goal.loop-rows-preserved
loop-rows-preserved g c =
    let n = tally_next g.C.Counting.splits c.args.rows.list.now c.args.i c.args.j c.args.stop c.loop-rows.t
    c.loop-rows.r _
    c.leg_over.ensures c.loop-rows-test.true c.loop-rows.invariant.5 _ c.note-t.ensures.value.0 _ c.beta-r.ensures in (
      c.note-t.ensures.marks_unchanged.0 ∙ c.loop-rows.invariant.0,
      c.note-t.ensures.marks_unchanged.1 ∙ c.loop-rows.invariant.1,
      next_below _ _ _ _ _ _ _ c.args.rows.formed c.note-t.ensures.value.0,
      rw c.beta-r.ensures (c.args.rows.formed.below _ _),
      omega (arith, c.loop-rows.invariant.4, c.note-t.ensures.value.1, n.0),
      n.1,
      n.2 ∙ c.loop-rows.invariant.6,
    )
