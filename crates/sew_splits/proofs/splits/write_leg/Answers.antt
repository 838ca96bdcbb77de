-- `splits::write_leg` meets its contract. The loop's invariant: what is still to be written, behind what is written, gives the whole; marks and queue
-- are as they were. Assumes nothing.
use native.Mathlib.Omega.{arith}
use mathlib.Core.Path.{refl, ap, ◌∙◌}
use lib.ListN.{length}
use Rattle.sew_ground.proofs.SideLaws.{clean_same}
use Rattle.sew_pairs.specs.Pairs.{Pairs}
use Rattle.sew_pairs.proofs.LegLaws.{leg_stops, leg_next, pair_fits, entries_turn, leg_ends}
use Rattle.sew_splits.proofs.splits.write_leg.Goals as goal

pub returns-clause-value : goal.returns-clause-value
returns-clause-value c =
    leg_ends _ _ _ _ _ _ (leg_stops _ _ _ _ _ _ _ c.leg_over.ensures c.loop-rows-test.false _).0 c.loop-rows.invariant.5 c.loop-rows.invariant.6

pub write_pair-at-requires : goal.write_pair-at-requires
write_pair-at-requires c = (
  c.loop-rows.invariant.3,
  c.loop-rows.invariant.4,
  clean_same _ _ _ _ _ c.requires.4 c.loop-rows.invariant.0 c.loop-rows.invariant.1,
  omega (
    arith,
    c.requires.5,
    c.loop-rows.invariant.2,
    c.loop-rows.invariant.5,
    pair_fits c.args.rows.list.now c.loop-rows.l c.loop-rows.r _ _
        (leg_next c.args.rows.list.now c.args.i c.args.j c.args.stop c.loop-rows.l c.loop-rows.r _
        c.leg_over.ensures c.loop-rows-test.true
        c.loop-rows.invariant.7 _ _ refl refl).0,
  ),
)

pub loop-rows-smaller : goal.loop-rows-smaller
loop-rows-smaller c =
    let n = leg_next c.args.rows.list.now c.args.i c.args.j c.args.stop c.loop-rows.l c.loop-rows.r _
    c.leg_over.ensures
    c.loop-rows-test.true c.loop-rows.invariant.7 _ _ c.beta-l.ensures c.beta-r.ensures in
    omega (arith, ap (λ (ps : Pairs). length ps) n.0)

pub loop-rows-preserved : goal.loop-rows-preserved
loop-rows-preserved c =
    let n = leg_next c.args.rows.list.now c.args.i c.args.j c.args.stop c.loop-rows.l c.loop-rows.r _
    c.leg_over.ensures
    c.loop-rows-test.true c.loop-rows.invariant.7 _ _ c.beta-l.ensures c.beta-r.ensures in
    let v = entries_turn c.args.rows.list.now c.loop-rows.l c.loop-rows.r _ _ n.0 _ _ _ _ c.write_pair-at.ensures.value.1
    c.write_pair-at.ensures.value.0 in (
      c.write_pair-at.ensures.marks_unchanged.0 ∙ c.loop-rows.invariant.0,
      c.write_pair-at.ensures.marks_unchanged.1 ∙ c.loop-rows.invariant.1,
      c.write_pair-at.auto.plan ∙ c.loop-rows.invariant.2,
      rw c.beta-l.ensures (c.args.rows.formed.below _ _),
      rw c.beta-r.ensures (c.args.rows.formed.below _ _),
      v.0 ∙ c.loop-rows.invariant.5,
      v.1 ∙ c.loop-rows.invariant.6,
      n.2,
    )
