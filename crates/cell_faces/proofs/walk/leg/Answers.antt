-- `walk::leg` meets its contract, by the invariant `Walking`. Assumes nothing.
use Prim.Native.Nat.{◌<◌}
use native.Mathlib.Omega.{arith}
use Rattle.cell_steps.proofs.QueueLaws.{queue_n}
use Rattle.cell_faces.proofs.LegLaws.{walking_turn, walking_ends}
use Rattle.cell_faces.proofs.walk.leg.Goals as goal

pub returns-then-more-at : goal.returns-then-more-at
returns-then-more-at c = walking_ends _ _ _ _ _ _ _ _ _ _ _ _ _ _ _ c.loop-at.invariant _ _ _ c.insert-more.ensures c.if-more-at.true

pub loop-at-smaller : goal.loop-at-smaller
loop-at-smaller c =
    let l = c.loop-at in
    let g = c.insert-more in
    let t : l.at.k < g.result = c.if-more-at.false in
    omega (arith, queue_n _ _ _ g.ensures.queue, g.auto.marks, l.invariant.marks_n, c.requires.0.marks_n)

pub loop-at-preserved : goal.loop-at-preserved
loop-at-preserved c =
    let l = c.loop-at in
    let g = c.insert-more in
    walking_turn _ _ _ _ _ _ _ _ _ _ _ _ _ _ _ l.invariant _ _ _ g.ensures c.if-more-at.false g.auto.marks g.auto.queue c.args.rows.formed.below
    c.requires.0.marks_n _ _ _ _
    c.beta-l.ensures c.beta-r.ensures c.lower.ensures c.lower-low.ensures
