-- `walk::undo_leg` meets its contract. The loop's invariant: what is still to be set back of the rows as they are gives what was to be set back at first.
-- Assumes nothing.
use native.Mathlib.Omega.{arith}
use mathlib.Core.Path.{◌∙◌}
use Rattle.link_walk.proofs.UndoLaws.{back_inside, back_next}
use Rattle.link_walk.proofs.walk.undo_leg.Goals as goal

pub loop-preserved : goal.loop-preserved
loop-preserved g c =
    let v = c.loop.invariant in
    let n = c.next-next.ensures in (
      back_inside g.S.Step.parting _ _ _ _ _ _ _ c.former.ensures c.former-in-loop.ensures
          c.set_beta.ensures c.set_beta-in-loop.ensures _ v.0 v.1 v.2,
      rw n.l (v.0.below _),
      rw n.r (v.0.below _),
      back_next _ _ _ _ _ _ _ _ c.former.ensures c.former-in-loop.ensures c.set_beta.ensures
          c.set_beta-in-loop.ensures _ _ _ _ _ _ (omega arith) n.l n.r
          ∙ v.3,
    )
