-- `settle::settle` meets its contract. Assumes nothing.
use native.Mathlib.Omega.{arith}
use mathlib.Core.Path.{◌∙◌}
use Rattle.sew_ground.proofs.EntryLaws.{written_put}
use Rattle.sew_ground.proofs.SewnLaws.{settles_tight, settles_done}
use Rattle.sew_ground.proofs.settle.settle.Goals as goal

pub returns-then-room-k : goal.returns-then-room-k
returns-then-room-k c = settles_tight _ _ _ _ c.count-k.ensures.0 (omega (arith, c.if-room-k.true, c.room.ensures))

pub returns : goal.returns
returns c =
    settles_done _ _ _ _ c.count-k.ensures.0 _ (omega (arith, c.if-room-k.false, c.room.ensures))
    (c.put_items.ensures.1 ∙ written_put _ _)
