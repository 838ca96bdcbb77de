-- `meet::meet` meets its contract: a dart that has no mark is not in the queue, so it is not null. Assumes nothing.
use Rattle.cell_steps.proofs.QueueLaws.{push_old, unmarked_absent}
use Rattle.cell_joins.proofs.PushLaws.{push_adds}
use Rattle.cell_joins.proofs.meet.meet.Goals as goal

pub returns-then-marks-x-ne0 : goal.returns-then-marks-x-ne0
returns-then-marks-x-ne0 c = push_old _ _ _ _ c.requires.0 c.requires.1 c.if-marks-x-ne0.true

pub put-requires : goal.put-requires
put-requires c = (c.requires.0, c.requires.1, c.requires.2, unmarked_absent _ _ _ _ c.requires.0 c.requires.1 c.if-marks-x-ne0.false)

pub returns : goal.returns
returns c = push_adds _ _ _ _ c.requires.0 c.requires.1 c.requires.3 c.if-marks-x-ne0.false _ _ _ c.put.ensures
