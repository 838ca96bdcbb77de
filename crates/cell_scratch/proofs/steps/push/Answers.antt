-- `steps::push` meets its contract, by the three cases of `proofs/QueueLaws.antt`. Assumes nothing.
use Rattle.cell_steps.proofs.QueueLaws.{push_null, push_old, unmarked_absent, push_added}
use Rattle.cell_scratch.proofs.steps.push.Goals as goal

pub returns-then-x-eq0 : goal.returns-then-x-eq0
returns-then-x-eq0 c = push_null _ _ _ _ c.requires.0 c.if-x-eq0.true

pub returns-then-marks-x-ne0 : goal.returns-then-marks-x-ne0
returns-then-marks-x-ne0 c = push_old _ _ _ _ c.requires.0 c.requires.1 c.if-marks-x-ne0.true

pub put-requires : goal.put-requires
put-requires c = (c.requires.0, c.requires.1, c.requires.2, unmarked_absent _ _ _ _ c.requires.0 c.requires.1 c.if-marks-x-ne0.false)

pub returns : goal.returns
returns c = push_added _ _ _ _ c.requires.0 c.requires.1 c.if-marks-x-ne0.false c.if-x-eq0.false _ _ _ c.put.ensures
