-- `scratch::clear` meets its contract: the marks of the darts that the loop has gone by are 0. Assumes nothing.
use native.Mathlib.Omega.{arith}
use Rattle.cell_steps.proofs.Lists.{in_at}
use Rattle.cell_steps.proofs.QueueLaws.{cleared_none, cleared_step}
use Rattle.cell_scratch.proofs.scratch.clear.Goals as goal

pub loop-x-init : goal.loop-x-init
loop-x-init c = cleared_none _

-- the dart whose mark is cleared is below the marks' length
pub bounds-marks-x : goal.bounds-marks-x
bounds-marks-x c = omega (arith, c.requires _ (in_at _ _ c.loop-x-test.true))

pub loop-x-preserved : goal.loop-x-preserved
loop-x-preserved c =
    let l = c.loop-x in
    let dart = c.requires _ (in_at c.args.list.now l.x-index c.loop-x-test.true) in
    cleared_step c.args.list.now _ l.marks l.x-index c.loop-x-test.true (omega (arith, dart)) l.invariant
