-- `calls::two_sew` meets its contract: the operation of its name. Assumes nothing.
use Rattle.sew_ground.specs.Calls.{two_sew}
use Rattle.sew_operations.specs.Operations.{operation}
use Rattle.sew_calls.proofs.calls.two_sew.Goals as goal

pub returns : goal.returns
unfolding two_sew operation
returns c = c.operate.ensures
