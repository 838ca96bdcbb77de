-- `calls::two_unsew` meets its contract: the operation of its name. Assumes nothing.
use Rattle.sew_ground.specs.Calls.{two_unsew}
use Rattle.sew_operations.specs.Operations.{operation, bare}
use Rattle.sew_unsew_calls.proofs.calls.two_unsew.Goals as goal

pub returns : goal.returns
unfolding two_unsew operation bare
returns c = c.operate_bare.ensures
