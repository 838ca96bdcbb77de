-- `calls::one_unsew` meets its contract: the operation of its name. Assumes nothing.
use Rattle.sew_ground.specs.Calls.{one_unsew}
use Rattle.sew_operations.specs.Operations.{operation, bare}
use Rattle.sew_unsew_calls.proofs.calls.one_unsew.Goals as goal

pub returns : goal.returns
unfolding one_unsew operation bare
returns c = c.operate_bare.ensures
