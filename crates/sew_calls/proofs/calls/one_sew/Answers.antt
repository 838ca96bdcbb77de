-- `calls::one_sew` meets its contract: the operation of its name. Assumes nothing.
use Rattle.sew_ground.specs.Calls.{one_sew}
use Rattle.sew_operations.specs.Operations.{operation, bare}
use Rattle.sew_calls.proofs.calls.one_sew.Goals as goal

pub returns : goal.returns
unfolding one_sew operation bare
returns c = c.operate_bare.ensures
