-- `calls::three_unsew` meets its contract: the operation of its name. Assumes nothing.
use Rattle.sew_pairs.specs.Calls.{three_unsew}
use Rattle.sew_operations.specs.Operations.{operation, bare}
use Rattle.sew_unsew_calls.proofs.calls.three_unsew.Goals as goal

pub returns : goal.returns
unfolding three_unsew operation bare
returns c = c.operate_bare.ensures
