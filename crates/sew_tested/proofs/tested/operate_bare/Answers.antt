-- `tested::operate_bare` meets its contract: the operation, lent one slot. Assumes nothing.
use lib.Ieee.{of_bits}
use Rattle.sew_operations.specs.Operations.{bare}
use Rattle.sew_tested.proofs.tested.operate_bare.Goals as goal

pub returns : goal.returns
unfolding bare of_bits
returns c = c.operate.ensures
