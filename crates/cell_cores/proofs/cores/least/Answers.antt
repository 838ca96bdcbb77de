-- `cores::least` meets its contract: what the iterator finds is the list's least. Assumes nothing.
use Rattle.std.proofs.Common.{rules}
use Rattle.cell_steps.proofs.IdentLaws.{least_unique}
use Rattle.cell_cores.proofs.cores.least.Goals as goal

pub returns : goal.returns
returns c = least_unique _ _ (search rules) (search rules)
