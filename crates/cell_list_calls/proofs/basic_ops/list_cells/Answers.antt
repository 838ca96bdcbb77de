-- `basic_ops::list_cells` meets its contract: it is the list by the identifiers of the class. Assumes nothing.
use Rattle.cell_names.specs.Calls.{list_call}
use Rattle.cell_list_calls.proofs.basic_ops.list_cells.Goals as goal

pub returns : goal.returns
unfolding list_call
returns c = c.list_by.ensures
