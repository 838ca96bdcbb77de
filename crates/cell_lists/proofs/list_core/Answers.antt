-- `list_core` meets its contract: the list under the steps of the class, which lead back. Assumes nothing.
use Rattle.cell_steps.proofs.StepLaws.{class_steps}
use Rattle.cell_steps.proofs.CgalLaws.{class_symmetric}
use Rattle.cell_lists.proofs.list_core.Goals as goal

pub list_by-requires : goal.list_by-requires
list_by-requires c =
    let s = class_steps c.args.class c.from.result c.from.ensures _ c.steps_of-steps.ensures.1 in
    (c.requires.0, rw s (class_symmetric _ c.args.rows.formed c.args.class), c.requires.3, c.requires.1, c.requires.2)
