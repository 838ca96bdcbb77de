-- `cores::cell_core` meets its contract: the null dart has no cell, an edge is walked, and every other cell searched. Assumes nothing.
use Rattle.cell_steps.proofs.SizeLaws.{cell_null}
use Rattle.cell_cores.proofs.cores.cell_core.Goals as goal

pub returns-then-d-eq0-clause-value : goal.returns-then-d-eq0-clause-value
returns-then-d-eq0-clause-value c = cell_null c.args.class c.args.rows.list.now c.args.rows.formed _ c.if-d-eq0.true
