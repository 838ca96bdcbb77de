-- `plan::write_entry` meets its contract: the entry's numbers are written over its places. Assumes nothing.
use mathlib.Core.Path.{◌∙◌}
use Rattle.sew_plan.proofs.PlanLaws.{entry_stored}
use Rattle.sew_plan.proofs.write_entry.Goals as goal

pub returns : goal.returns
returns c = entry_stored c.args.plan.now c.args.at c.args.e _ (c.copy_from_slice.ensures.after ∙ c.from-words.ensures)
