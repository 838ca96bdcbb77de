-- `plan::entry_of` meets its contract, by its kind. Assumes nothing.
use Rattle.sew_plan.specs.Plan.{merge_of, split_of}
use Rattle.sew_plan.proofs.entry_of.Goals as goal

pub returns-in-Merge : goal.returns-in-Merge
unfolding merge_of
returns-in-Merge c = simp (c.in-Merge.is, c.min-lesser.ensures)

pub returns-in-Split : goal.returns-in-Split
unfolding split_of
returns-in-Split c = simp (c.in-Split.is, c.min-lesser.ensures)
