-- The worked examples of the 3-unsew: each call of the table leaves what the table says (`agree`), computed from the definitions.
-- Assumes nothing.
use Rattle.std.specs.Prelude.{◌≡◌}
use mathlib.Core.Path.{refl}
use Rattle.map_betas.specs.Maps.{bad_size, breaks, breach_at, free_at, unused, bound, first_breach, map_test}
use Rattle.map_betas.specs.Guards.{loan_test, no_dart, map_guard, guard_of}
use Rattle.map_betas.specs.Cores.{unlink_core}
use Rattle.link_walk.specs.Walk.{step_of, walk}
use Rattle.link_walk.specs.Three.{three_unlink_on}
use Rattle.link_glue.specs.Examples.{calls, sayings}
use Rattle.cell_steps.specs.Steps.{image}
use Rattle.cell_steps.specs.Search.{mem, add, visit, search, orbit}
use Rattle.cell_steps.specs.Idents.{least_from, least, ident, size_of}
use Rattle.sew_plan.specs.Plan.{split_of, plan_of, put_plan}
use Rattle.sew_ground.specs.Entries.{entries_if}
use Rattle.sew_ground.specs.Sewn.{settled, sewn}
use Rattle.sew_pairs.specs.Pairs.{three_far, pair_entries, leg_over, lefts, rights, entries_of, pairs_from, end_from}
use Rattle.sew_pairs.specs.Three.{first_pairs, first_end, back_pairs, pairs_of, splits_of, three_entries, three_unsew_on}
use Rattle.sew_pairs.specs.Calls.{three_unsew}
use Rattle.sew_pairs.specs.Examples.{lines}

pub agree : calls lines ≡ sayings lines
unfolding lines calls sayings three_unsew guard_of map_guard loan_test no_dart map_test first_breach bound unused free_at breach_at breaks bad_size three_unlink_on
    unlink_core step_of walk image mem add visit search orbit least_from least ident size_of split_of plan_of put_plan entries_if settled sewn three_far pair_entries
    lefts rights entries_of leg_over pairs_from end_from first_pairs first_end back_pairs pairs_of splits_of three_entries three_unsew_on
agree = refl
