-- The worked examples of links: each call of the table leaves what the table says (`agree`), computed from the definitions.
-- Assumes nothing.
use mathlib.Core.Path.{◌≡◌, refl}
use Rattle.map_betas.specs.Maps.{bad_size, breaks, breach_at, free_at, unused, bound, first_breach, map_test}
use Rattle.map_betas.specs.Guards.{loan_test, no_dart, map_guard, guard_of}
use Rattle.map_betas.specs.Cores.{link_core, unlink_core}
use Rattle.link_walk.specs.Walk.{step_of, walk}
use Rattle.link_walk.specs.Three.{three_link_on, three_unlink_on}
use Rattle.link_walk.specs.Calls.{three_link, three_unlink}
use Rattle.link_glue.specs.Examples.{lines, calls, sayings}

pub agree : calls lines ≡ sayings lines
unfolding lines calls sayings three_link three_unlink guard_of map_guard loan_test no_dart map_test first_breach bound unused free_at breach_at breaks bad_size
    three_link_on three_unlink_on link_core unlink_core step_of walk
agree = refl
