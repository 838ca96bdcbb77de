-- The worked examples: each call of the table leaves what the table says (`agree`), computed from the definitions that the calls'
-- contracts cite. Assumes nothing.
use mathlib.Core.Path.{◌≡◌, refl}
use lib.Ieee.{add as plus, sub, mul, le}
use Rattle.map_betas.specs.Maps.{bad_size, breaks, breach_at, free_at, unused, bound, first_breach, map_test}
use Rattle.map_betas.specs.Guards.{loan_test, no_dart, map_guard, guard_of}
use Rattle.map_betas.specs.Cores.{link_core, unlink_core}
use Rattle.link_walk.specs.Walk.{step_of, walk}
use Rattle.link_walk.specs.Three.{three_link_on, three_unlink_on}
use Rattle.link_walk.specs.Calls.{three_link, three_unlink}
use Rattle.link_glue.specs.Examples.{calls, sayings, lines as linkLines}
use Rattle.cell_steps.specs.Steps.{image}
use Rattle.cell_steps.specs.Search.{mem, add, visit, search, orbit}
use Rattle.cell_steps.specs.Idents.{least_from, least, ident, size_of}
use Rattle.cell_faces.specs.Faces.{fresh, insert, lower, turn, leg, forward, backward, face_walk, face_id}
use Rattle.cell_names.specs.Calls.{id_call}
use Rattle.sew_points.specs.Geometry.{slot_at, slots_refuse, bad_geometry}
use Rattle.sew_plan.specs.Plan.{merge_of, split_of, plan_of, put_plan}
use Rattle.sew_ground.specs.Entries.{entries_if}
use Rattle.sew_ground.specs.Sewn.{settled, sewn}
use Rattle.sew_ground.specs.One.{both_three, one_entries, one_links, one_sew_on, second_cut, agrees, one_unlinks, one_unsew_on}
use Rattle.sew_ground.specs.Two.{side_of, two_entries, linked_sides, two_sew_on, two_unsew_on}
use Rattle.sew_ground.specs.Calls.{one_sew, one_unsew, two_sew, two_unsew}
use Rattle.sew_pairs.specs.Pairs.{three_far, pair_entries, leg_over, lefts, rights, entries_of, pairs_from, end_from}
use Rattle.sew_pairs.specs.Three.{first_pairs, first_end, back_pairs, pairs_of, splits_of, three_entries, three_unsew_on}
use Rattle.sew_pairs.specs.Calls.{three_unsew}
use Rattle.sew_pairs.specs.Examples.{lines as unsewLines}
use Rattle.test_examples.specs.Sews.{lines as sewLines}
use Rattle.test_examples.specs.Table.{seen, face_lines, cell_lines, table}

pub agree : calls table ≡ sayings table
unfolding table seen face_lines cell_lines linkLines sewLines unsewLines calls sayings three_link three_unlink three_unsew id_call guard_of map_guard loan_test no_dart
    map_test first_breach bound unused free_at breach_at breaks bad_size three_link_on three_unlink_on link_core unlink_core step_of walk image mem add visit search orbit
    least_from least ident size_of fresh insert lower turn leg forward backward face_walk face_id split_of plan_of put_plan entries_if settled sewn three_far pair_entries
    lefts rights entries_of leg_over pairs_from end_from first_pairs first_end back_pairs pairs_of splits_of three_entries three_unsew_on merge_of one_sew one_unsew two_sew
    two_unsew both_three one_entries one_links one_sew_on second_cut agrees one_unlinks one_unsew_on side_of two_entries linked_sides two_sew_on two_unsew_on slot_at
    slots_refuse bad_geometry plus sub mul le
agree = refl
