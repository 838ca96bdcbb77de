-- Worked examples, computed: the two lists of faces of an open strip. Assumes nothing.
use Rattle.std.specs.Prelude.{◌≡◌, ℕ, List, [], ◌∷◌}
use mathlib.Core.Path.{refl}
use Rattle.map_betas.specs.Answers.{outcome, done}
use Rattle.map_betas.specs.Maps.{bad_size, breaks, breach_at, free_at, unused, bound, first_breach, map_test}
use Rattle.map_betas.specs.Guards.{loan_test, no_dart, map_guard, guard_of}
use Rattle.cell_steps.specs.Steps.{image}
use Rattle.cell_steps.specs.Search.{mem, add, visit, search, orbit}
use Rattle.cell_steps.specs.Idents.{least_from, least, ident}
use Rattle.cell_lists.specs.CellLists.{cells_from, cells_by}
use Rattle.cell_faces.specs.Faces.{fresh, insert, lower, turn, leg, forward, backward, face_walk, face_id}
use Rattle.cell_steps.specs.declared.cells.Class.TheVariants.{Face}
use Rattle.cell_names.specs.Calls.{list_call}
use Rattle.cell_face_orbits.specs.FaceOrbits.{face_orbits_call}

-- the open strip: 1 leads to 2, and nothing leads on. It is one face, where the Rust's list has both darts; an unused dart 3 is in neither.
strip : List ℕ
strip = 0 ∷ 0 ∷ 0 ∷ 0 ∷ 0 ∷ 2 ∷ 0 ∷ 0 ∷ 1 ∷ 0 ∷ 0 ∷ 0 ∷ 0 ∷ 0 ∷ 0 ∷ 0 ∷ []

strip_orbits : face_orbits_call strip (7 ∷ 7 ∷ 7 ∷ 7 ∷ []) (8 ∷ 8 ∷ 8 ∷ 8 ∷ []) (9 ∷ 9 ∷ 9 ∷ 9 ∷ []) (0 ∷ 0 ∷ 0 ∷ 1 ∷ [])
    ≡ outcome (done 0 1) (0 ∷ 0 ∷ 0 ∷ 0 ∷ [], 0 ∷ 0 ∷ 0 ∷ 0 ∷ [], 1 ∷ 9 ∷ 9 ∷ 9 ∷ [])
unfolding strip image mem add visit search orbit least_from least ident cells_from cells_by bad_size breaks breach_at free_at unused bound first_breach map_test
    loan_test no_dart map_guard guard_of face_orbits_call
strip_orbits = refl

strip_faces : list_call strip (7 ∷ 7 ∷ 7 ∷ 7 ∷ []) (8 ∷ 8 ∷ 8 ∷ 8 ∷ []) (9 ∷ 9 ∷ 9 ∷ 9 ∷ []) (0 ∷ 0 ∷ 0 ∷ 1 ∷ []) Face
    ≡ outcome (done 0 2) (0 ∷ 0 ∷ 0 ∷ 0 ∷ [], 0 ∷ 0 ∷ 0 ∷ 0 ∷ [], 1 ∷ 2 ∷ 9 ∷ 9 ∷ [])
unfolding strip image mem add cells_from cells_by fresh insert lower turn leg forward backward face_walk face_id bad_size breaks breach_at free_at unused bound
    first_breach map_test loan_test no_dart map_guard guard_of list_call
strip_faces = refl
