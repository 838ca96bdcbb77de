-- Worked examples, computed: the lists of a closed triangle and of a cube, and calls, done and refused. Assumes nothing.
use Rattle.std.specs.Prelude.{◌≡◌, ℕ, List, [], ◌∷◌, replicate, Err}
use mathlib.Core.Path.{refl}
use Rattle.map_betas.specs.declared.error.Loan.TheVariants.{Queue, Flags}
use Rattle.map_betas.specs.declared.error.Refusal.TheVariants.{ShortLoan, NotAMap, BadDart}
use Rattle.map_betas.specs.Answers.{outcome, done}
use Rattle.map_betas.specs.Maps.{bad_size, breaks, breach_at, free_at, unused, bound, first_breach, map_test}
use Rattle.map_betas.specs.Guards.{loan_test, no_dart, map_guard, guard_of}
use Rattle.cell_steps.specs.Steps.{image}
use Rattle.cell_steps.specs.Search.{mem, add, visit, search, orbit}
use Rattle.cell_steps.specs.Idents.{least_from, least, ident, size_of}
use Rattle.cell_lists.specs.CellLists.{cells_from, cells_by}
use Rattle.cell_faces.specs.Faces.{fresh, insert, lower, turn, leg, forward, backward, face_walk, face_id}
use Rattle.cell_steps.specs.declared.cells.Class.TheVariants.{Vertex, Edge, Face, Volume}
use Rattle.cell_names.specs.Cells.{list_of}
use Rattle.cell_names.specs.Calls.{id_call, list_call}

-- the closed triangle 1, 2, 3: vertices 1 2 3, edges 1 2 3, faces 1, volumes 1
triangle : List ℕ
triangle = 0 ∷ 0 ∷ 0 ∷ 0 ∷ 3 ∷ 2 ∷ 0 ∷ 0 ∷ 1 ∷ 3 ∷ 0 ∷ 0 ∷ 2 ∷ 1 ∷ 0 ∷ 0 ∷ []

-- no dart is unused
abbrev used : List ℕ
used = 0 ∷ 0 ∷ 0 ∷ 0 ∷ []

triangle_vertices : list_of Vertex triangle (replicate 4 0) ≡ 1 ∷ 2 ∷ 3 ∷ []
unfolding triangle image mem add visit search orbit least_from least ident cells_from cells_by
triangle_vertices = refl

triangle_edges : list_of Edge triangle (replicate 4 0) ≡ 1 ∷ 2 ∷ 3 ∷ []
unfolding triangle image mem add visit search orbit least_from least ident cells_from cells_by
triangle_edges = refl

triangle_faces : list_of Face triangle (replicate 4 0) ≡ 1 ∷ []
unfolding triangle image mem add visit search orbit least_from least ident cells_from cells_by fresh insert lower turn leg forward backward face_walk face_id
triangle_faces = refl

triangle_volumes : list_of Volume triangle (replicate 4 0) ≡ 1 ∷ []
unfolding triangle image mem add visit search orbit least_from least ident cells_from cells_by
triangle_volumes = refl

-- darts 1 and 2, and 3 that is 2-linked with 1
bent : List ℕ
bent = 0 ∷ 0 ∷ 0 ∷ 0 ∷ 0 ∷ 0 ∷ 3 ∷ 0 ∷ 0 ∷ 0 ∷ 0 ∷ 0 ∷ 0 ∷ 0 ∷ 1 ∷ 0 ∷ []

-- a dart that is unused is not listed, and the list's own length is the count; the flag of dart 0 says nothing
unused_call : list_call bent (7 ∷ 7 ∷ 7 ∷ 7 ∷ []) (8 ∷ 8 ∷ 8 ∷ 8 ∷ 8 ∷ []) (9 ∷ 9 ∷ 9 ∷ 9 ∷ []) (1 ∷ 0 ∷ 1 ∷ 0 ∷ []) Vertex
    ≡ outcome (done 0 2) (0 ∷ 0 ∷ 0 ∷ 0 ∷ [], 0 ∷ 0 ∷ 0 ∷ 0 ∷ 8 ∷ [], 1 ∷ 3 ∷ 9 ∷ 9 ∷ [])
unfolding bent image mem add visit search orbit least_from least ident cells_from cells_by bad_size breaks breach_at free_at unused bound first_breach map_test loan_test
    no_dart map_guard guard_of list_call
unused_call = refl

-- it is its own identifier, and alone
unused_id : id_call bent (7 ∷ 7 ∷ 7 ∷ 7 ∷ []) (8 ∷ 8 ∷ 8 ∷ 8 ∷ []) (0 ∷ 0 ∷ 1 ∷ 0 ∷ []) Volume 2
    ≡ outcome (done 2 1) (0 ∷ 0 ∷ 0 ∷ 0 ∷ [], 0 ∷ 0 ∷ 0 ∷ 0 ∷ [])
unfolding bent image mem add visit search orbit least_from least ident size_of cells_from cells_by bad_size breaks breach_at free_at unused bound first_breach
    map_test loan_test no_dart map_guard guard_of id_call
unused_id = refl

-- unused darts that are linked: the least is named
bound_call : list_call triangle (7 ∷ 7 ∷ 7 ∷ 7 ∷ []) (8 ∷ 8 ∷ 8 ∷ 8 ∷ []) (9 ∷ 9 ∷ 9 ∷ 9 ∷ []) (0 ∷ 0 ∷ 1 ∷ 1 ∷ []) Vertex
    ≡ outcome (Err (NotAMap 4 2)) (7 ∷ 7 ∷ 7 ∷ 7 ∷ [], 8 ∷ 8 ∷ 8 ∷ 8 ∷ [], 9 ∷ 9 ∷ 9 ∷ 9 ∷ [])
unfolding triangle bad_size breaks breach_at free_at unused bound first_breach map_test loan_test map_guard guard_of list_call
bound_call = refl

id_call_lem : id_call triangle (7 ∷ 7 ∷ 7 ∷ 7 ∷ 7 ∷ []) (8 ∷ 8 ∷ 8 ∷ 8 ∷ []) used Volume 3 ≡ outcome (done 1 3) (0 ∷ 0 ∷ 0 ∷ 0 ∷ 7 ∷ [], 0 ∷ 0 ∷ 0 ∷ 0 ∷ [])
unfolding triangle image mem add visit search orbit least_from least ident size_of cells_from cells_by bad_size breaks breach_at free_at unused bound first_breach
    map_test loan_test no_dart map_guard guard_of id_call
id_call_lem = refl

face_call : id_call triangle (7 ∷ 7 ∷ 7 ∷ 7 ∷ []) (8 ∷ 8 ∷ 8 ∷ 8 ∷ []) used Face 2 ≡ outcome (done 1 0) (0 ∷ 0 ∷ 0 ∷ 0 ∷ [], 0 ∷ 0 ∷ 0 ∷ 0 ∷ [])
unfolding triangle image mem add fresh insert lower turn leg forward backward face_walk face_id bad_size breaks breach_at free_at unused bound first_breach map_test
    loan_test no_dart map_guard guard_of id_call
face_call = refl

null_call : id_call triangle (7 ∷ 7 ∷ 7 ∷ 7 ∷ []) (8 ∷ 8 ∷ 8 ∷ 8 ∷ []) used Edge 0 ≡ outcome (done 0 0) (0 ∷ 0 ∷ 0 ∷ 0 ∷ [], 0 ∷ 0 ∷ 0 ∷ 0 ∷ [])
unfolding triangle image mem add visit search orbit least_from least ident size_of cells_from cells_by bad_size breaks breach_at free_at unused bound first_breach
    map_test loan_test no_dart map_guard guard_of id_call
null_call = refl

-- refused: the second loan, the fourth, the map, the dart; marks and queue stay as they were
queue_short : id_call triangle (7 ∷ 7 ∷ 7 ∷ 7 ∷ []) (8 ∷ 8 ∷ []) used Vertex 9 ≡ outcome (Err (ShortLoan Queue)) (7 ∷ 7 ∷ 7 ∷ 7 ∷ [], 8 ∷ 8 ∷ [])
unfolding triangle bad_size loan_test map_guard guard_of id_call
queue_short = refl

flags_short : list_call triangle (7 ∷ 7 ∷ 7 ∷ 7 ∷ []) (8 ∷ 8 ∷ 8 ∷ 8 ∷ []) (9 ∷ 9 ∷ 9 ∷ 9 ∷ []) [] Face
    ≡ outcome (Err (ShortLoan Flags)) (7 ∷ 7 ∷ 7 ∷ 7 ∷ [], 8 ∷ 8 ∷ 8 ∷ 8 ∷ [], 9 ∷ 9 ∷ 9 ∷ 9 ∷ [])
unfolding triangle bad_size loan_test map_guard guard_of list_call
flags_short = refl

no_map : id_call (0 ∷ 0 ∷ 0 ∷ 0 ∷ 0 ∷ 0 ∷ 1 ∷ 0 ∷ []) (7 ∷ 7 ∷ []) (8 ∷ 8 ∷ []) (0 ∷ 1 ∷ []) Edge 5 ≡ outcome (Err (NotAMap 2 1)) (7 ∷ 7 ∷ [], 8 ∷ 8 ∷ [])
unfolding bad_size breaks breach_at free_at unused bound first_breach map_test loan_test map_guard guard_of id_call
no_map = refl

no_dart_lem : id_call triangle (7 ∷ 7 ∷ 7 ∷ 7 ∷ []) (8 ∷ 8 ∷ 8 ∷ 8 ∷ []) used Face 4 ≡ outcome (Err (BadDart 1)) (7 ∷ 7 ∷ 7 ∷ 7 ∷ [], 8 ∷ 8 ∷ 8 ∷ 8 ∷ [])
unfolding triangle bad_size breaks breach_at free_at unused bound first_breach map_test loan_test no_dart map_guard guard_of id_call
no_dart_lem = refl

-- a cube of 24 darts: 8 vertices, 12 edges, 6 faces, 1 volume
cube : List ℕ
cube = 0 ∷ 0 ∷ 0 ∷ 0 ∷ 4 ∷ 2 ∷ 12 ∷ 0 ∷ 1 ∷ 3 ∷ 16 ∷ 0 ∷ 2 ∷ 4 ∷ 20 ∷ 0 ∷ 3 ∷ 1 ∷ 24 ∷ 0 ∷ 8 ∷ 6 ∷ 18 ∷ 0 ∷ 5 ∷ 7 ∷ 14 ∷ 0 ∷ 6 ∷ 8 ∷ 10 ∷ 0 ∷ 7 ∷ 5
    ∷ 22 ∷ 0 ∷ 12 ∷ 10 ∷ 23 ∷ 0 ∷ 9 ∷ 11 ∷ 7 ∷ 0 ∷ 10 ∷ 12 ∷ 13 ∷ 0 ∷ 11 ∷ 9 ∷ 1 ∷ 0 ∷ 16 ∷ 14 ∷ 11 ∷ 0 ∷ 13 ∷ 15 ∷ 6 ∷ 0 ∷ 14 ∷ 16 ∷ 17 ∷ 0 ∷ 15 ∷ 13
    ∷ 2 ∷ 0 ∷ 20 ∷ 18 ∷ 15 ∷ 0 ∷ 17 ∷ 19 ∷ 5 ∷ 0 ∷ 18 ∷ 20 ∷ 21 ∷ 0 ∷ 19 ∷ 17 ∷ 3 ∷ 0 ∷ 24 ∷ 22 ∷ 19 ∷ 0 ∷ 21 ∷ 23 ∷ 8 ∷ 0 ∷ 22 ∷ 24 ∷ 9 ∷ 0 ∷ 23 ∷ 21
    ∷ 4 ∷ 0 ∷ []

cube_vertices : list_of Vertex cube (replicate 25 0) ≡ 1 ∷ 2 ∷ 3 ∷ 4 ∷ 5 ∷ 6 ∷ 7 ∷ 8 ∷ []
unfolding cube image mem add visit search orbit least_from least ident cells_from cells_by
cube_vertices = refl

cube_edges : list_of Edge cube (replicate 25 0) ≡ 1 ∷ 2 ∷ 3 ∷ 4 ∷ 5 ∷ 6 ∷ 7 ∷ 8 ∷ 9 ∷ 11 ∷ 15 ∷ 19 ∷ []
unfolding cube image mem add visit search orbit least_from least ident cells_from cells_by
cube_edges = refl

cube_faces : list_of Face cube (replicate 25 0) ≡ 1 ∷ 5 ∷ 9 ∷ 13 ∷ 17 ∷ 21 ∷ []
unfolding cube image mem add visit search orbit least_from least ident cells_from cells_by fresh insert lower turn leg forward backward face_walk face_id
cube_faces = refl

cube_volumes : list_of Volume cube (replicate 25 0) ≡ 1 ∷ []
unfolding cube image mem add visit search orbit least_from least ident cells_from cells_by
cube_volumes = refl
