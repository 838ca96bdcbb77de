-- Worked examples, computed: orbits of a closed triangle, and calls on it, done and refused. Assumes nothing.
use Prim.Native.Nat.{ℕ}
use mathlib.Core.Path.{◌≡◌, refl}
use mathlib.Core.List.{List, [], ◌∷◌}
use Rattle.map_betas.specs.declared.error.Loan.TheVariants.{Marks, Flags}
use Rattle.map_betas.specs.declared.error.Refusal.TheVariants.{ShortLoan, NotAMap, BadDart, BadBeta}
use Rattle.map_betas.specs.Maps.{bad_size, breaks, breach_at, free_at, unused, bound, first_breach, map_test}
use Rattle.map_betas.specs.Answers.{outcome, done}
use Rattle.map_betas.specs.Guards.{loan_test, no_dart, map_guard, guard_of}
use Rattle.cell_steps.specs.declared.policy.OrbitPolicy.TheVariants.{Vertex, Face, FaceLinear}
use Rattle.cell_steps.specs.Steps.{image, vertex, face}
use Rattle.cell_steps.specs.Search.{mem, add, visit, search, orbit}
use Rattle.cell_steps.specs.Calls.{custom_test, orbit_call, custom_call}
use Rattle.std.specs.Prelude.{Err}

-- the closed triangle 1, 2, 3
triangle : List ℕ
triangle = 0 ∷ 0 ∷ 0 ∷ 0 ∷ 3 ∷ 2 ∷ 0 ∷ 0 ∷ 1 ∷ 3 ∷ 0 ∷ 0 ∷ 2 ∷ 1 ∷ 0 ∷ 0 ∷ []

-- no dart is unused
abbrev used : List ℕ
used = 0 ∷ 0 ∷ 0 ∷ 0 ∷ []

face_of_2 : orbit triangle face 2 ≡ 2 ∷ 3 ∷ 1 ∷ []
unfolding triangle image mem add visit search orbit
face_of_2 = refl

vertex_of_2 : orbit triangle vertex 2 ≡ 2 ∷ []
unfolding triangle image mem add visit search orbit
vertex_of_2 = refl

-- the place behind the count and the fifth mark stay
face_call : orbit_call triangle (7 ∷ 7 ∷ 7 ∷ 7 ∷ 7 ∷ []) (9 ∷ 9 ∷ 9 ∷ 9 ∷ []) used Face 2 ≡ outcome (done 0 3) (0 ∷ 0 ∷ 0 ∷ 0 ∷ 7 ∷ [], 2 ∷ 3 ∷ 1 ∷ 9 ∷ [])
unfolding triangle image mem add visit search orbit bad_size breaks breach_at free_at unused bound first_breach map_test loan_test no_dart map_guard guard_of orbit_call
face_call = refl

null_call : orbit_call triangle (7 ∷ 7 ∷ 7 ∷ 7 ∷ []) (9 ∷ 9 ∷ 9 ∷ 9 ∷ []) used Vertex 0 ≡ outcome (done 0 1) (0 ∷ 0 ∷ 0 ∷ 0 ∷ [], 0 ∷ 9 ∷ 9 ∷ 9 ∷ [])
unfolding triangle image mem add visit search orbit bad_size breaks breach_at free_at unused bound first_breach map_test loan_test no_dart map_guard guard_of orbit_call
null_call = refl

-- marks are tested before the output, and both before the dart
short_call : orbit_call triangle (7 ∷ 7 ∷ 7 ∷ []) [] used FaceLinear 9 ≡ outcome (Err (ShortLoan Marks)) (7 ∷ 7 ∷ 7 ∷ [], [])
unfolding triangle bad_size loan_test map_guard guard_of orbit_call
short_call = refl

dart_call : custom_call triangle (7 ∷ 7 ∷ 7 ∷ 7 ∷ []) (9 ∷ 9 ∷ 9 ∷ 9 ∷ []) used (4 ∷ []) 4
    ≡ outcome (Err (BadDart 1)) (7 ∷ 7 ∷ 7 ∷ 7 ∷ [], 9 ∷ 9 ∷ 9 ∷ 9 ∷ [])
unfolding triangle bad_size breaks breach_at free_at unused bound first_breach map_test loan_test no_dart map_guard guard_of custom_test
    custom_call
dart_call = refl

beta_call : custom_call triangle (7 ∷ 7 ∷ 7 ∷ 7 ∷ []) (9 ∷ 9 ∷ 9 ∷ 9 ∷ []) used (1 ∷ 5 ∷ 4 ∷ []) 1
    ≡ outcome (Err (BadBeta 5)) (7 ∷ 7 ∷ 7 ∷ 7 ∷ [], 9 ∷ 9 ∷ 9 ∷ 9 ∷ [])
unfolding triangle bad_size breaks breach_at free_at unused bound first_breach map_test loan_test no_dart map_guard guard_of custom_test
    custom_call
beta_call = refl

-- lent betas are steps, in their order
none_call : custom_call triangle (7 ∷ 7 ∷ 7 ∷ 7 ∷ []) (9 ∷ 9 ∷ 9 ∷ 9 ∷ []) used [] 1 ≡ outcome (done 0 1) (0 ∷ 0 ∷ 0 ∷ 0 ∷ [], 1 ∷ 9 ∷ 9 ∷ 9 ∷ [])
unfolding triangle image mem add visit search orbit bad_size breaks breach_at free_at unused bound first_breach map_test loan_test no_dart map_guard guard_of custom_test
    custom_call
none_call = refl

-- an unused dart stands alone; flags are tested after the output, and an unused dart that is linked is refused
unused_call : orbit_call (0 ∷ 0 ∷ 0 ∷ 0 ∷ 0 ∷ 0 ∷ 0 ∷ 0 ∷ []) (7 ∷ 7 ∷ []) (9 ∷ 9 ∷ []) (0 ∷ 1 ∷ []) Face 1 ≡ outcome (done 0 1) (0 ∷ 0 ∷ [], 1 ∷ 9 ∷ [])
unfolding image mem add visit search orbit bad_size breaks breach_at free_at unused bound first_breach map_test loan_test no_dart map_guard guard_of orbit_call
unused_call = refl

flags_call : orbit_call triangle (7 ∷ 7 ∷ 7 ∷ 7 ∷ []) (9 ∷ 9 ∷ 9 ∷ 9 ∷ []) (0 ∷ 0 ∷ 0 ∷ []) Face 9
    ≡ outcome (Err (ShortLoan Flags)) (7 ∷ 7 ∷ 7 ∷ 7 ∷ [], 9 ∷ 9 ∷ 9 ∷ 9 ∷ [])
unfolding triangle bad_size loan_test map_guard guard_of orbit_call
flags_call = refl

bound_call : orbit_call triangle (7 ∷ 7 ∷ 7 ∷ 7 ∷ []) (9 ∷ 9 ∷ 9 ∷ 9 ∷ []) (1 ∷ 0 ∷ 2 ∷ 1 ∷ []) Face 9
    ≡ outcome (Err (NotAMap 4 2)) (7 ∷ 7 ∷ 7 ∷ 7 ∷ [], 9 ∷ 9 ∷ 9 ∷ 9 ∷ [])
unfolding triangle bad_size breaks breach_at free_at unused bound first_breach map_test loan_test map_guard guard_of orbit_call
bound_call = refl
