-- The operations on a map that have a plan, as one.
--   work_of      what an operation does while the plan has room
--   loans_of     the loans that it has, by their lengths
--   Slots       the slots that it looks at are there
--   operation   what it answers and leaves for any rows, flags, loans and darts
--   bare        the same of an operation that has no vertices
use Rattle.std.specs.Prelude.{ℕ, ◌*◌, ◌≤◌, List, [], ◌∷◌, Float, length}
use Rattle.map_betas.specs.declared.loans.Loans.{Loans}
use Rattle.map_betas.specs.Answers.{Outcome}
use Rattle.map_betas.specs.Guards.{scratch_of, vertex_loans, guard_of}
use Rattle.sew_points.specs.Geometry.{plus_zero}
use Rattle.sew_ground.specs.Sewn.{Work}
use Rattle.sew_ground.specs.One.{one_sew_on, one_unsew_on}
use Rattle.sew_ground.specs.Two.{two_sew_on, two_unsew_on}
use Rattle.sew_ground.specs.Calls.{SewLoans, sew_call}
use Rattle.sew_pairs.specs.Three.{three_unsew_on}
use Rattle.sew_operations.specs.declared.operations.Operation.{Operation}
use Rattle.sew_operations.specs.declared.operations.Operation.TheVariants.{OneSew, OneUnsew, TwoSew, TwoUnsew, ThreeUnsew}

abbrev pub work_of : Operation → List ℕ → List Float → List ℕ → ℕ → ℕ → Work
work_of OneSew vertices coordinates rows ld rd = one_sew_on rows ld rd
work_of OneUnsew vertices coordinates rows ld rd = one_unsew_on rows ld
work_of TwoSew vertices coordinates rows ld rd = two_sew_on vertices coordinates rows ld rd
work_of TwoUnsew vertices coordinates rows ld rd = two_unsew_on rows ld
work_of ThreeUnsew vertices coordinates rows ld rd = three_unsew_on rows ld

-- only the 2-sew has the vertices
abbrev pub loans_of : Operation → ℕ → ℕ → ℕ → ℕ → Loans
loans_of OneSew marks queue vertices coordinates = scratch_of marks queue
loans_of OneUnsew marks queue vertices coordinates = scratch_of marks queue
loans_of TwoSew marks queue vertices coordinates = vertex_loans marks queue vertices coordinates
loans_of TwoUnsew marks queue vertices coordinates = scratch_of marks queue
loans_of ThreeUnsew marks queue vertices coordinates = scratch_of marks queue

abbrev pub Slots : Operation → ℕ → ℕ → ℕ → Type 0
Slots OneSew n vertices coordinates = Unit {0}
Slots OneUnsew n vertices coordinates = Unit {0}
Slots TwoSew n vertices coordinates = (n ≤ vertices) × (3 * n ≤ coordinates)
Slots TwoUnsew n vertices coordinates = Unit {0}
Slots ThreeUnsew n vertices coordinates = Unit {0}

unfoldable pub operation : Operation → List ℕ → List ℕ → List ℕ → List ℕ → List ℕ → List Float → List ℕ → ℕ → ℕ → Outcome SewLoans
operation op rows marks queue flags vertices coordinates plan ld rd =
    sew_call (guard_of rows flags (loans_of op (length marks) (length queue) (length vertices) (length coordinates)) 1 ld rd) rows marks queue plan
    (work_of op vertices coordinates rows ld rd)

-- an operation that has no vertices, lent one slot that it does not look at
unfoldable pub bare : Operation → List ℕ → List ℕ → List ℕ → List ℕ → List ℕ → ℕ → ℕ → Outcome SewLoans
bare op rows marks queue flags plan ld rd = operation op rows marks queue flags (0 ∷ []) (plus_zero ∷ []) plan ld rd
