-- Steps from a dart to another, and the steps of each policy.
--   step i j         the step by beta i of beta j, as one number
--   image rows c d   where the step c leads from d; 0, the null dart, where it leads nowhere
--   IsStep c         c is the number of a step
--   vertex .. volume_linear   the steps of the policies, in the order of the search
--   steps_of p        the steps of the policy p
--   steps_by p steps  the steps that a search by p goes by: its own, or the list beside it
--   policy_of c, cell_steps c   the policy of a class of cells, and its steps
use Rattle.std.specs.Prelude.{ℕ, ◌+◌, ◌*◌, ◌/◌, ◌%◌, ◌<◌, List, [], ◌∷◌, cond, ltb}
use Rattle.map_betas.specs.Betas.{beta}
use Rattle.cell_steps.specs.declared.policy.OrbitPolicy.{OrbitPolicy}
use Rattle.cell_steps.specs.declared.policy.OrbitPolicy.TheVariants.{Vertex, VertexLinear, Edge, Face, FaceLinear, Volume, VolumeLinear, Custom}
use Rattle.cell_steps.specs.declared.cells.Class.{Class}
use Rattle.cell_steps.specs.declared.cells.Class.TheVariants as class

-- two betas as one number, the outer one first; one beta is its own number, so that lent betas are a list of steps as they stand
abbrev pub step : ℕ → ℕ → ℕ
step i j = 16 * i + j

unfoldable pub image : List ℕ → ℕ → ℕ → ℕ
image rows c d = cond (ltb c 16) (beta rows c d) (beta rows (c / 16) (beta rows (c % 16) d))

abbrev pub IsStep : ℕ → Type 0
IsStep c = (c < 64) × (c % 16 < 4)

-- the steps of each policy, in the order of the search (scope: steps): each generator of the cell and its inverse
abbrev pub vertex : List ℕ
vertex = step 1 2 ∷ step 2 0 ∷ step 1 3 ∷ step 3 0 ∷ step 2 3 ∷ step 3 2 ∷ []

-- a linear policy leaves the inverses out
abbrev pub vertex_linear : List ℕ
vertex_linear = step 1 2 ∷ step 1 3 ∷ step 2 3 ∷ []

-- beta 2 and beta 3 are their own inverses
abbrev pub edge : List ℕ
edge = 2 ∷ 3 ∷ []

-- beta 0 is the inverse of beta 1
abbrev pub face : List ℕ
face = 1 ∷ 0 ∷ 3 ∷ []

-- Face without its inverse
abbrev pub face_linear : List ℕ
face_linear = 1 ∷ 3 ∷ []

-- beta 1, its inverse, and beta 2
abbrev pub volume : List ℕ
volume = 1 ∷ 0 ∷ 2 ∷ []

-- Volume without its inverse
abbrev pub volume_linear : List ℕ
volume_linear = 1 ∷ 2 ∷ []

abbrev pub steps_of : OrbitPolicy → List ℕ
steps_of Vertex = vertex
steps_of VertexLinear = vertex_linear
steps_of Edge = edge
steps_of Face = face
steps_of FaceLinear = face_linear
steps_of Volume = volume
steps_of VolumeLinear = volume_linear
steps_of Custom = []

-- the steps of a policy; those of `Custom` are lent
abbrev pub steps_by : OrbitPolicy → List ℕ → List ℕ
steps_by Vertex steps = vertex
steps_by VertexLinear steps = vertex_linear
steps_by Edge steps = edge
steps_by Face steps = face
steps_by FaceLinear steps = face_linear
steps_by Volume steps = volume
steps_by VolumeLinear steps = volume_linear
steps_by Custom steps = steps

abbrev pub policy_of : Class → OrbitPolicy
policy_of class.Vertex = Vertex
policy_of class.Edge = Edge
policy_of class.Face = Face
policy_of class.Volume = Volume

abbrev pub cell_steps : Class → List ℕ
cell_steps class.Vertex = vertex
cell_steps class.Edge = edge
cell_steps class.Face = face
cell_steps class.Volume = volume
