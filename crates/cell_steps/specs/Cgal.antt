-- The orbit and the cells of the CGAL manual's chapter on combinatorial maps, in our paraphrase, apart from any search.
--   composed rows p d   the composition p of betas at d, the inner one last
--   Orbit rows Φ d x    x is in the orbit of d under the partial permutations Φ
--   vertexΦ .. volumeΦ  the permutations whose orbits are the cells of a 3-map
--   cellΦ c             those of a class of cells
use Rattle.std.specs.Prelude.{ℕ, ◌≡◌}
use mathlib.Core.List.{List, [], ◌∷◌, Memᴰ}
use Rattle.map_betas.specs.Betas.{beta}
use Rattle.cell_steps.specs.declared.cells.Class.{Class}
use Rattle.cell_steps.specs.declared.cells.Class.TheVariants.{Vertex, Edge, Face, Volume}

unfoldable pub composed : List ℕ → List ℕ → ℕ → ℕ
composed rows [] d = d
composed rows (i ∷ p) d = beta rows i (composed rows p d)

-- in our paraphrase: all that compositions of the permutations in Φ and of their inverses lead to from d
pub data Orbit (rows : List ℕ) (Φ : List (List ℕ)) (d : ℕ) : ℕ → Type 0 where
  self : Orbit rows Φ d d
  forth : {a b : ℕ} → Orbit rows Φ d a → (p : List ℕ) → Memᴰ p Φ → composed rows p a ≡ b → (b ≡ 0 → ⊥) → Orbit rows Φ d b
  back : {a b : ℕ} → Orbit rows Φ d a → (p : List ℕ) → Memᴰ p Φ → composed rows p b ≡ a → (a ≡ 0 → ⊥) → Orbit rows Φ d b

-- vertices, in our paraphrase: the orbits of b1 after b2, b1 after b3 and b2 after b3
abbrev pub vertexΦ : List (List ℕ)
vertexΦ = (1 ∷ 2 ∷ []) ∷ (1 ∷ 3 ∷ []) ∷ (2 ∷ 3 ∷ []) ∷ []

-- edges: those of b2 and b3
abbrev pub edgeΦ : List (List ℕ)
edgeΦ = (2 ∷ []) ∷ (3 ∷ []) ∷ []

-- faces: those of b1 and b3
abbrev pub faceΦ : List (List ℕ)
faceΦ = (1 ∷ []) ∷ (3 ∷ []) ∷ []

-- volumes: those of b1 and b2
abbrev pub volumeΦ : List (List ℕ)
volumeΦ = (1 ∷ []) ∷ (2 ∷ []) ∷ []

abbrev pub cellΦ : Class → List (List ℕ)
cellΦ Vertex = vertexΦ
cellΦ Edge = edgeΦ
cellΦ Face = faceΦ
cellΦ Volume = volumeΦ
