-- A side, from what the code has read (`side_is`); identifiers and far ends that are darts (`..-below`, `slot_lent`); scratch that is as it was
-- (`clean_same`, `clean_on`). Assumes nothing.
use Rattle.std.specs.Prelude.{max, ◌≡◌, ℕ, ◌*◌, ◌/◌, ◌<◌, ◌≤◌, List, length}
use native.Mathlib.Omega.{arith}
use mathlib.Core.Path.{ap, ◌∙◌}
use native.Mathlib.Nat.{lt_of_le_of_lt}
use Rattle.cell_steps.specs.declared.cells.Cell.{Cell}
use Rattle.cell_steps.specs.declared.cells.Class.TheVariants.{Vertex, Edge}
use Rattle.cell_steps.specs.Steps.{vertex}
use Rattle.cell_steps.specs.Idents.{cell_of}
use Rattle.cell_steps.proofs.IdentLaws.{ident_le}
use lib.Ieee.{Float}
use Rattle.map_betas.specs.Betas.{beta, darts}
use Rattle.map_betas.specs.Maps.{WellFormed}
use Rattle.sew_points.specs.Geometry.{Lent}
use Rattle.cell_steps.specs.Loans.{Clean}
use Rattle.sew_ground.specs.declared.sides.Side.{Side}
use Rattle.sew_ground.specs.Two.{far_of, side_of}

pub clean_same : (n : ℕ) (m q m' q' : List ℕ) → Clean n m q → m' ≡ m → q' ≡ q → Clean n m' q'
clean_same n m q m' q' s e f = rw (e, f) s

pub side_is : (rows : List ℕ) (d b₁ b₃ far : ℕ) (e n v : Cell) → b₁ ≡ beta rows 1 d → b₃ ≡ beta rows 3 d → far ≡ max b₁ b₃ →
    e ≡ cell_of Edge rows d → n ≡ cell_of Vertex rows d → v ≡ cell_of Vertex rows far → record { far = far; edge = e; near = n; end = v } ≡ side_of rows d
unfolding side_of
side_is rows d b₁ b₃ far e n v p₁ p₃ pf pe pn pv =
    let q : far ≡ far_of rows d = pf ∙ ap (λ (x : ℕ). max x b₃) p₁ ∙ ap (λ (x : ℕ). max (beta rows 1 d) x) p₃ in
    let q₂ : v ≡ cell_of Vertex rows (far_of rows d) = pv ∙ ap (cell_of Vertex rows) q in
    λ t. record { far = q t; edge = pe t; near = pn t; end = q₂ t }

-- scratch for the same number of darts
pub clean_on : (rows rows₁ m q : List ℕ) → length rows₁ ≡ length rows → Clean (darts rows) m q → Clean (darts rows₁) m q
clean_on rows rows₁ m q e s = rw (ap (λ (k : ℕ). k / 4) e) s

-- an identifier is a dart
pub vertex_below : (rows : List ℕ) (d : ℕ) → WellFormed rows → d < darts rows → (cell_of Vertex rows d).least < darts rows
vertex_below rows d w h = lt_of_le_of_lt (ident_le rows vertex w.below d h) h

pub far_below : (rows : List ℕ) (d : ℕ) → WellFormed rows → far_of rows d < darts rows
far_below rows d w = omega (arith, w.below 1 d, w.below 3 d)

module _ (rows : List ℕ) (d : ℕ) (s : Side) (w : WellFormed rows) (h : d < darts rows) (e : s ≡ side_of rows d) where
  pub near_below : s.near.least < darts rows
  unfolding side_of
  near_below = rw (ap (λ (x : Side). x.near.least) e) (vertex_below rows d w h)

  pub end_below : s.end.least < darts rows
  unfolding side_of
  end_below = rw (ap (λ (x : Side). x.end.least) e) (vertex_below rows (far_of rows d) w (far_below rows d w))

pub slot_lent : (n x : ℕ) (vertices : List ℕ) (coordinates : List Float) → x < n → n ≤ length vertices → 3 * n ≤ length coordinates →
    Lent vertices coordinates x
slot_lent n x vertices coordinates h a b = (omega arith, omega arith)
