-- How many darts a cell has.
--   size_real, size_null   the size of a real dart's cell is its orbit's length; the null dart's is 0
--   size_few               no cell has more darts than the map
--   cell_is, cell_null     the two numbers that the core finds are the cell; of the null dart they are 0 and 0
--   Counts, counts_one     k is the number of darts of a cell of the CGAL manual; there is one such number
--   size_counts            the size is that number
--   size_same              and the same for every dart of the cell
-- Assumes nothing.
use Prim.Native.Nat.{ℕ, ◌≤◌, ◌<◌}
use native.Mathlib.Nat.{le_antisymm}
use mathlib.Core.Path.{◌≡◌, refl, sym, ap, ◌∙◌}
use mathlib.Core.Logic.{◌↔◌, ◌≢◌}
use mathlib.Core.Bool.{Bool, cond}
use mathlib.Core.List.{List}
use lib.ListN.{length}
use borrow.Author.Tests.{ne_eqb}
use Rattle.map_betas.specs.Betas.{darts}
use Rattle.map_betas.specs.Maps.{WellFormed}
use Rattle.cell_steps.specs.declared.cells.Class.{Class}
use Rattle.cell_steps.specs.declared.cells.Class.TheVariants as class
use Rattle.cell_steps.specs.declared.cells.Cell.{Cell}
use Rattle.cell_steps.specs.declared.policy.OrbitPolicy.TheVariants as policy
use Rattle.cell_steps.specs.Steps.{IsStep, cell_steps}
use Rattle.cell_steps.specs.Search.{In, NoRep, orbit}
use Rattle.cell_steps.specs.Cgal.{Orbit}
use Rattle.cell_steps.specs.Idents.{least, ident, size_of, cell_of}
use Rattle.cell_steps.proofs.Lists.{norep_le, pigeonhole}
use Rattle.cell_steps.proofs.StepLaws.{step_of}
use Rattle.cell_steps.proofs.OrbitLaws.{orbit_norep, orbit_below}
use Rattle.cell_steps.proofs.CgalLaws.{Serves, orbit_reach}
use Rattle.cell_steps.proofs.IdentLaws.{reach_below, reach_real}
use Rattle.cell_steps.proofs.CellLaws.{same_on, same_back, cell_orbit, ident_alone}

module _ (class : Class) (rows : List ℕ) where
  pub size_real : (d : ℕ) → d ≢ 0 → size_of class rows d ≡ length (orbit rows (cell_steps class) d)
  unfolding size_of
  size_real d n = ap (λ (b : Bool). cond b 0 (length (orbit rows (cell_steps class) d))) (ne_eqb d 0 n)

  pub size_null : size_of class rows 0 ≡ 0
  unfolding size_of
  size_null = refl

  pub size_few : WellFormed rows → (d : ℕ) → d < darts rows → length (orbit rows (cell_steps class) d) ≤ darts rows
  size_few w d h =
      pigeonhole (darts rows) (orbit rows (cell_steps class) d) (orbit_norep rows (cell_steps class) w.below d h)
      (orbit_below rows (cell_steps class) w.below d h)

  pub cell_is : (steps : List ℕ) (d low k : ℕ) → d ≢ 0 → steps ≡ cell_steps class → low ≡ least (orbit rows steps d) → k ≡ length (orbit rows steps d) →
      ◌≡◌ {A = Cell} (record { least = low; count = k }) (cell_of class rows d)
  unfolding ident
  cell_is steps d low k n s e f =
      let e' = e ∙ ap (λ (l : List ℕ). least (orbit rows l d)) s in
      let f' = f ∙ ap (λ (l : List ℕ). length (orbit rows l d)) s ∙ sym (size_real d n) in
      λ t. record { least = e' t; count = f' t }

class_are : (c : Class) (s : ℕ) → In s (cell_steps c) → IsStep s
class_are class.Vertex = step_of policy.Vertex
class_are class.Edge = step_of policy.Edge
class_are class.Face = step_of policy.Face
class_are class.Volume = step_of policy.Volume

pub cell_null : (c : Class) (rows : List ℕ) → WellFormed rows → (d : ℕ) → d ≡ 0 → ◌≡◌ {A = Cell} (record { least = 0; count = 0 }) (cell_of c rows d)
cell_null c rows w d z =
    let e : 0 ≡ ident rows (cell_steps c) 0 = sym (ident_alone rows w 0 w.null (cell_steps c) (class_are c)) in
    let s = size_null c rows in
    rw z (λ t. record { least = e t; count = sym s t })

-- ---- the number of darts of a cell of the CGAL manual

-- a list of the cell's darts, each once, is k long
pub record Counts (rows : List ℕ) (Φ : List (List ℕ)) (d k : ℕ) : Type 0 where
  pub list : List ℕ
  pub norep : NoRep list
  pub exact : (x : ℕ) → In x list ↔ Orbit rows Φ d x
  pub long : k ≡ length list

-- of two darts of one cell too
one_length : (rows : List ℕ) (Φ : List (List ℕ)) (d e k m : ℕ) → Orbit rows Φ d e → Counts rows Φ d k → Counts rows Φ e m → k ≡ m
one_length rows Φ d e k m o a b =
    let there : (x : ℕ) → In x a.list → In x b.list = λ x i. (b.exact x).1 (same_on rows Φ (same_back rows Φ o) ((a.exact x).0 i)) in
    let again : (x : ℕ) → In x b.list → In x a.list = λ x i. (a.exact x).1 (same_on rows Φ o ((b.exact x).0 i)) in
    a.long ∙ le_antisymm (norep_le a.list b.list a.norep there) (norep_le b.list a.list b.norep again) ∙ sym b.long

pub counts_one : (rows : List ℕ) (Φ : List (List ℕ)) (d k m : ℕ) → Counts rows Φ d k → Counts rows Φ d m → k ≡ m
counts_one rows Φ d k m = one_length rows Φ d d k m Orbit.self

module _ (class : Class) (Φ : List (List ℕ)) (s : Serves (cell_steps class) Φ) (rows : List ℕ) (w : WellFormed rows) where
  pub size_counts : (d : ℕ) → d < darts rows → d ≢ 0 → Counts rows Φ d (size_of class rows d)
  size_counts d h n =
      record {
        list = orbit rows (cell_steps class) d;
        norep = orbit_norep rows (cell_steps class) w.below d h;
        exact = cell_orbit (cell_steps class) Φ s rows w d h;
        long = size_real class rows d n;
      }

  pub size_same : (d e : ℕ) → d < darts rows → d ≢ 0 → Orbit rows Φ d e → size_of class rows d ≡ size_of class rows e
  size_same d e h n o =
      let r = orbit_reach rows w (cell_steps class) Φ s o in
      one_length rows Φ d e _ _ o (size_counts d h n)
      (size_counts e (reach_below rows (cell_steps class) w.below d h r) (reach_real rows (cell_steps class) n r))
