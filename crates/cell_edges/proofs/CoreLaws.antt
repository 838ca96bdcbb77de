-- The loop of the core, and the cell that it finds.
--   Going, going-..   the loop of `walk_arm`: the arm that is still ahead
--   once_cell         a list that holds each dart of a cell once, from the cell's dart on, gives the cell
--   round_cell, open_cell   the edge by one arm, and by both
-- Assumes nothing.
use Prim.Native.Nat.{ℕ, ◌+◌, ◌-◌, ◌≤◌, ◌<◌, min}
use native.Mathlib.Nat.{le_antisymm}
use native.Mathlib.Omega.{arith}
use mathlib.Core.Path.{◌≡◌, refl, sym, ap, ◌∙◌, subst}
use mathlib.Core.Logic.{◌≢◌}
use mathlib.Core.Bool.{cond}
use mathlib.Core.List.{List, [], ◌∷◌, ◌++◌}
use lib.Dec.{eqb}
use lib.ListN.{length, length-append}
use Rattle.map_betas.specs.Betas.{beta, darts}
use Rattle.map_betas.specs.Maps.{WellFormed}
use Rattle.cell_steps.specs.declared.cells.Class.{Class}
use Rattle.cell_steps.specs.declared.cells.Class.TheVariants.{Edge}
use Rattle.cell_steps.specs.declared.cells.Cell.{Cell}
use Rattle.cell_steps.specs.Steps.{edge, cell_steps}
use Rattle.cell_steps.specs.Search.{In, orbit}
use Rattle.cell_steps.specs.Idents.{least_from, least, cell_of}
use Rattle.cell_steps.proofs.Lists.{norep_le, pigeonhole}
use Rattle.cell_steps.proofs.SearchLaws.{Ext}
use Rattle.cell_steps.proofs.OrbitLaws.{orbit_norep, orbit_starts, orbit_sound, orbit_complete}
use Rattle.cell_steps.proofs.IdentLaws.{least_in, least_le, reach_below}
use Rattle.cell_steps.proofs.SizeLaws.{cell_is}
use Rattle.cell_edges.specs.Arms.{arm_of, end_of, others, edge_walk}
use Rattle.cell_edges.proofs.ArmLaws.{Over, others_round, others_open}
use Rattle.cell_edges.proofs.WalkLaws.{Once, walk_once}
use Rattle.cell_edges.proofs.AlongLaws.{Along, along_starts, along_on, along_turn, along_ends}

least_append : (x : ℕ) (a b : List ℕ) → least_from x (a ++ b) ≡ least_from (least_from x a) b
unfolding least_from
least_append x [] b = refl
least_append x (y ∷ a) b = least_append (min x y) a b

-- ---- the loop: low and met stand for the darts that were met before it, and for those that it has met

pub record Going (rows : List ℕ) (i d least count low met by x : ℕ) : Type 0 where
  pub seen : List ℕ
  pub along : Along rows i d seen by x
  pub lowest : low ≡ least_from least seen
  pub counted : met ≡ count + length seen

module _ (rows : List ℕ) (w : WellFormed rows) (i d least count : ℕ) (lt : d < darts rows) (i-edge : In i edge) where
  pub going_starts : Going rows i d least count least count i d
  unfolding least_from
  going_starts = record { seen = []; along = along_starts rows w i d lt i-edge; lowest = refl; counted = omega arith }

  module _ (low met by x y : ℕ) (v : Going rows i d least count low met by x) (y-is : y ≡ beta rows by x) where
    module _ (n : y ≢ 0) (o : y ≢ d) where
      pub going_on : met < darts rows + count
      going_on = let h = along_on rows w i d lt i-edge v.seen by x y v.along y-is n o in let c = v.counted in omega arith

      pub going_turn : (low' by' : ℕ) → low' ≡ min low y → by' ≡ 5 - by → Going rows i d least count low' (met + 1) by' y
      unfolding least_from
      going_turn low' by' l b =
          record {
            seen = v.seen ++ (y ∷ []);
            along = along_turn rows w i d lt i-edge v.seen by x y v.along y-is n o by' b;
            lowest = l ∙ ap (λ (t : ℕ). min t y) v.lowest ∙ sym (least_append least v.seen (y ∷ []));
            counted = let s = length-append v.seen (y ∷ []) in let c = v.counted in omega arith;
          }

    pub going_ends : Over d y → (low ≡ least_from least (arm_of rows i d)) × (met ≡ count + length (arm_of rows i d)) × (y ≡ end_of rows i d)
    going_ends o =
        let e = along_ends rows w i d lt i-edge v.seen by x y v.along y-is o in
        (v.lowest ∙ ap (least_from least) e.0, v.counted ∙ ap (λ (l : List ℕ). count + length l) e.0, e.1)

-- ---- the cell

-- a list that holds each dart of a cell once, from the cell's dart on, gives the cell's two numbers
module _ (class : Class) (rows : List ℕ) (w : WellFormed rows) (d : ℕ) (lt : d < darts rows) (l : List ℕ) (o : Once rows (cell_steps class) d (d ∷ l)) where
  abbrev steps : List ℕ
  steps = cell_steps class

  begins : Ext (d ∷ []) (d ∷ l)
  begins = record { rest = l; is = refl }

  same_least : least (d ∷ l) ≡ least (orbit rows steps d)
  same_least =
      let s = orbit_starts rows steps w.below d lt in
      le_antisymm
      (least_le begins _ (o.every _ (orbit_sound rows steps w.below d lt _ (least_in s))))
      (least_le s _ (orbit_complete rows steps w.below d lt (o.only _ (least_in begins))))

  same_count : length (d ∷ l) ≡ length (orbit rows steps d)
  same_count =
      le_antisymm
      (norep_le (d ∷ l) (orbit rows steps d) o.norep (λ x m. orbit_complete rows steps w.below d lt (o.only x m)))
      (norep_le (orbit rows steps d) (d ∷ l) (orbit_norep rows steps w.below d lt) (λ x m. o.every x (orbit_sound rows steps w.below d lt x m)))

  pub once_cell : 0 < d → (low k : ℕ) → low ≡ least_from d l → k ≡ 1 + length l → ◌≡◌ {A = Cell} (record { least = low; count = k }) (cell_of class rows d)
  unfolding least
  once_cell real low k e f =
      let c : length (d ∷ l) ≡ length (orbit rows steps d) = same_count in
      cell_is class rows steps d low k (omega arith) refl (e ∙ same_least) (omega arith)

module _ (rows : List ℕ) (w : WellFormed rows) (d : ℕ) (lt : d < darts rows) (real : 0 < d) where
  -- the edge as the walk finds it
  edge_is : (l : List ℕ) → others rows d ≡ l → (low k : ℕ) → low ≡ least_from d l → k ≡ 1 + length l →
      ◌≡◌ {A = Cell} (record { least = low; count = k }) (cell_of Edge rows d)
  edge_is l e = once_cell Edge rows w d lt l (subst (λ (t : List ℕ). Once rows edge d (d ∷ t)) e (walk_once rows w d lt)) real

  pub round_cell : (low k e : ℕ) → low ≡ least_from d (arm_of rows 2 d) → k ≡ 1 + length (arm_of rows 2 d) → e ≡ end_of rows 2 d → e ≢ 0 →
      ◌≡◌ {A = Cell} (record { least = low; count = k }) (cell_of Edge rows d)
  round_cell low k e l c q n = edge_is (arm_of rows 2 d) (others_round rows d (λ z. n (q ∙ z))) low k l c

  pub open_cell : (low₁ k₁ e low k : ℕ) → low₁ ≡ least_from d (arm_of rows 2 d) → k₁ ≡ 1 + length (arm_of rows 2 d) → e ≡ end_of rows 2 d → e ≡ 0 →
      low ≡ least_from low₁ (arm_of rows 3 d) → k ≡ k₁ + length (arm_of rows 3 d) → ◌≡◌ {A = Cell} (record { least = low; count = k }) (cell_of Edge rows d)
  open_cell low₁ k₁ e low k l₁ c₁ q z l c =
      edge_is (arm_of rows 2 d ++ arm_of rows 3 d) (others_open rows d (sym q ∙ z)) low k
      (l ∙ ap (λ (t : ℕ). least_from t (arm_of rows 3 d)) l₁ ∙ sym (least_append d (arm_of rows 2 d) (arm_of rows 3 d)))
      (let s = length-append (arm_of rows 2 d) (arm_of rows 3 d) in omega arith)

  -- the first arm of a real dart has room for d
  pub arm_few : 1 + length (arm_of rows 2 d) ≤ darts rows
  unfolding others
  arm_few =
      let o = walk_once rows w d lt in
      let rest : List ℕ = cond (eqb (end_of rows 2 d) 0) (arm_of rows 3 d) [] in
      let p : length (d ∷ (arm_of rows 2 d ++ rest)) ≤ darts rows =
      pigeonhole (darts rows) (edge_walk rows d) o.norep (λ x m. reach_below rows edge w.below d lt (o.only x m)) in
      let s = length-append (arm_of rows 2 d) rest in
      omega arith
