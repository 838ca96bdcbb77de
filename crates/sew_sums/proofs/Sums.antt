-- Where the sizes that a plan says add up, for a reader: each for every well-formed map and real darts of it, and a sew that is done.
--   one_entry      what holds where an entry is there
--   merged         what an entry says of the cell that its merge leaves
--   one_sew_sum    where a 1-sew merges two vertices, the vertex of any dart of either is afterwards what its entry says
--   two_sew_sum    so where a 2-sew merges two edges
--   two_sew_near_sum, two_sew_end_sum   and two vertices, where its other merge of vertices is none or names no cell that this one names (`Apart`)
-- Each says that the name afterwards is the one that the entry says stays, and the size the sum of its two. Without `Apart` it need not hold:
-- `test_examples` has the smallest maps. Assumes nothing.
use Prim.Native.Nat.{ℕ, ◌+◌, ◌/◌}
use native.Mathlib.Nat.{min_comm, add_comm}
use native.Mathlib.Omega.{arith}
use mathlib.Core.Path.{◌≡◌, refl, sym, ap, ◌∙◌}
use mathlib.Core.Logic.{◌⊎◌, inl, inr, ⊎_elim, ◌≢◌}
use mathlib.Core.Bool.{Bool, true, false, cond, not, ◌&&◌, true≢false}
use mathlib.Core.List.{List, [], ◌∷◌}
use lib.Dec.{eqb}
use lib.Ieee.{Float}
use lib.ListN.{length}
use borrow.Author.Tests.{eqb-false, not-true}
use Rattle.map_betas.specs.declared.error.Refusal.TheVariants.{BadGeometry}
use Rattle.map_betas.specs.Betas.{beta, darts}
use Rattle.map_betas.specs.Guards.{Dart}
use Rattle.map_betas.specs.Maps.{WellFormed}
use Rattle.map_betas.specs.Cores.{link_core}
use Rattle.map_betas.proofs.Kept.{link_keeps, link_changes}
use Rattle.map_betas.proofs.Always.{link_length}
use Rattle.cell_steps.specs.declared.cells.Cell.{Cell}
use Rattle.cell_steps.specs.declared.cells.Class.{Class}
use Rattle.cell_steps.specs.declared.cells.Class.TheVariants.{Vertex, Edge}
use Rattle.cell_steps.specs.Cgal.{Orbit, vertexΦ, edgeΦ}
use Rattle.cell_steps.specs.Idents.{cell_of}
use Rattle.cell_steps.proofs.JoinLaws.{together}
use Rattle.sew_plan.specs.declared.Kind.TheVariants.{Merge}
use Rattle.sew_plan.specs.declared.Entry.{Entry}
use Rattle.sew_plan.specs.Plan.{merge_of}
use Rattle.sew_ground.specs.Entries.{entries_if}
use Rattle.sew_ground.specs.Sewn.{Work, work}
use Rattle.sew_ground.specs.One.{one_far, one_entries, one_sew_on}
use Rattle.sew_ground.specs.Two.{far_of, side_of, bad_sides, linked_sides, two_sew_on}
use Rattle.sew_sums.proofs.AddLaws.{Adds, Linked, link_adds, adds_as}
use Rattle.sew_sums.proofs.EndSum.{vertex_name, Apart, ends_cell}
use Rattle.std.specs.Prelude.{Err, is_ok}
use Rattle.sew_sums.proofs.EdgeSum as edges
use Rattle.sew_sums.proofs.VertexSum as vertices

first : Entry → List Entry → Entry
first e [] = e
first e (x ∷ l) = x

-- a merge that is there was asked for, and its cells have two names
pub one_entry : (asked : Bool) (c : Class) (a b : Cell) (e : Entry) → entries_if asked c Merge a b ≡ e ∷ [] →
    (asked ≡ true) × (a.least ≢ b.least) × (merge_of c a b ≡ e)
unfolding entries_if first
one_entry asked c a b e = go asked refl (eqb a.least b.least) refl
  where
    go : (s : Bool) → asked ≡ s → (t : Bool) → eqb a.least b.least ≡ t → cond (s && not t) (merge_of c a b ∷ []) [] ≡ e ∷ [] →
        (asked ≡ true) × (a.least ≢ b.least) × (merge_of c a b ≡ e)
    go false p t u q = absurd (omega (arith, ap (λ (l : List Entry). length l) q))
    go true p true u q = absurd (omega (arith, ap (λ (l : List Entry). length l) q))
    go true p false u q = (p, eqb-false a.least b.least u, ap (first (merge_of c a b)) q)

-- what an entry says of the cell that its merge leaves
abbrev pub merged : Entry → Cell
merged e = record { least = e.a; count = e.left + e.right }

-- the lesser name, and the sum
says : (c : Class) (a b : Cell) (e : Entry) → merge_of c a b ≡ e → together a b ≡ merged e
unfolding merge_of
says c a b e q = ap merged q

module _ (rows : List ℕ) (ld rd : ℕ) (w : WellFormed rows) (dl : Dart (darts rows) 1 ld) (dr : Dart (darts rows) 1 rd) where
  pub one_sew_sum : is_ok (one_sew_on rows ld rd).answer ≡ true → (e : Entry) → one_entries Merge rows ld rd ≡ e ∷ [] → (x : ℕ) →
      Orbit rows vertexΦ (one_far rows ld) x ⊎ Orbit rows vertexΦ rd x → cell_of Vertex (one_sew_on rows ld rd).rows x ≡ merged e
  unfolding one_sew_on one_entries
  one_sew_sum t e q x o =
      let k = one_entry (not (eqb (one_far rows ld) 0)) Vertex (cell_of Vertex rows (one_far rows ld)) (cell_of Vertex rows rd) e q in
      let n : one_far rows ld ≢ 0 = eqb-false (one_far rows ld) 0 (not-true (eqb (one_far rows ld) 0) k.0) in
      vertices.vertex_cell rows ld rd w dl dr t n k.1 x o ∙ says Vertex _ _ e k.2

  abbrev sewn_by : Bool → Work
  sewn_by b = cond b (work (Err (BadGeometry 2 ld rd)) rows []) (linked_sides rows ld rd (side_of rows ld) (side_of rows rd))

  -- a 2-sew that is done has linked its darts
  linked : (vertices : List ℕ) (coordinates : List Float) → is_ok (two_sew_on vertices coordinates rows ld rd).answer ≡ true →
      (is_ok (link_core rows 2 ld rd).answer ≡ true) × ((two_sew_on vertices coordinates rows ld rd).rows ≡ (link_core rows 2 ld rd).rows)
  unfolding two_sew_on linked_sides
  linked vertices coordinates = go (bad_sides vertices coordinates (side_of rows ld) (side_of rows rd))
    where
      go : (b : Bool) → is_ok (sewn_by b).answer ≡ true → (is_ok (link_core rows 2 ld rd).answer ≡ true) × ((sewn_by b).rows ≡ (link_core rows 2 ld rd).rows)
      go true t = absurd (true≢false (sym t))
      go false t = (t, refl)

  module _ (vertices : List ℕ) (coordinates : List Float) (d : is_ok (two_sew_on vertices coordinates rows ld rd).answer ≡ true) (e : Entry) where
    pub two_sew_sum : entries_if true Edge Merge (cell_of Edge rows ld) (cell_of Edge rows rd) ≡ e ∷ [] → (x : ℕ) →
        Orbit rows edgeΦ ld x ⊎ Orbit rows edgeΦ rd x → cell_of Edge (two_sew_on vertices coordinates rows ld rd).rows x ≡ merged e
    two_sew_sum q x o =
        let k = one_entry true Edge (cell_of Edge rows ld) (cell_of Edge rows rd) e q in
        let s = linked vertices coordinates d in
        ap (λ (r : List ℕ). cell_of Edge r x) s.1 ∙ edges.edge_cell rows ld rd w dl dr s.0 k.1 x o ∙ says Edge _ _ e k.2

    -- a merge of vertices, where the other is none or names no cell that it names
    ends : (x y : ℕ) → Dart (darts rows) 1 x → Dart (darts rows) 1 y → Adds rows (link_core rows 2 ld rd).rows (Linked 2 x y) →
        beta (link_core rows 2 ld rd).rows 2 x ≡ y → far_of rows y ≢ 0 → Apart rows x y → vertex_name rows x ≢ vertex_name rows (far_of rows y) → (v : ℕ) →
        Orbit rows vertexΦ x v ⊎ Orbit rows vertexΦ (far_of rows y) v →
        cell_of Vertex (two_sew_on vertices coordinates rows ld rd).rows v ≡ together (cell_of Vertex rows x) (cell_of Vertex rows (far_of rows y))
    ends x y dx dy adds set far apart n v o =
        let s = linked vertices coordinates d in
        let real : (z : ℕ) → Dart (darts rows) 1 z → z ≢ 0 = λ z k q. absurd (omega (arith, k.allowed)) in
        let long = ap (λ (k : ℕ). k / 4) (link_length rows 2 ld rd w (omega arith) (omega arith) dl dr) in
        ap (λ (r : List ℕ). cell_of Vertex r v) s.1
        ∙ ends_cell rows _ w x y dx.below dy.below (real x dx) (real y dy) adds set far apart
        (link_keeps rows 2 ld rd w (omega arith) (omega arith) dl dr s.0) long n v o

    -- where ld begins and rd ends, and where ld ends and rd begins
    pub two_sew_near_sum : entries_if (not (eqb (far_of rows rd) 0)) Vertex Merge (cell_of Vertex rows ld) (cell_of Vertex rows (far_of rows rd)) ≡ e ∷ [] →
        Apart rows ld rd → (v : ℕ) → Orbit rows vertexΦ ld v ⊎ Orbit rows vertexΦ (far_of rows rd) v →
        cell_of Vertex (two_sew_on vertices coordinates rows ld rd).rows v ≡ merged e
    two_sew_near_sum q apart v o =
        let t = (linked vertices coordinates d).0 in
        let k = one_entry (not (eqb (far_of rows rd) 0)) Vertex (cell_of Vertex rows ld) (cell_of Vertex rows (far_of rows rd)) e q in
        let far : far_of rows rd ≢ 0 = eqb-false (far_of rows rd) 0 (not-true (eqb (far_of rows rd) 0) k.0) in
        ends ld rd dl dr (link_adds rows 2 ld rd w (omega arith) (omega arith) dl dr t) (link_changes rows 2 ld rd w (omega arith) (omega arith) dl dr t).left
        far apart k.1 v o
        ∙ says Vertex _ _ e k.2

    pub two_sew_end_sum : entries_if (not (eqb (far_of rows ld) 0)) Vertex Merge (cell_of Vertex rows (far_of rows ld)) (cell_of Vertex rows rd) ≡ e ∷ [] →
        Apart rows rd ld → (v : ℕ) → Orbit rows vertexΦ (far_of rows ld) v ⊎ Orbit rows vertexΦ rd v →
        cell_of Vertex (two_sew_on vertices coordinates rows ld rd).rows v ≡ merged e
    two_sew_end_sum q apart v o =
        let t = (linked vertices coordinates d).0 in
        let k = one_entry (not (eqb (far_of rows ld) 0)) Vertex (cell_of Vertex rows (far_of rows ld)) (cell_of Vertex rows rd) e q in
        let far : far_of rows ld ≢ 0 = eqb-false (far_of rows ld) 0 (not-true (eqb (far_of rows ld) 0) k.0) in
        let turned = adds_as rows _ (Linked 2 ld rd) (Linked 2 rd ld) (λ i x y m. ⊎_elim inr inl m)
        (link_adds rows 2 ld rd w (omega arith) (omega arith) dl dr t) in
        ends rd ld dr dl turned (link_changes rows 2 ld rd w (omega arith) (omega arith) dl dr t).right far apart (λ z. k.1 (sym z)) v
        (⊎_elim inr inl o)
        ∙ (λ i.
        record {
          least = min_comm (vertex_name rows rd) (vertex_name rows (far_of rows ld)) i;
          count = add_comm (cell_of Vertex rows rd).count (cell_of Vertex rows (far_of rows ld)).count i;
        })
        ∙ says Vertex _ _ e k.2
