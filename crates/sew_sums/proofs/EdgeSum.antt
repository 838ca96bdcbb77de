-- The edge that a 2-sew merges has exactly the darts of both edges.
--   edge_joins   a 2-link joins the edges of its two darts, and no others
--   edge_cell    where they were two, the edge afterwards has the lesser name, and as many darts as both
-- Assumes nothing.
use Prim.Native.Nat.{ℕ, ◌/◌, ◌<◌}
use native.Mathlib.Omega.{arith}
use mathlib.Core.Path.{◌≡◌, refl, sym, ap, ◌∙◌, subst}
use mathlib.Core.Logic.{◌⊎◌, inl, inr, ⊎_elim, ◌≢◌}
use mathlib.Core.Bool.{true}
use mathlib.Core.List.Memᴰ
use mathlib.Core.List.{List}
use mathlib.Mathlib.Logic.Relation.ReflTransGenᴰ
use Rattle.map_betas.specs.Betas.{beta, darts}
use Rattle.map_betas.specs.Guards.{Dart}
use Rattle.map_betas.specs.Maps.{WellFormed}
use Rattle.map_betas.specs.Cores.{link_core}
use Rattle.map_betas.proofs.Kept.{link_keeps, link_changes}
use Rattle.map_betas.proofs.Always.{link_length}
use Rattle.cell_steps.specs.declared.cells.Class.TheVariants.{Edge}
use Rattle.cell_steps.specs.Steps.{image, edge}
use Rattle.cell_steps.specs.Search.{In, Step, Reach}
use Rattle.cell_steps.specs.Cgal.{Orbit, edgeΦ}
use Rattle.cell_steps.specs.Idents.{cell_of}
use Rattle.cell_steps.proofs.StepLaws.{each_at, image_one}
use Rattle.cell_steps.proofs.CgalLaws.{edge_serves}
use Rattle.cell_steps.proofs.JoinLaws.{Sides, Joins, together, joined_cell}
use Rattle.sew_sums.proofs.AddLaws.{Adds, Linked, link_adds, adds_step}
use Rattle.std.specs.Prelude.{is_ok}

module _ (rows : List ℕ) (ld rd : ℕ) (w : WellFormed rows) (dl : Dart (darts rows) 1 ld) (dr : Dart (darts rows) 1 rd)
    (t : is_ok (link_core rows 2 ld rd).answer ≡ true) where
  abbrev rows₁ : List ℕ
  rows₁ = (link_core rows 2 ld rd).rows

  adds : Adds rows rows₁ (Linked 2 ld rd)
  adds = link_adds rows 2 ld rd w (omega arith) (omega arith) dl dr t

  -- a new image leads from one of the two darts to the other
  sides : (k x y : ℕ) → Linked 2 ld rd k x y → Sides rows edge ld rd x y
  sides k x y n =
      ⊎_elim
      (λ q. inl (subst (Reach rows edge ld) (sym q.1) ReflTransGenᴰ.refl, subst (Reach rows edge rd) (sym q.2) ReflTransGenᴰ.refl))
      (λ q. inr (subst (Reach rows edge rd) (sym q.1) ReflTransGenᴰ.refl, subst (Reach rows edge ld) (sym q.2) ReflTransGenᴰ.refl))
      n

  less : (s : ℕ) → In s edge → s < 4
  less = each_at (λ (s : ℕ). s < 4) edge (omega arith)

  one_image : (rows : List ℕ) (s d : ℕ) → In s edge → image rows s d ≡ beta rows s d
  one_image rows s d m = let h = less s m in sym (image_one rows s d (beta rows s d) (omega arith) refl)

  crosses : (x y : ℕ) → Step rows₁ edge x y → Reach rows edge x y ⊎ Sides rows edge ld rd x y
  crosses x y t =
      let s = t.by in
      let e : beta rows₁ s x ≡ y = sym (one_image rows₁ s x t.listed) ∙ t.leads in
      ⊎_elim
      (λ q.
      inl
      (ReflTransGenᴰ.tail ReflTransGenᴰ.refl
      (record { by = s; listed = t.listed; leads = one_image rows s x t.listed ∙ sym q ∙ e; real = t.real })))
      (λ n. inr (sides s x y (subst (Linked 2 ld rd s x) e n)))
      (adds.added s x (less s t.listed))

  pub edge_joins : Joins rows rows₁ edge ld rd
  edge_joins =
      let two : In 2 edge = Memᴰ.head refl in
      let e = (link_changes rows 2 ld rd w (omega arith) (omega arith) dl dr t).left in
      record {
        kept = adds_step rows rows₁ (Linked 2 ld rd) adds w edge edge_serves.betas;
        crosses = λ x y e. crosses x y;
        bridge =
            ReflTransGenᴰ.tail ReflTransGenᴰ.refl
            (record { by = 2; listed = two; leads = one_image rows₁ 2 ld two ∙ e; real = λ z. absurd (omega (arith, dr.allowed)) });
      }

  pub edge_cell : (cell_of Edge rows ld).least ≢ (cell_of Edge rows rd).least → (x : ℕ) → Orbit rows edgeΦ ld x ⊎ Orbit rows edgeΦ rd x →
      cell_of Edge rows₁ x ≡ together (cell_of Edge rows ld) (cell_of Edge rows rd)
  edge_cell =
      let many = ap (λ (k : ℕ). k / 4) (link_length rows 2 ld rd w (omega arith) (omega arith) dl dr) in
      joined_cell Edge edgeΦ edge_serves rows rows₁ ld rd w (link_keeps rows 2 ld rd w (omega arith) (omega arith) dl dr t) edge_joins many dl.below
      dr.below (λ z. absurd (omega (arith, dl.allowed))) (λ z. absurd (omega (arith, dr.allowed)))
