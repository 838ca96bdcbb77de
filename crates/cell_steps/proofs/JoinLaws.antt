-- Two orbits that become one when more steps lead from dart to dart, for every list of steps.
--   Sides        one of two darts is in the orbit of a, and the other in that of b
--   Joins        every step is still there, each new one from these two orbits leads to where it could be reached, or to the other, and a reaches b
--   joined       then the orbit of a has exactly the darts of both
--   joined_long  and as many as both have, where they were two
--   joined_name  its name is the lesser of theirs
--   together     two cells as one: the lesser name, and the sum of their sizes
--   joined_darts, joined_cell  so with the cells of the CGAL manual, and with what the calls say of a cell
-- Assumes nothing.
use Prim.Native.Nat.{ℕ, ◌+◌, ◌≤◌, ◌<◌, min}
use native.Mathlib.Nat.{le_antisymm, le_trans, min-le_left, min-le_right}
use native.Mathlib.Omega.{arith}
use mathlib.Core.Path.{◌≡◌, sym, ◌∙◌}
use mathlib.Core.Logic.{◌⊎◌, inl, inr, ⊎_elim, ◌↔◌, ◌≢◌}
use mathlib.Core.List.Memᴰ
use mathlib.Core.List.{List, ◌++◌}
use mathlib.Mathlib.Logic.Relation.ReflTransGenᴰ
use lib.ListN.{length, length-append}
use Rattle.map_betas.specs.Betas.{darts}
use Rattle.map_betas.specs.Maps.{WellFormed}
use Rattle.cell_steps.specs.declared.cells.Cell.{Cell}
use Rattle.cell_steps.specs.declared.cells.Class.{Class}
use Rattle.cell_steps.specs.Steps.{cell_steps}
use Rattle.cell_steps.specs.Search.{In, NoRep, orbit, Step, Reach, Bounded, Symmetric}
use Rattle.cell_steps.specs.Cgal.{Orbit}
use Rattle.cell_steps.specs.Idents.{ident, cell_of}
use Rattle.cell_steps.proofs.Lists.{norep_join, norep_le}
use Rattle.cell_steps.proofs.OrbitLaws.{orbit_norep, orbit_sound, orbit_complete}
use Rattle.cell_steps.proofs.CgalLaws.{Serves, reach_orbit, orbit_reach, class_symmetric}
use Rattle.cell_steps.proofs.IdentLaws.{min_one, ident_reached, ident_least, ident_same, reach_symm}
use Rattle.cell_steps.proofs.SizeLaws.{size_real, size_same}

abbrev pub Sides : List ℕ → List ℕ → ℕ → ℕ → ℕ → ℕ → Type 0
Sides rows steps a b x y = (Reach rows steps a x × Reach rows steps b y) ⊎ (Reach rows steps b x × Reach rows steps a y)

pub record Joins (rows rows' steps : List ℕ) (a b : ℕ) : Type 0 where
  pub kept : (x y : ℕ) → Step rows steps x y → Step rows' steps x y
  pub crosses : (x y : ℕ) → Reach rows steps a x ⊎ Reach rows steps b x → Step rows' steps x y → Reach rows steps x y ⊎ Sides rows steps a b x y
  pub bridge : Reach rows' steps a b

module _ (rows rows' steps : List ℕ) (a b : ℕ) (j : Joins rows rows' steps a b) where
  still : {x y : ℕ} → Reach rows steps x y → Reach rows' steps x y
  still ReflTransGenᴰ.refl = ReflTransGenᴰ.refl
  still (ReflTransGenᴰ.tail r t) = ReflTransGenᴰ.tail (still r) (j.kept _ _ t)

  abbrev Either : ℕ → Type 0
  Either x = Reach rows steps a x ⊎ Reach rows steps b x

  onward : {x y : ℕ} → Either x → Reach rows steps x y ⊎ Sides rows steps a b x y → Either y
  onward e (inl t) = ⊎_elim (λ r. inl (ReflTransGenᴰ.trans r t)) (λ r. inr (ReflTransGenᴰ.trans r t)) e
  onward e (inr s) = ⊎_elim (λ p. inr p.1) (λ p. inl p.1) s

  either : {x : ℕ} → Reach rows' steps a x → Either x
  either ReflTransGenᴰ.refl = inl ReflTransGenᴰ.refl
  either (ReflTransGenᴰ.tail r t) = let e = either r in onward e (j.crosses _ _ e t)

  pub joined : (x : ℕ) → Reach rows' steps a x ↔ (Reach rows steps a x ⊎ Reach rows steps b x)
  joined x = (either, λ e. ⊎_elim still (λ r. ReflTransGenᴰ.trans j.bridge (still r)) e)

  pub joined_name : Bounded rows → Bounded rows' → a < darts rows → b < darts rows → a < darts rows' →
      ident rows' steps a ≡ min (ident rows steps a) (ident rows steps b)
  joined_name w w' ha hb h' =
      let to-a = ident_least rows' steps w' a h' ((joined _).1 (inl (ident_reached rows steps w a ha))) in
      let to-b = ident_least rows' steps w' a h' ((joined _).1 (inr (ident_reached rows steps w b hb))) in
      let least : min (ident rows steps a) (ident rows steps b) ≤ ident rows' steps a =
      ⊎_elim
      (λ r. le_trans (min-le_left (ident rows steps a) (ident rows steps b)) (ident_least rows steps w a ha r))
      (λ r. le_trans (min-le_right (ident rows steps a) (ident rows steps b)) (ident_least rows steps w b hb r))
      ((joined _).0 (ident_reached rows' steps w' a h')) in
      le_antisymm (⊎_elim (λ e. rw e to-a) (λ e. rw e to-b) (min_one (ident rows steps a) (ident rows steps b))) least

  module _ (w : Bounded rows) (w' : Bounded rows') (y : Symmetric rows steps) (ha : a < darts rows) (hb : b < darts rows) (h' : a < darts rows')
      (two : Reach rows steps a b → ⊥) where
    abbrev both : List ℕ
    both = orbit rows steps a ++ orbit rows steps b

    both_norep : NoRep both
    both_norep =
        norep_join (orbit rows steps a) (orbit rows steps b) (orbit_norep rows steps w a ha) (orbit_norep rows steps w b hb)
        (λ x p q. two (ReflTransGenᴰ.trans (orbit_sound rows steps w a ha x p) (reach_symm rows steps y (orbit_sound rows steps w b hb x q))))

    into : (x : ℕ) → In x both → In x (orbit rows' steps a)
    into x m =
        orbit_complete rows' steps w' a h'
        ((joined x).1
        (⊎_elim (λ p. inl (orbit_sound rows steps w a ha x p)) (λ q. inr (orbit_sound rows steps w b hb x q))
        (Memᴰ.append_cases (orbit rows steps a) m)))

    back : (x : ℕ) → In x (orbit rows' steps a) → In x both
    back x m =
        ⊎_elim
        (λ r. Memᴰ.append_left (orbit rows steps b) (orbit_complete rows steps w a ha r))
        (λ r. Memᴰ.append_right (orbit rows steps a) (orbit_complete rows steps w b hb r))
        ((joined x).0 (orbit_sound rows' steps w' a h' x m))

    pub joined_long : length (orbit rows' steps a) ≡ length (orbit rows steps a) + length (orbit rows steps b)
    joined_long =
        le_antisymm
        (norep_le (orbit rows' steps a) both (orbit_norep rows' steps w' a h') back)
        (norep_le both (orbit rows' steps a) both_norep into)
        ∙ length-append (orbit rows steps a) (orbit rows steps b)

pub joined_darts : (steps : List ℕ) (Φ : List (List ℕ)) → Serves steps Φ → (rows rows' : List ℕ) (a b : ℕ) → WellFormed rows → WellFormed rows' →
    Joins rows rows' steps a b → (x : ℕ) → Orbit rows' Φ a x ↔ (Orbit rows Φ a x ⊎ Orbit rows Φ b x)
joined_darts steps Φ s rows rows' a b w w' j x =
    let r = joined rows rows' steps a b j x in (
      λ o. ⊎_elim (λ p. inl (reach_orbit rows w steps Φ s p)) (λ p. inr (reach_orbit rows w steps Φ s p)) (r.0 (orbit_reach rows' w' steps Φ s o)),
      λ o. reach_orbit rows' w' steps Φ s
          (r.1 (⊎_elim (λ p. inl (orbit_reach rows w steps Φ s p)) (λ p. inr (orbit_reach rows w steps Φ s p)) o)),
    )

abbrev pub together : Cell → Cell → Cell
together a b = record { least = min a.least b.least; count = a.count + b.count }

-- the cell of any dart of either
pub joined_cell : (class : Class) (Φ : List (List ℕ)) → Serves (cell_steps class) Φ → (rows rows' : List ℕ) (a b : ℕ) → WellFormed rows → WellFormed rows' →
    Joins rows rows' (cell_steps class) a b → darts rows' ≡ darts rows → a < darts rows → b < darts rows → a ≢ 0 → b ≢ 0 →
    (cell_of class rows a).least ≢ (cell_of class rows b).least → (x : ℕ) → Orbit rows Φ a x ⊎ Orbit rows Φ b x →
    cell_of class rows' x ≡ together (cell_of class rows a) (cell_of class rows b)
joined_cell class Φ s rows rows' a b w w' j m ha hb na nb n x o =
    let steps : List ℕ = cell_steps class in
    let y = class_symmetric rows w class in
    let y' = class_symmetric rows' w' class in
    let h' : a < darts rows' = omega (arith, m, ha) in
    let there = (joined_darts steps Φ s rows rows' a b w w' j x).1 o in
    let r = orbit_reach rows' w' steps Φ s there in
    let k = joined_long rows rows' steps a b j w.below w'.below y ha hb h' (λ q. n (ident_same rows steps w.below y a b ha q)) in
    let p = size_real class rows a na in
    let q = size_real class rows b nb in
    let size = sym (size_same class Φ s rows' w' a x h' na there) ∙ size_real class rows' a na ∙ k ∙ (λ i. sym p i + sym q i) in
    let name = sym (ident_same rows' steps w'.below y' a x h' r) ∙ joined_name rows rows' steps a b j w.below w'.below ha hb h' in
    λ i. record { least = name i; count = size i }
