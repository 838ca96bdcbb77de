-- Going through the darts in order, with the cells of the darts passed marked: a dart that is not marked is the least of its cell.
--   Known                      a list has exactly the darts whose identifier is below d, the null dart perhaps
--   known_closed               it leads nowhere but to itself
--   known_starts, -old, -same, -new, -more   it is kept from dart to dart
--   cells_flags, cells_other, cells_own      the step laws of `cells_from`
-- Assumes nothing.
use mathlib.Core.Path.{◌≡◌, refl, sym, ap, ◌∙◌, subst}
use mathlib.Core.Bool.{Bool, cond, ◌&&◌, and-false}
use mathlib.Core.Logic.{◌⊎◌, inl, inr, ⊎_elim}
use mathlib.Core.List.Memᴰ
use mathlib.Core.List.{List, [], ◌∷◌}
use mathlib.Mathlib.Logic.Relation.ReflTransGenᴰ
use Prim.Native.Nat.{ℕ, suc, ◌+◌, ◌<◌}
use native.Mathlib.Nat.{eq-or-lt_of_le}
use native.Mathlib.Omega.{arith}
use lib.Dec.{eqb}
use lib.ListN.{get_or}
use borrow.Author.Tests.{eqb-true, eqb-false, eq-eqb, ne_eqb}
use Rattle.cell_lists.specs.CellLists.{cells_from}
use Rattle.cell_joins.specs.Joins.{Whole, Joined}
use Rattle.map_betas.specs.Betas.{darts}
use Rattle.cell_steps.specs.Idents.{ident}
use Rattle.cell_steps.specs.Search.{In, Reach, Bounded, Symmetric}
use Rattle.cell_steps.specs.Steps.{image}
use Rattle.cell_steps.proofs.Lists.{bool}
use Rattle.cell_steps.proofs.OrbitLaws.{image_below}
use Rattle.cell_steps.proofs.IdentLaws.{reach_real, ident_reached, ident_le, ident_same, ident_one, ident_twice}

-- l has the darts whose identifier is below d, and no others
pub record Known (rows steps : List ℕ) (d : ℕ) (l : List ℕ) : Type 0 where
  pub only : (x : ℕ) → In x l → ident rows steps x < d
  pub every : (x : ℕ) → x < darts rows → (x ≡ 0 → ⊥) → ident rows steps x < d → In x l

module _ (rows steps : List ℕ) (b : Bounded rows) (y : Symmetric rows steps) where
  abbrev id : ℕ → ℕ
  id x = ident rows steps x

  id_real : (x : ℕ) → x < darts rows → (x ≡ 0 → ⊥) → id x ≡ 0 → ⊥
  id_real x h r = reach_real rows steps r (ident_reached rows steps b x h)

  -- the null dart, whose identifier is itself
  pub known_starts : Known rows steps 1 (0 ∷ [])
  known_starts =
      record {
        only = λ x m.
            let e : x ≡ 0 = Memᴰ.eq_of_singleton m in
            omega (arith, e, ident_le rows steps b x (subst (λ (i : ℕ). i < darts rows) (sym e) (omega (arith, b 0 0))));
        every = λ x h r l. let z : id x ≡ 0 = omega arith in absurd (id_real x h r z);
      }

  module _ (d : ℕ) (l : List ℕ) (h : d < darts rows) (v : Known rows steps d l) where
    -- the list leads nowhere but to itself
    pub known_closed : ((x : ℕ) → In x l → x < darts rows) → Whole rows steps l
    known_closed lt =
        record {
          image_in = λ x m s t.
              ⊎_elim
              (λ e. inl (eqb-true (image rows s x) 0 e))
              (λ e.
              let z = eqb-false (image rows s x) 0 e in
              let p : Reach rows steps x (image rows s x) = ReflTransGenᴰ.single (record { by = s; listed = t; leads = refl; real = z }) in
              inr (v.every (image rows s x) (image_below rows b s x) z (subst (λ (i : ℕ). i < d)
              (ident_same rows steps b y x (image rows s x) (lt x m) p) (v.only x m))))
              (bool (eqb (image rows s x) 0));
        }

    -- a listed dart is not its own identifier
    pub known_old : In d l → id d ≡ d → ⊥
    known_old m e = omega (arith, v.only d m)

    pub known_same : In d l → Known rows steps (d + 1) l
    known_same m =
        record {
          only = λ x q. omega (arith, v.only x q);
          every = λ x x_lt r q.
              ⊎_elim
              (λ e. absurd (known_old m (subst (λ (z : ℕ). id z ≡ z) e (ident_twice rows steps b y x x_lt))))
              (λ t. v.every x x_lt r t)
              (below_or x d q);
        }
      where
        below_or : (x e : ℕ) → id x < e + 1 → (id x ≡ e) ⊎ (id x < e)
        below_or x e q = eq-or-lt_of_le (omega arith)

    module _ (r : d ≡ 0 → ⊥) (out : In d l → ⊥) where
      -- a dart that is not listed is
      pub known_new : id d ≡ d
      known_new = ⊎_elim (λ e. e) (λ t. absurd (out (v.every d h r t))) (eq-or-lt_of_le (ident_le rows steps b d h))

      module _ (m : List ℕ) (j : Joined rows steps d l m) where
        pub known_more : Known rows steps (d + 1) m
        known_more =
            record {
              only = λ x i.
                  ⊎_elim
                  (λ q. omega (arith, v.only x q))
                  (λ q. omega (arith, ident_same rows steps b y d x h q, known_new))
                  (j.only x i);
              every = λ x x_lt z q.
                  ⊎_elim
                  (λ e. j.every x (ident_one rows steps b y d x h x_lt (known_new ∙ sym e)))
                  (λ t. j.old x (v.every x x_lt z t))
                  (eq-or-lt_of_le (omega arith));
            }

-- ---- the step laws of `cells_from`

module _ (id : ℕ → ℕ) (flags : List ℕ) (d f : ℕ) where
  abbrev rest : List ℕ
  rest = cells_from id flags (d + 1) f

  pub cells_flags : (get_or flags d 0 ≡ 0 → ⊥) → cells_from id flags d (suc f) ≡ rest
  unfolding cells_from
  cells_flags e = ap (λ (t : Bool). cond (t && eqb (id d) d) (d ∷ rest) rest) (ne_eqb (get_or flags d 0) 0 e)

  pub cells_other : (id d ≡ d → ⊥) → cells_from id flags d (suc f) ≡ rest
  unfolding cells_from
  cells_other e =
      ap (λ (t : Bool). cond (eqb (get_or flags d 0) 0 && t) (d ∷ rest) rest) (ne_eqb (id d) d e)
      ∙ ap (λ (t : Bool). cond t (d ∷ rest) rest) (and-false (eqb (get_or flags d 0) 0))

  pub cells_own : get_or flags d 0 ≡ 0 → id d ≡ d → cells_from id flags d (suc f) ≡ d ∷ rest
  unfolding cells_from
  cells_own u e =
      ap (λ (t : Bool). cond (t && eqb (id d) d) (d ∷ rest) rest) (eq-eqb (get_or flags d 0) 0 u)
      ∙ ap (λ (t : Bool). cond t (d ∷ rest) rest) (eq-eqb (id d) d e)
