-- What a cell list holds, for a reader: for any identifier, any number of darts and any flags.
--   listed_only, listed_all, listed_exactly   it holds exactly the darts from 1 to n - 1 that are not unused and are their own identifier
--   listed_ascending                          it ascends, so that no dart stands in it twice
--   listed_same                               two identifiers that agree on the darts in use have one list
-- Assumes nothing.
use Prim.Native.Nat.{ℕ, zero, suc, ◌+◌, ◌-◌, ◌≤◌, ◌<◌}
use native.Mathlib.Omega.{arith}
use mathlib.Core.Path.{◌≡◌, refl, sym, ◌∙◌, subst}
use mathlib.Core.Bool.{Bool, true, false, cond, ◌&&◌, false≢true}
use mathlib.Core.Logic.{◌↔◌, ⊎_elim}
use mathlib.Core.List.Memᴰ
use mathlib.Core.List.{List, ◌∷◌}
use native.Mathlib.Nat.{eq-or-lt_of_le}
use lib.Dec.{eqb}
use lib.ListN.{get_or}
use borrow.Author.Tests.{eqb-true, eq-eqb}
use Rattle.cell_steps.specs.Search.{In}
use Rattle.cell_lists.specs.CellLists.{cells_from, cells_by, Ascending}

both : (a b : Bool) → (a && b) ≡ true → (a ≡ true) × (b ≡ true)
both true b e = (refl, e)
both false b e = absurd (false≢true e)

module _ (id : ℕ → ℕ) (flags : List ℕ) where
  -- d is listed
  pub record Own (d : ℕ) : Type 0 where
    pub used : get_or flags d 0 ≡ 0
    pub least : id d ≡ d

  test : ℕ → Bool
  test d = eqb (get_or flags d 0) 0 && eqb (id d) d

  test_own : (d : ℕ) → test d ≡ true → Own d
  unfolding test
  test_own d e = let p = both (eqb (get_or flags d 0) 0) _ e in record { used = eqb-true _ _ p.0; least = eqb-true _ _ p.1 }

  own_test : (d : ℕ) → Own d → test d ≡ true
  unfolding test
  own_test d o = simp (eq-eqb _ _ o.used, eq-eqb _ _ o.least)

  from_only : (d f x : ℕ) → In x (cells_from id flags d f) → (d ≤ x) × (x < d + f) × Own x
  unfolding cells_from test
  from_only d zero x m = absurd (Memᴰ.not-nil m)
  from_only d (suc f) x m = go (test d) refl (from_only (d + 1) f x) m
    where
      go : (t : Bool) → test d ≡ t → (In x (cells_from id flags (d + 1) f) → (d + 1 ≤ x) × (x < (d + 1) + f) × Own x) →
          In x (cond t (d ∷ cells_from id flags (d + 1) f) (cells_from id flags (d + 1) f)) → (d ≤ x) × (x < d + suc f) × Own x
      go true e more i =
          ⊎_elim
          (λ (h : x ≡ d). (omega arith, omega arith, subst Own (sym h) (test_own d e)))
          (λ j. let r = more j in (omega arith, omega arith, r.2))
          (Memᴰ.cases_cons i)
      go false e more i = let r = more i in (omega arith, omega arith, r.2)

  from_all : (d f x : ℕ) → d ≤ x → x < d + f → Own x → In x (cells_from id flags d f)
  unfolding cells_from test
  from_all d zero x a b o = absurd (omega arith)
  from_all d (suc f) x a b o = go (test d) refl (λ h. from_all (d + 1) f x h (omega arith) o)
    where
      go : (t : Bool) → test d ≡ t → (d + 1 ≤ x → In x (cells_from id flags (d + 1) f)) →
          In x (cond t (d ∷ cells_from id flags (d + 1) f) (cells_from id flags (d + 1) f))
      go true e more =
          ⊎_elim (λ (h : d ≡ x). Memᴰ.head (sym h)) (λ (h : d < x). Memᴰ.tail (more (omega arith))) (eq-or-lt_of_le a)
      go false e more =
          ⊎_elim
          (λ (h : d ≡ x). absurd (false≢true (sym e ∙ own_test d (subst Own (sym h) o))))
          (λ (h : d < x). more (omega arith))
          (eq-or-lt_of_le a)

  from_ascending : (d f : ℕ) → Ascending (cells_from id flags d f)
  unfolding cells_from test
  from_ascending d zero = tt
  from_ascending d (suc f) = go (test d) (from_ascending (d + 1) f)
    where
      go : (t : Bool) → Ascending (cells_from id flags (d + 1) f) → Ascending (cond t (d ∷ cells_from id flags (d + 1) f) (cells_from id flags (d + 1) f))
      go true h = (λ y m. let r = from_only (d + 1) f y m in omega arith, h)
      go false h = h

  module _ (n : ℕ) where
    pub listed_only : (x : ℕ) → In x (cells_by id n flags) → (1 ≤ x) × (x < n) × Own x
    unfolding cells_by
    listed_only x m = let r = from_only 1 (n - 1) x m in (r.0, omega arith, r.2)

    pub listed_all : (x : ℕ) → 1 ≤ x → x < n → Own x → In x (cells_by id n flags)
    unfolding cells_by
    listed_all x a b o = from_all 1 (n - 1) x a (omega arith) o

    pub listed_exactly : (x : ℕ) → In x (cells_by id n flags) ↔ ((1 ≤ x) × (x < n) × Own x)
    listed_exactly x = (listed_only x, λ p. listed_all x p.0 p.1 p.2)

    pub listed_ascending : Ascending (cells_by id n flags)
    unfolding cells_by
    listed_ascending = from_ascending 1 (n - 1)

module _ (id id' : ℕ → ℕ) (flags : List ℕ) where
  from_same : (d f : ℕ) → ((x : ℕ) → d ≤ x → x < d + f → get_or flags x 0 ≡ 0 → id x ≡ id' x) → cells_from id flags d f ≡ cells_from id' flags d f
  unfolding cells_from
  from_same d zero h = refl
  from_same d (suc f) h = go (eqb (get_or flags d 0) 0) refl (from_same (d + 1) f (λ x a b u. h x (omega arith) (omega arith) u))
    where
      go : (t : Bool) → eqb (get_or flags d 0) 0 ≡ t → cells_from id flags (d + 1) f ≡ cells_from id' flags (d + 1) f →
          cond (t && eqb (id d) d) (d ∷ cells_from id flags (d + 1) f) (cells_from id flags (d + 1) f)
          ≡ cond (t && eqb (id' d) d) (d ∷ cells_from id' flags (d + 1) f) (cells_from id' flags (d + 1) f)
      go true e more = let own = h d (omega arith) (omega arith) (eqb-true _ _ e) in λ i. cond (eqb (own i) d) (d ∷ more i) (more i)
      go false e more = more

  pub listed_same : (n : ℕ) → ((x : ℕ) → 1 ≤ x → x < n → get_or flags x 0 ≡ 0 → id x ≡ id' x) → cells_by id n flags ≡ cells_by id' n flags
  unfolding cells_by
  listed_same n h = from_same 1 (n - 1) (λ x a b u. h x a (omega arith) u)
