-- Lists of numbers.
--   bool                              a test is true or false
--   mem_in, in_mem, not_mem, mem_not  the test of membership against the fact
--   in_at, at_in                      membership by place
--   norep_snoc, norep_le              no repeats: one number more; no longer than a list that has all of its numbers
--   norep_parts, norep_join           the two parts of a list with no repeats; two such lists, one behind the other
--   pigeonhole                        at most n different numbers are below n
-- Assumes nothing.
use mathlib.Core.Path.{◌≡◌, refl, sym, ap, ◌∙◌, subst}
use mathlib.Core.Bool.{Bool, true, false, ◌||◌, or-true, false≢true}
use mathlib.Core.Logic.{◌⊎◌, inl, inr, ⊎_elim}
use mathlib.Core.List.Memᴰ
use mathlib.Core.List.{List, [], ◌∷◌, ◌++◌}
use Prim.Native.Nat.{ℕ, zero, suc, ◌≤◌, ◌<◌, zero-le, suc-le-suc}
use native.Mathlib.Nat.{not-suc-le-zero, le_of_suc-le-suc, eq-or-lt_of_le}
use native.Mathlib.Omega.{arith}
use lib.Dec.{eqb}
use lib.ListN.{length, get_or}
use borrow.Author.Tests.{eqb-true, eq-eqb}
use Rattle.cell_steps.specs.Search.{mem, In, NoRep}

-- ---- the test against the fact

pub bool : (b : Bool) → (b ≡ true) ⊎ (b ≡ false)
bool true = inl refl
bool false = inr refl

or_cases : (a b : Bool) → (a || b) ≡ true → (a ≡ true) ⊎ (b ≡ true)
or_cases true b e = inl refl
or_cases false b e = inr e

pub mem_in : (x : ℕ) (l : List ℕ) → mem x l ≡ true → In x l
unfolding mem
mem_in x [] e = absurd (false≢true e)
mem_in x (y ∷ l) e =
    ⊎_elim (λ h. Memᴰ.head (eqb-true x y h)) (λ h. Memᴰ.tail (mem_in x l h)) (or_cases (eqb x y) (mem x l) e)

pub in_mem : {x : ℕ} {l : List ℕ} → In x l → mem x l ≡ true
unfolding mem
in_mem {x} (Memᴰ.head {x = y} {xs = l} e) = ap (λ (b : Bool). b || mem x l) (eq-eqb x y e)
in_mem {x} (Memᴰ.tail {x = y} {xs = l} m) = ap (λ (b : Bool). eqb x y || b) (in_mem m) ∙ or-true (eqb x y)

pub not_mem : (x : ℕ) (l : List ℕ) → mem x l ≡ false → In x l → ⊥
not_mem x l e m = false≢true (sym e ∙ in_mem m)

pub mem_not : (x : ℕ) (l : List ℕ) → (In x l → ⊥) → mem x l ≡ false
mem_not x l h = ⊎_elim (λ e. absurd (h (mem_in x l e))) (λ e. e) (bool (mem x l))

-- ---- membership by index

pub in_at : (l : List ℕ) (i : ℕ) → i < length l → In (get_or l i 0) l
in_at [] i h = absurd (not-suc-le-zero h)
in_at (x ∷ l) zero h = Memᴰ.head refl
in_at (x ∷ l) (suc i) h = Memᴰ.tail (in_at l i (le_of_suc-le-suc h))

pub at_in : {x : ℕ} {l : List ℕ} → In x l → (i : ℕ) × (i < length l) × (get_or l i 0 ≡ x)
at_in (Memᴰ.head e) = (0, suc-le-suc zero-le, sym e)
at_in (Memᴰ.tail m) = let r = at_in m in (suc r.0, suc-le-suc r.1, r.2)

-- ---- no repeats

pub norep_snoc : (l : List ℕ) (x : ℕ) → NoRep l → (In x l → ⊥) → NoRep (l ++ (x ∷ []))
norep_snoc [] x h n = (Memᴰ.not-nil, tt)
norep_snoc (y ∷ l) x h n = (
  λ m. ⊎_elim h.0 (λ m'. n (Memᴰ.head (sym (Memᴰ.eq_of_singleton m')))) (Memᴰ.append_cases l m),
  norep_snoc l x h.1 (λ m. n (Memᴰ.tail m)),
)

pub norep_parts : (a b : List ℕ) → NoRep (a ++ b) → NoRep a × NoRep b × ((x : ℕ) → In x a → In x b → ⊥)
norep_parts [] b h = (tt, h, λ x m. absurd (Memᴰ.not-nil m))
norep_parts (y ∷ a) b h =
    let r = norep_parts a b h.1 in (
      (λ m. h.0 (Memᴰ.append_left b m), r.0),
      r.1,
      λ x m n. ⊎_elim (λ e. h.0 (Memᴰ.append_right a (Memᴰ.cast (sym e) n))) (λ i. r.2 x i n) (Memᴰ.cases_cons m),
    )

pub norep_join : (a b : List ℕ) → NoRep a → NoRep b → ((x : ℕ) → In x a → In x b → ⊥) → NoRep (a ++ b)
norep_join [] b h k n = k
norep_join (y ∷ a) b h k n = (
  λ m. ⊎_elim h.0 (n y (Memᴰ.head refl)) (Memᴰ.append_cases a m),
  norep_join a b h.1 k (λ x m. n x (Memᴰ.tail m)),
)

-- ---- a list with no repeats is no longer than one that has all of its members

-- the list without the place of x
without : {x : ℕ} {l : List ℕ} → In x l → List ℕ
without (Memᴰ.head {xs = l} e) = l
without (Memᴰ.tail {x = y} m) = y ∷ without m

without_length : {x : ℕ} {l : List ℕ} (m : In x l) → length l ≡ suc (length (without m))
unfolding without
without_length (Memᴰ.head e) = refl
without_length (Memᴰ.tail m) = ap suc (without_length m)

without_keeps : {x y : ℕ} {l : List ℕ} (m : In x l) → In y l → (y ≡ x → ⊥) → In y (without m)
unfolding without
without_keeps (Memᴰ.head e) m n = ⊎_elim (λ h. absurd (n (h ∙ sym e))) (λ m'. m') (Memᴰ.cases_cons m)
without_keeps {y} (Memᴰ.tail {x = z} t) m n =
    ⊎_elim (λ h. Memᴰ.head h) (λ m'. Memᴰ.tail (without_keeps t m' n)) (Memᴰ.cases_cons m)

pub norep_le : (l k : List ℕ) → NoRep l → ((x : ℕ) → In x l → In x k) → length l ≤ length k
norep_le [] k h s = zero-le
norep_le (x ∷ l) k h s =
    let m : In x k = s x (Memᴰ.head refl) in
    let r = norep_le l (without m) h.1 (λ y y-in. without_keeps m (s y (Memᴰ.tail y-in)) (λ e. h.0 (Memᴰ.cast (sym e) y-in))) in
    omega (arith, without_length m)

-- the numbers below n
down_from : ℕ → List ℕ
down_from zero = []
down_from (suc n) = n ∷ down_from n

down_from_length : (n : ℕ) → length (down_from n) ≡ n
unfolding down_from
down_from_length zero = refl
down_from_length (suc n) = ap suc (down_from_length n)

down_from_in : (n x : ℕ) → x < n → In x (down_from n)
unfolding down_from
down_from_in zero x h = absurd (not-suc-le-zero h)
down_from_in (suc n) x h =
    ⊎_elim (λ e. Memᴰ.head e) (λ l. Memᴰ.tail (down_from_in n x l)) (eq-or-lt_of_le (le_of_suc-le-suc h))

-- at most n different numbers are below n
pub pigeonhole : (n : ℕ) (l : List ℕ) → NoRep l → ((x : ℕ) → In x l → x < n) → length l ≤ n
pigeonhole n l h b = subst (λ (k : ℕ). length l ≤ k) (down_from_length n) (norep_le l (down_from n) h (λ x m. down_from_in n x (b x m)))
