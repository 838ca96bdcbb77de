-- Stores in rows.
--   inside_set        a store of a dart keeps rows inside
--   beta_set          a store of a beta 3 image leaves the images by beta 0, 1 and 2
--   zeros, zeros_..   how many places are null, and how a store changes that: why a walk ends
--   clear_comm        stores of 0 commute
-- Assumes nothing.
use Prim.Native.Nat.{ℕ, ◌+◌, ◌<◌, ◌≤◌}
use native.Mathlib.Omega.{arith}
use native.Mathlib.Decide.{ℕ_discrete}
use mathlib.Core.Path.{◌≡◌, ◌∙◌}
use mathlib.Core.Logic.{◌≢◌, by_cases, ⊎_elim}
use mathlib.Core.List.{List}
use mathlib.Core.Bool.{Bool, true, false, cond}
use lib.Dec.{eqb}
use borrow.Author.Tests.{ne_eqb}
use Rattle.std.specs.List.{count_by}
use Rattle.std.proofs.lemmas.List.{set_past, get_or_past}
use Rattle.std.proofs.lemmas.List.Sums.{count_by-le-length, sum_by-set}
use Rattle.std.proofs.lemmas.Bool.{cases_lt}
use lib.ListN.{length, get_or, set, length-set}
use lib.Seq.{get_or-set_other, set_comm}
use Rattle.map_betas.specs.Betas.{place, beta}
use Rattle.map_betas.proofs.Stores.{below_set}
use Rattle.link_walk.specs.Undo.{Inside}

pub inside_set : (n : ℕ) (rows : List ℕ) (a v : ℕ) → Inside n rows → v < n → Inside n (set rows a v)
inside_set n rows a v s h =
    record {
      whole = length-set rows a v ∙ s.whole;
      below = below_set n rows a v s.below h;
    }

-- an image by beta 0, 1 or 2 is no image by beta 3
pub beta_set : (rows : List ℕ) (i d a v : ℕ) → i < 3 → beta (set rows (place 3 a) v) i d ≡ beta rows i d
beta_set rows i d a v h = get_or-set_other rows (place 3 a) (place i d) v 0 (omega arith)

-- how many places are null
unfoldable pub zeros : List ℕ → ℕ
zeros xs = count_by (λ x. eqb x 0) xs

pub zeros_le : (xs : List ℕ) → zeros xs ≤ length xs
unfolding zeros
zeros_le xs = count_by-le-length (λ x. eqb x 0) xs

-- a store in a place: what stood there no longer counts, and what is stored does
zeros_set : (xs : List ℕ) (k v : ℕ) → k < length xs → zeros (set xs k v) + cond (eqb (get_or xs k 0) 0) 1 0 ≡ zeros xs + cond (eqb v 0) 1 0
unfolding zeros
zeros_set xs k v h = sum_by-set (λ x. cond (eqb x 0) 1 0) xs k v 0 h

-- a store of a dart
pub zeros_fill_le : (xs : List ℕ) (k v : ℕ) → v ≢ 0 → zeros (set xs k v) ≤ zeros xs
zeros_fill_le xs k v n =
    ⊎_elim (λ h. let e = simp (ne_eqb v 0 n) at (zeros_set xs k v h) in omega arith) (λ h. rw (set_past xs k v h) (omega arith))
    (cases_lt k (length xs))

-- a store of a dart where null stood
pub zeros_fill : (xs : List ℕ) (k v : ℕ) → k < length xs → get_or xs k 0 ≡ 0 → v ≢ 0 → zeros (set xs k v) < zeros xs
zeros_fill xs k v h z n = let e = simp (ne_eqb v 0 n, z) at (zeros_set xs k v h) in omega arith

-- stores of 0 commute
pub clear_comm : (xs : List ℕ) (a b : ℕ) → set (set xs a 0) b 0 ≡ set (set xs b 0) a 0
clear_comm xs a b =
    by_cases (ℕ_discrete a b) (λ (e : a ≡ b). rw e) (λ (e : a ≢ b). set_comm xs a b 0 0 e)

-- a store of 0
pub zeros_clear_le : (xs : List ℕ) (k : ℕ) → zeros xs ≤ zeros (set xs k 0)
zeros_clear_le xs k =
    ⊎_elim (λ h. let e = zeros_set xs k 0 h in let f = at_most_one (eqb (get_or xs k 0) 0) in omega arith) (λ h. rw (set_past xs k 0 h) (omega arith))
    (cases_lt k (length xs))
  where
    at_most_one : (b : Bool) → cond b 1 0 ≤ 1
    at_most_one true = omega arith
    at_most_one false = omega arith

-- a store of 0 where a dart stood
pub zeros_clear : (xs : List ℕ) (k : ℕ) → get_or xs k 0 ≢ 0 → zeros xs < zeros (set xs k 0)
zeros_clear xs k n =
    ⊎_elim (λ h. let e = simp (ne_eqb (get_or xs k 0) 0 n) at (zeros_set xs k 0 h) in omega arith) (λ h. absurd (n (get_or_past xs k 0 h)))
    (cases_lt k (length xs))
