-- The laws of scratch that is wiped and lent on.
--   zero_replicate, length_zeros   the zeros
--   wiped_front, wiped_back        the two parts of a list whose first n places are wiped
--   wiped_n                        the length of the first part
--   wiped_lent                     the first part lent on, and given back as it was
--   zero_split, zeros_are          zeros put where there were zeros
--   scratch_same                   scratch fits as long as its lengths stay
--   clean_scratch                  scratch that is 0 fits
--   wiped_clean                    the first parts of wiped marks and of a wiped queue are 0
-- Assumes nothing.
use Prim.Native.Nat.{ℕ, zero, suc, ◌≤◌}
use native.Mathlib.Nat.{not-suc-le-zero, le_of_suc-le-suc, le_of_eq}
use native.Mathlib.Omega.{arith}
use mathlib.Core.Path.{◌≡◌, refl, sym, ap, ◌∙◌}
use mathlib.Core.List.{List, [], ◌∷◌, ◌++◌}
use lib.ListN.{length, get_or, take, drop, replicate, length-replicate}
use lib.Seq.{take_at, drop_at}
use Rattle.map_betas.specs.Betas.{darts}
use Rattle.map_betas.specs.Maps.{WellFormed}
use Rattle.cell_steps.specs.Loans.{Zero, Scratch, Clean}
use Rattle.cell_steps.specs.Calls.{wiped}

pub zero_replicate : (n : ℕ) → Zero (replicate n 0)
zero_replicate n = record { place = go n }
  where
    go : (k x : ℕ) → ◌≡◌ {A = ℕ} (get_or (replicate k 0) x 0) 0
    go zero x = refl
    go (suc k) zero = refl
    go (suc k) (suc x) = go k x

pub length_zeros : (n : ℕ) → length (replicate {A = ℕ} n 0) ≡ n
length_zeros n = length-replicate {A = ℕ} n 0

module _ (n : ℕ) (l l₁ : List ℕ) (e : l₁ ≡ wiped n l) where
  pub wiped_front : take n l₁ ≡ replicate n 0
  wiped_front = ap (take n) e ∙ take_at (replicate n 0) (drop n l) n (length-replicate n 0)

  pub wiped_back : drop n l₁ ≡ drop n l
  wiped_back = ap (drop n) e ∙ drop_at (replicate n 0) (drop n l) n (length-replicate n 0)

  pub wiped_n : length (take n l₁) ≡ n
  wiped_n = ap length wiped_front ∙ length_zeros n

  pub wiped_zero : Zero (take n l₁)
  wiped_zero = rw wiped_front (zero_replicate n)

  pub wiped_lent : (m : List ℕ) → m ≡ take n l₁ → m ++ drop n l₁ ≡ wiped n l
  wiped_lent m f = ap (λ (t : List ℕ). t ++ drop n l₁) (f ∙ wiped_front) ∙ ap (λ (t : List ℕ). replicate n 0 ++ t) wiped_back

pub zero_split : (o : List ℕ) (r : ℕ) → Zero o → r ≤ length o → wiped r o ≡ o
zero_split o zero z h = refl
zero_split [] (suc r) z h = absurd (not-suc-le-zero h)
zero_split (x ∷ o) (suc r) z h =
    ap (λ (y : ℕ). y ∷ wiped r o) (sym (z.place 0))
    ∙ ap (λ (t : List ℕ). x ∷ t) (zero_split o r (record { place = λ i. z.place (suc i) }) (le_of_suc-le-suc h))

-- as many zeros are what was 0
pub zeros_are : (o : List ℕ) → Zero o → replicate (length o) 0 ≡ o
zeros_are [] z = refl
zeros_are (x ∷ o) z = λ t. sym (z.place 0) t ∷ zeros_are o (record { place = λ i. z.place (suc i) }) t

pub scratch_same : (rows marks queue marks' queue' : List ℕ) → Scratch rows marks queue → length marks' ≡ length marks →
    length queue' ≡ length queue → Scratch rows marks' queue'
scratch_same rows marks queue marks' queue' f m o =
    record { marks_n = m ∙ f.marks_n; queue_n = omega (arith, f.queue_n) }

pub clean_scratch : (rows marks queue : List ℕ) → Clean (darts rows) marks queue → Scratch rows marks queue
clean_scratch rows marks queue c = record { marks_n = c.marks_n; queue_n = le_of_eq (sym c.queue_n) }

pub wiped_clean : (n : ℕ) (marks queue m q : List ℕ) → m ≡ wiped n marks → q ≡ wiped n queue → Clean n (take n m) (take n q)
wiped_clean n marks queue m q em eq =
    record {
      marks_n = wiped_n n marks m em;
      queue_n = wiped_n n queue q eq;
      marks_0 = wiped_zero n marks m em;
      queue_0 = wiped_zero n queue q eq;
    }
