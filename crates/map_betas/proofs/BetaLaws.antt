-- The beta that leads back: where it stands (`opp_low`, `opp_high`, `opp_lt`), that it leads back itself (`opp_opp`), and that a beta 2 or 3 is no
-- beta of a dart that it does not fix (`no_self`). Assumes nothing.
use Prim.Native.Nat.{ℕ, zero, suc, ◌-◌, ◌<◌, ◌≤◌}
use native.Mathlib.Omega.{arith}
use native.Mathlib.Decide.{dec_lt}
use mathlib.Core.Path.{◌≡◌, refl}
use mathlib.Core.Logic.{◌≢◌, by_cases}
use mathlib.Core.Bool.{false, ◌&&◌, and-false}
use lib.Dec.{leb, eqb}
use borrow.Author.Tests.{ne_eqb, lt-leb}
use Rattle.map_betas.specs.Betas.{opp}

pub opp_low : (i : ℕ) → i < 2 → opp i ≡ 1 - i
opp_low zero h = refl
opp_low (suc zero) h = refl
opp_low (suc (suc i)) h = absurd (omega arith)

pub opp_high : (i : ℕ) → 2 ≤ i → opp i ≡ i
opp_high zero h = absurd (omega arith)
opp_high (suc zero) h = absurd (omega arith)
opp_high (suc (suc i)) h = refl

pub opp_lt : (i : ℕ) → i < 4 → opp i < 4
opp_lt zero h = omega arith
opp_lt (suc zero) h = omega arith
opp_lt (suc (suc i)) h = h

pub opp_opp : (i : ℕ) → opp (opp i) ≡ i
opp_opp zero = refl
opp_opp (suc zero) = refl
opp_opp (suc (suc i)) = refl

pub no_self : (i x d : ℕ) → (2 ≤ i → x ≢ d) → (leb 2 i && eqb x d) ≡ false
no_self i x d h =
    by_cases (dec_lt i 2)
    (λ (l : i < 2). simp (lt-leb 2 i l))
    (λ (l : i < 2 → ⊥). simp (ne_eqb x d (h (omega arith)), and-false))
