-- The laws of the calls.
--   custom_hit, -miss, -end   the turns of the test of a Custom list
--   custom_done               where it has passed, every value is a beta
-- Assumes nothing.
use Prim.Native.Nat.{ℕ, zero, suc, ◌+◌, ◌≤◌, ◌<◌}
use native.Mathlib.Nat.{not-suc-le-zero, le_of_suc-le-suc}
use native.Mathlib.Numerals.{add-one}
use native.Mathlib.Omega.{arith}
use mathlib.Core.Path.{◌≡◌, refl, sym}
use mathlib.Core.Bool.{Bool, true, false, true≢false}
use mathlib.Core.List.{List, [], ◌∷◌}
use lib.Dec.{ltb}
use lib.ListN.{length, get_or, drop, drop_of_length-le}
use lib.Seq.{drop-cons}
use borrow.Author.Tests.{lt-ltb, le-ltb, ltb-false}
use Rattle.map_betas.specs.declared.error.Refusal.TheVariants.{BadBeta}
use Rattle.map_betas.specs.Answers.{pass}
use Rattle.cell_steps.specs.Calls.{custom_test}
use Rattle.std.specs.Prelude.{Err, is_ok}

module _ (betas : List ℕ) (j : ℕ) where
  pub custom_hit : (b : ℕ) → j < length betas → b ≡ get_or betas j 0 → 3 < b → Err (BadBeta b) ≡ custom_test (drop j betas)
  unfolding custom_test
  custom_hit b h e l = rw (drop-cons betas j 0 h) (simp (← e, lt-ltb 3 b l))

  pub custom_miss : (b : ℕ) → j < length betas → b ≡ get_or betas j 0 → b ≤ 3 → custom_test (drop j betas) ≡ custom_test (drop (j + 1) betas)
  unfolding custom_test
  custom_miss b h e l = rw (add-one, drop-cons betas j 0 h) (simp (← e, le-ltb 3 b l))

  pub custom_end : length betas ≤ j → pass ≡ custom_test (drop j betas)
  unfolding custom_test
  custom_end h = rw (drop_of_length-le betas h) refl

pub custom_done : (betas : List ℕ) → is_ok (custom_test betas) ≡ true → (j : ℕ) → j < length betas → get_or betas j 0 < 4
unfolding custom_test
custom_done [] t j h = absurd (not-suc-le-zero h)
custom_done (b ∷ bs) t j h = go (ltb 3 b) refl (λ u. custom_done bs u) j h
  where
    go : (x : Bool) → ltb 3 b ≡ x → (is_ok (custom_test bs) ≡ true → (i : ℕ) → i < length bs → get_or bs i 0 < 4) → (i : ℕ) → i < length (b ∷ bs) →
        get_or (b ∷ bs) i 0 < 4
    go true e more i l = absurd (true≢false (sym (simp e at t)))
    go false e more zero l = let u = ltb-false 3 b e in omega arith
    go false e more (suc i) l = more (simp e at t) i (le_of_suc-le-suc l)
