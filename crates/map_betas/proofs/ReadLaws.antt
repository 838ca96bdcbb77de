-- The laws of reads: the tests of the dart and of the beta number, and that a read which has passed its tests stays inside the rows
-- (`read_inside`). Assumes nothing.
use Prim.Native.Nat.{ℕ, ◌+◌, ◌*◌, ◌<◌, ◌≤◌}
use native.Mathlib.Omega.{arith}
use mathlib.Core.Path.{◌≡◌, refl, sym}
use mathlib.Core.List.{List}
use mathlib.Core.Bool.{Bool, true, false, cond, true≢false}
use lib.Dec.{ltb, leb}
use lib.ListN.{length}
use borrow.Author.Tests.{lt-ltb, le-ltb, ltb-false, le-leb, lt-leb, leb-false}
use Rattle.map_betas.specs.declared.error.Refusal.TheVariants.{BadDart, BadBeta}
use Rattle.map_betas.specs.Betas.{darts}
use mir.Val.{bool_byte}
use Rattle.map_betas.specs.Answers.{pass}
use Rattle.map_betas.specs.Maps.{size_test}
use Rattle.map_betas.specs.Reads.{yes, range_test, beta_test, read_test}
use Rattle.map_betas.proofs.AnswerLaws.{first_done, then_done}
use Rattle.map_betas.proofs.Formed.{size_done}
use Rattle.std.specs.Prelude.{Err, is_ok}

module _ (i : ℕ) where
  pub beta_refused : 3 < i → Err (BadBeta i) ≡ beta_test i
  beta_refused h = simp (lt-ltb 3 i h)

  pub beta_passed : i ≤ 3 → pass ≡ beta_test i
  beta_passed h = simp (le-ltb 3 i h)

  pub beta_done : is_ok (beta_test i) ≡ true → i < 4
  beta_done = go (ltb 3 i) refl
    where
      go : (b : Bool) → ltb 3 i ≡ b → is_ok (cond b (Err (BadBeta i)) pass) ≡ true → i < 4
      go true t e = absurd (true≢false (sym e))
      go false t e = let h = ltb-false 3 i t in omega arith

module _ (n d : ℕ) where
  pub range_refused : n ≤ d → Err (BadDart 1) ≡ range_test n d
  range_refused h = simp (le-leb n d h)

  pub range_passed : d < n → pass ≡ range_test n d
  range_passed h = simp (lt-leb n d h)

  pub range_done : is_ok (range_test n d) ≡ true → d < n
  range_done = go (leb n d) refl
    where
      go : (b : Bool) → leb n d ≡ b → is_ok (cond b (Err (BadDart 1)) pass) ≡ true → d < n
      go true t e = absurd (true≢false (sym e))
      go false t e = leb-false n d t

pub read_inside : (rows : List ℕ) (i d : ℕ) → is_ok (read_test rows i d) ≡ true → (i < 4) × (4 * d + 3 < length rows)
unfolding read_test
read_inside rows i d t =
    let s = size_done rows (first_done (size_test rows) _ t) in
    let t₁ = then_done (size_test rows) _ t in
    let h = range_done (darts rows) d (first_done (range_test (darts rows) d) _ t₁) in
    (beta_done i (then_done (range_test (darts rows) d) _ t₁), omega (arith, s.whole, h))

-- the number of a truth value, as `u32::from` gives it
pub byte_yes : (b : Bool) → bool_byte b ≡ yes b
byte_yes true = refl
byte_yes false = refl
