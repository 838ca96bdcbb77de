-- What a core leaves whether it is done or refuses, on a well-formed map with real darts.
--   link_formed, unlink_formed   the map stays well formed
--   link_length, unlink_length   the rows keep their length
--   link_other, unlink_other     the images by another beta than i and the beta back are as they were
-- Assumes nothing.
use Prim.Native.Nat.{ℕ, ◌<◌, ◌≤◌}
use native.Mathlib.Omega.{arith}
use mathlib.Core.Path.{◌≡◌, refl, ap}
use mathlib.Core.Logic.{◌≢◌}
use mathlib.Core.List.{List}
use mathlib.Core.Bool.{Bool, true, false}
use lib.ListN.{length}
use Rattle.map_betas.specs.Betas.{beta, darts, opp}
use Rattle.map_betas.specs.Maps.{WellFormed}
use Rattle.map_betas.specs.Guards.{Dart}
use Rattle.map_betas.specs.Cores.{link_core, unlink_core}
use Rattle.map_betas.proofs.BetaLaws.{opp_lt}
use Rattle.map_betas.proofs.Stores.{pair_length}
use Rattle.map_betas.proofs.Kept.{link_pair, link_keeps, link_changes, link_refused, unlink_changed, unlink_keeps, unlink_changes, unlink_refused}
use Rattle.std.specs.Prelude.{is_ok}

module _ (rows : List ℕ) (i l r : ℕ) (w : WellFormed rows) (h₁ : 1 ≤ i) (h₄ : i < 4) (dl : Dart (darts rows) 1 l) (dr : Dart (darts rows) 1 r) where
  pub link_formed : WellFormed (link_core rows i l r).rows
  link_formed = go (is_ok (link_core rows i l r).answer) refl
    where
      go : (b : Bool) → is_ok (link_core rows i l r).answer ≡ b → WellFormed (link_core rows i l r).rows
      go true t = link_keeps rows i l r w h₁ h₄ dl dr t
      go false t = rw (link_refused rows i l r t) w

  pub link_length : length (link_core rows i l r).rows ≡ length rows
  link_length = go (is_ok (link_core rows i l r).answer) refl
    where
      go : (b : Bool) → is_ok (link_core rows i l r).answer ≡ b → length (link_core rows i l r).rows ≡ length rows
      go true t = pair_length false rows i l r _ (link_pair rows i l r w h₁ h₄ dl dr t).0
      go false t = ap length (link_refused rows i l r t)

  pub link_other : (k d : ℕ) → k < 4 → k ≢ i → k ≢ opp i → beta (link_core rows i l r).rows k d ≡ beta rows k d
  link_other k d h n m = go (is_ok (link_core rows i l r).answer) refl
    where
      go : (b : Bool) → is_ok (link_core rows i l r).answer ≡ b → beta (link_core rows i l r).rows k d ≡ beta rows k d
      go true t =
          (link_changes rows i l r w h₁ h₄ dl dr t).others k d (λ e. n (omega arith)) (λ e. m (omega (arith, opp_lt i h₄)))
      go false t = ap (λ (x : List ℕ). beta x k d) (link_refused rows i l r t)

module _ (rows : List ℕ) (i l : ℕ) (w : WellFormed rows) (h₁ : 1 ≤ i) (h₄ : i < 4) where
  pub unlink_formed : WellFormed (unlink_core rows i l).rows
  unlink_formed = go (is_ok (unlink_core rows i l).answer) refl
    where
      go : (b : Bool) → is_ok (unlink_core rows i l).answer ≡ b → WellFormed (unlink_core rows i l).rows
      go true t = unlink_keeps rows i l w h₁ h₄ t
      go false t = rw (unlink_refused rows i l t) w

  pub unlink_length : length (unlink_core rows i l).rows ≡ length rows
  unlink_length = go (is_ok (unlink_core rows i l).answer) refl
    where
      go : (b : Bool) → is_ok (unlink_core rows i l).answer ≡ b → length (unlink_core rows i l).rows ≡ length rows
      go true t = pair_length true rows i l (beta rows i l) _ (unlink_changed rows i l w h₁ h₄ t)
      go false t = ap length (unlink_refused rows i l t)

  pub unlink_other : (k d : ℕ) → k < 4 → k ≢ i → k ≢ opp i → beta (unlink_core rows i l).rows k d ≡ beta rows k d
  unlink_other k d h n m = go (is_ok (unlink_core rows i l).answer) refl
    where
      go : (b : Bool) → is_ok (unlink_core rows i l).answer ≡ b → beta (unlink_core rows i l).rows k d ≡ beta rows k d
      go true t = (unlink_changes rows i l w h₁ h₄ t).others k d (λ e. n (omega arith)) (λ e. m (omega (arith, opp_lt i h₄)))
      go false t = ap (λ (x : List ℕ). beta x k d) (unlink_refused rows i l t)
