-- What keeps rows and flags a map: no core links a dart that was free and is none of its own.
--   pair_spares    a pair of stores leaves the images of every other dart
--   link_spares, unlink_spares   a core, done or refused; the image that an unlink parts was not free
--   link_keeps_all, unlink_keeps_all   the same with well-formed rows, as many
--   keeps_same, keeps_then   what leaves the rows keeps them; one after the other
--   keeps_but      what spares all but a and b spares all but a, where b has an image
--   keeps_linked   what spares all but two darts that have an image spares all
--   next_linked    the image of a dart is not free, or null
--   kept_map       a map stays a map where the darts of the call are in use
-- Assumes nothing.
use Prim.Native.Nat.{ℕ, ◌/◌, ◌<◌, ◌≤◌}
use native.Mathlib.Omega.{arith}
use native.Mathlib.Decide.{ℕ_discrete}
use mathlib.Core.Path.{◌≡◌, refl, sym, ap, ◌∙◌}
use mathlib.Core.Logic.{◌≢◌, by_cases}
use mathlib.Core.List.{List}
use mathlib.Core.Bool.{Bool, true, false, true≢false}
use Rattle.map_betas.specs.Betas.{beta, darts, opp}
use Rattle.map_betas.specs.Maps.{WellFormed, unused, Free, Map, Spares, Keeps, Stays}
use Rattle.map_betas.specs.Guards.{Dart}
use Rattle.map_betas.specs.Cores.{link_core, unlink_core}
use Rattle.map_betas.proofs.BetaLaws.{opp_lt}
use Rattle.map_betas.proofs.Stores.{PairChanged, pair_others}
use Rattle.map_betas.proofs.Kept.{link_changed, link_refused, unlink_changed, unlink_refused}
use Rattle.map_betas.proofs.Always.{link_formed, link_length, unlink_formed, unlink_length}
use Rattle.std.specs.Prelude.{is_ok}

pub pair_spares : (parting : Bool) (rows : List ℕ) (i l r : ℕ) (rows' : List ℕ) → PairChanged parting rows i l r rows' → i < 4 → Spares l r rows rows'
pair_spares parting rows i l r rows' h h₄ d nl nr f k hk =
    let o = opp_lt i h₄ in
    pair_others parting rows i l r rows' h k d (λ e. nl (omega arith)) (λ e. nr (omega arith)) ∙ f k hk

pub link_spares : (rows : List ℕ) (i l r : ℕ) → i < 4 → r ≢ 0 → Spares l r rows (link_core rows i l r).rows
link_spares rows i l r h₄ nr = go (is_ok (link_core rows i l r).answer) refl
  where
    go : (b : Bool) → is_ok (link_core rows i l r).answer ≡ b → Spares l r rows (link_core rows i l r).rows
    go true t = pair_spares false rows i l r _ (link_changed rows i l r t nr) h₄
    go false t = rw (link_refused rows i l r t) (λ d a b f. f)

pub unlink_spares : (rows : List ℕ) (i l : ℕ) → WellFormed rows → 1 ≤ i → i < 4 → Spares l l rows (unlink_core rows i l).rows
unlink_spares rows i l w h₁ h₄ = go (is_ok (unlink_core rows i l).answer) refl
  where
    go : (b : Bool) → is_ok (unlink_core rows i l).answer ≡ b → Spares l l rows (unlink_core rows i l).rows
    go true t =
        let h = unlink_changed rows i l w h₁ h₄ t in
        λ d a b f. pair_spares true rows i l (beta rows i l) _ h h₄ d a
        (λ e.
        let z : l ≡ 0 = sym h.was_r ∙ ap (beta rows (opp i)) (sym e) ∙ f (opp i) (opp_lt i h₄) in
        h.real (ap (beta rows i) z ∙ w.null i h₄)) f
    go false t = rw (unlink_refused rows i l t) (λ d a b f. f)

module _ (rows : List ℕ) (i l : ℕ) (w : WellFormed rows) (h₁ : 1 ≤ i) (h₄ : i < 4) where
  pub link_keeps_all : (r : ℕ) → Dart (darts rows) 1 l → Dart (darts rows) 1 r → Keeps l r rows (link_core rows i l r).rows
  link_keeps_all r dl dr =
      let h = dr.allowed in
      (link_formed rows i l r w h₁ h₄ dl dr, link_length rows i l r w h₁ h₄ dl dr, link_spares rows i l r h₄ (omega arith))

  pub unlink_keeps_all : Keeps l l rows (unlink_core rows i l).rows
  unlink_keeps_all = (unlink_formed rows i l w h₁ h₄, unlink_length rows i l w h₁ h₄, unlink_spares rows i l w h₁ h₄)

pub keeps_same : (a b : ℕ) (rows : List ℕ) → WellFormed rows → Keeps a b rows rows
keeps_same a b rows w = (w, refl, λ d x y f. f)

pub keeps_then : (a b : ℕ) (rows rows₁ rows₂ : List ℕ) → Keeps a b rows rows₁ → Keeps a b rows₁ rows₂ → Keeps a b rows rows₂
keeps_then a b rows rows₁ rows₂ j k = (k.0, k.1 ∙ j.1, λ d x y f. k.2 d x y (j.2 d x y f))

pub keeps_but : (a b : ℕ) (rows rows' : List ℕ) → (Free rows b → ⊥) → Keeps a b rows rows' → Keeps a a rows rows'
keeps_but a b rows rows' n k = (k.0, k.1, λ d x y f. k.2 d x (λ e. n (λ i h. ap (beta rows i) (sym e) ∙ f i h)) f)

pub keeps_linked : (a b x y : ℕ) (rows rows' : List ℕ) → (Free rows a → ⊥) → (Free rows b → ⊥) → Keeps a b rows rows' → Keeps x y rows rows'
keeps_linked a b x y rows rows' na nb k =
    (k.0, k.1, λ d n m f. k.2 d (λ e. na (λ i h. ap (beta rows i) (sym e) ∙ f i h)) (λ e. nb (λ i h. ap (beta rows i) (sym e) ∙ f i h)) f)

pub next_linked : (rows : List ℕ) (i d : ℕ) → WellFormed rows → i < 4 → d ≢ 0 → Free rows (beta rows i d) → beta rows i d ≡ 0
next_linked rows i d w h n f =
    by_cases (ℕ_discrete (beta rows i d) 0) (λ z. z) (λ m. absurd (n (sym (w.back i d h m) ∙ f (opp i) (opp_lt i h))))

pub kept_map : (a b : ℕ) (rows flags rows' : List ℕ) → Map rows flags → unused flags a ≡ false → unused flags b ≡ false → Keeps a b rows rows' →
    Stays flags rows rows'
kept_map a b rows flags rows' m ua ub k =
    let same : darts rows' ≡ darts rows = ap (λ (n : ℕ). n / 4) k.1 in
    let l = m.flagged in
    (record { formed = k.0; flagged = omega arith; free = λ d u. k.2 d (other d a u ua) (other d b u ub) (m.free d u) }, k.1)
  where
    other : (d x : ℕ) → unused flags d ≡ true → unused flags x ≡ false → d ≢ x
    other d x u v e = true≢false (sym u ∙ ap (unused flags) e ∙ v)
