-- The laws of darts that have no image, and of unused ones.
--   free_0 .. free_3     each case of `free_at`
--   free_yes, yes_free   `free_at` says yes exactly where the dart has no image
--   used_null, used_zero, unused_flag, unused_is, flag_unused   what the flag of a dart says
--   bound_used, bound_unused, bound_free   each case of `bound`
--   not_bound            an unused dart that is not bound has no image
--   beyond_free          past the end no dart has an image
-- Assumes nothing.
use Prim.Native.Nat.{ℕ, zero, suc, ◌*◌, ◌<◌, ◌≤◌}
use native.Mathlib.Omega.{arith}
use mathlib.Core.Path.{◌≡◌, refl, sym, ap, ◌∙◌}
use mathlib.Core.Logic.{◌≢◌}
use mathlib.Core.List.{List}
use mathlib.Core.Bool.{Bool, true, false, not, ◌&&◌, true≢false}
use lib.Dec.{eqb}
use lib.ListN.{length, get_or, get_or-eq_default}
use borrow.Author.Tests.{eq-eqb, ne_eqb, eqb-true, eqb-false}
use Rattle.map_betas.specs.Betas.{beta, darts}
use Rattle.map_betas.specs.Maps.{free_at, unused, bound, Free}

module _ (rows : List ℕ) (d : ℕ) where
  pub free_0 : beta rows 0 d ≢ 0 → false ≡ free_at rows d
  unfolding free_at
  free_0 a = simp (ne_eqb _ _ a)

  module _ (z : beta rows 0 d ≡ 0) where
    pub free_1 : beta rows 1 d ≢ 0 → false ≡ free_at rows d
    unfolding free_at
    free_1 a = simp (eq-eqb _ _ z, ne_eqb _ _ a)

    module _ (y : beta rows 1 d ≡ 0) where
      pub free_2 : beta rows 2 d ≢ 0 → false ≡ free_at rows d
      unfolding free_at
      free_2 a = simp (eq-eqb _ _ z, eq-eqb _ _ y, ne_eqb _ _ a)

      pub free_3 : (x : ℕ) → beta rows 2 d ≡ 0 → x ≡ beta rows 3 d → eqb x 0 ≡ free_at rows d
      unfolding free_at
      free_3 x w e = simp (eq-eqb _ _ z, eq-eqb _ _ y, eq-eqb _ _ w, e)

  and_both : (a b : Bool) → (a && b) ≡ true → (a ≡ true) × (b ≡ true)
  and_both true b e = (refl, e)
  and_both false b e = absurd (true≢false (sym e))

  pub free_yes : free_at rows d ≡ true → Free rows d
  unfolding free_at
  free_yes t =
      let p = and_both (eqb (beta rows 0 d) 0) _ t in
      let q = and_both (eqb (beta rows 1 d) 0) _ p.1 in
      let r = and_both (eqb (beta rows 2 d) 0) _ q.1 in
      go (eqb-true _ _ p.0) (eqb-true _ _ q.0) (eqb-true _ _ r.0) (eqb-true _ _ r.1)
    where
      go : beta rows 0 d ≡ 0 → beta rows 1 d ≡ 0 → beta rows 2 d ≡ 0 → beta rows 3 d ≡ 0 → (i : ℕ) → i < 4 → beta rows i d ≡ 0
      go a b e g zero h = a
      go a b e g (suc zero) h = b
      go a b e g (suc (suc zero)) h = e
      go a b e g (suc (suc (suc zero))) h = g
      go a b e g (suc (suc (suc (suc i)))) h = absurd (omega arith)

  pub yes_free : Free rows d → free_at rows d ≡ true
  unfolding free_at
  yes_free f =
      simp (
        eq-eqb _ _ (f 0 (omega arith)),
        eq-eqb _ _ (f 1 (omega arith)),
        eq-eqb _ _ (f 2 (omega arith)),
        eq-eqb _ _ (f 3 (omega arith)),
      )

-- flags

pub used_null : (flags : List ℕ) → unused flags 0 ≡ false
unfolding unused
used_null flags = refl

module _ (flags : List ℕ) (d : ℕ) where
  pub used_zero : get_or flags d 0 ≡ 0 → unused flags d ≡ false
  unfolding unused
  used_zero e = go (eqb d 0)
    where
      go : (b : Bool) → (not b && not (eqb (get_or flags d 0) 0)) ≡ false
      go true = refl
      go false = simp (eq-eqb _ _ e)

  pub unused_flag : d ≢ 0 → get_or flags d 0 ≢ 0 → unused flags d ≡ true
  unfolding unused
  unused_flag z n = simp (ne_eqb _ _ z, ne_eqb _ _ n)

  -- what the code asks of a real dart
  pub unused_is : (x : ℕ) → x ≡ get_or flags d 0 → d ≢ 0 → not (eqb x 0) ≡ unused flags d
  unfolding unused
  unused_is x e z = simp (e, ne_eqb _ _ z)

  pub flag_unused : unused flags d ≡ true → (d ≢ 0) × (get_or flags d 0 ≢ 0)
  unfolding unused
  flag_unused = go (eqb d 0) refl (eqb (get_or flags d 0) 0) refl
    where
      go : (a : Bool) → eqb d 0 ≡ a → (b : Bool) → eqb (get_or flags d 0) 0 ≡ b → (not a && not b) ≡ true → (d ≢ 0) × (get_or flags d 0 ≢ 0)
      go true ea b eb t = absurd (true≢false (sym t))
      go false ea true eb t = absurd (true≢false (sym t))
      go false ea false eb t = (eqb-false _ _ ea, eqb-false _ _ eb)

module _ (rows flags : List ℕ) (d : ℕ) where
  pub bound_used : unused flags d ≡ false → bound rows flags d ≡ false
  unfolding bound
  bound_used u = simp u

  pub bound_unused : unused flags d ≡ true → not (free_at rows d) ≡ bound rows flags d
  unfolding bound
  bound_unused u = simp u

  pub bound_free : Free rows d → bound rows flags d ≡ false
  unfolding bound
  bound_free f = go (unused flags d)
    where
      go : (b : Bool) → (b && not (free_at rows d)) ≡ false
      go true = ap not (yes_free rows d f)
      go false = refl

  pub not_bound : bound rows flags d ≡ false → unused flags d ≡ true → Free rows d
  not_bound n u = go (free_at rows d) refl (bound_unused u ∙ n)
    where
      go : (b : Bool) → free_at rows d ≡ b → not b ≡ false → Free rows d
      go true e t = free_yes rows d e
      go false e t = absurd (true≢false t)

pub beyond_free : (rows : List ℕ) (d : ℕ) → length rows ≡ 4 * darts rows → darts rows ≤ d → Free rows d
beyond_free rows d e h i l = get_or-eq_default rows 0 (omega arith)
