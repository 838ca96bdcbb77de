-- The laws of the tests of a map: each case of the size test, of a breach (`breaks-..`), of an image that breaks no rule (`keeps-..`), of a dart's
-- least breach (`breach-..`), and the turns of the search for the first one (`first-..`). Assumes nothing.
use Prim.Native.Nat.{ℕ, zero, suc, ◌+◌, ◌-◌, ◌%◌, ◌<◌, ◌≤◌}
use native.Mathlib.Decide.{ℕ_discrete}
use native.Mathlib.Omega.{arith}
use mathlib.Core.Path.{◌≡◌, refl, sym, ap, ◌∙◌}
use mathlib.Core.Logic.{◌≢◌, by_cases}
use mathlib.Core.List.{List}
use mathlib.Core.Bool.{Bool, true, false, cond, not, ◌||◌, ◌&&◌, true≢false, or-true, and-true, or-false as or-none, and-false as and_none}
use lib.ListN.{length}
use lib.Dec.{leb, eqb}
use borrow.Author.Tests.{eq-eqb, ne_eqb, lt-ltb, le-ltb, le-leb, lt-leb, eqb-true, eqb-false, ltb-false, not-false}
use Rattle.map_betas.specs.declared.error.Refusal.TheVariants.{BadSize, NotAMap}
use Rattle.map_betas.specs.Betas.{beta, darts, opp}
use Rattle.map_betas.specs.Answers.{pass}
use Rattle.map_betas.specs.Maps.{Sized, NullRow, bad_size, size_test, breaks, breach_at, bound, first_breach, map_test}
use Rattle.map_betas.proofs.BetaLaws.{opp_lt, no_self}
use Rattle.std.specs.Prelude.{Err}

-- the size

or-false : (a b : Bool) → (a || b) ≡ false → (a ≡ false) × (b ≡ false)
or-false true b e = absurd (true≢false e)
or-false false b e = (refl, e)

pub sized : (rows : List ℕ) → bad_size (length rows) ≡ false → Sized rows
unfolding bad_size
sized rows e =
    let p = or-false (eqb (length rows) 0) _ e in
    let q = or-false (not (eqb (length rows % 4) 0)) _ p.1 in
    let a = eqb-false (length rows) 0 p.0 in
    let b = eqb-true (length rows % 4) 0 (not-false (eqb (length rows % 4) 0) q.0) in
    let d = ltb-false 4194304 (length rows) q.1 in
    record { whole = omega arith; some = omega arith; few = omega arith }

pub size_good : (rows : List ℕ) → Sized rows → bad_size (length rows) ≡ false
unfolding bad_size
size_good rows s =
    simp (ne_eqb (length rows) 0 (omega arith), eq-eqb (length rows % 4) 0 (omega arith), le-ltb 4194304 (length rows) (omega arith))

module _ (k : ℕ) where
  pub bad_empty : k ≡ 0 → bad_size k ≡ true
  unfolding bad_size
  bad_empty e = simp (eq-eqb k 0 e)

  pub bad_rest : k ≢ 0 → k % 4 ≢ 0 → bad_size k ≡ true
  unfolding bad_size
  bad_rest n r = simp (ne_eqb k 0 n, ne_eqb (k % 4) 0 r)

  pub bad_many : k ≢ 0 → k % 4 ≡ 0 → 4194304 < k → bad_size k ≡ true
  unfolding bad_size
  bad_many n r h = simp (ne_eqb k 0 n, eq-eqb (k % 4) 0 r, lt-ltb 4194304 k h)

  pub bad_not : k ≢ 0 → k % 4 ≡ 0 → k ≤ 4194304 → bad_size k ≡ false
  unfolding bad_size
  bad_not n r h = simp (ne_eqb k 0 n, eq-eqb (k % 4) 0 r, le-ltb 4194304 k h)

module _ (rows : List ℕ) where
  pub size_refused : bad_size (length rows) ≡ true → Err (BadSize (length rows)) ≡ size_test rows
  size_refused e = simp e

  pub size_passed : bad_size (length rows) ≡ false → pass ≡ size_test rows
  size_passed e = simp e

-- the rules

module _ (rows : List ℕ) (i d : ℕ) where
  pub breaks_far : darts rows ≤ beta rows i d → breaks rows i d ≡ true
  unfolding breaks
  breaks_far h = simp (le-leb _ _ h)

  pub breaks_null : beta rows i d < darts rows → beta rows i d ≡ 0 → breaks rows i d ≡ false
  unfolding breaks
  breaks_null h z = simp (lt-leb _ _ h, eq-eqb _ _ z)

  pub breaks_dart0 : beta rows i d < darts rows → beta rows i d ≢ 0 → d ≡ 0 → breaks rows i d ≡ true
  unfolding breaks
  breaks_dart0 h x z = simp (lt-leb _ _ h, ne_eqb _ _ x, eq-eqb _ _ z)

  pub breaks_fixed : beta rows i d < darts rows → beta rows i d ≢ 0 → d ≢ 0 → 2 ≤ i → beta rows i d ≡ d → breaks rows i d ≡ true
  unfolding breaks
  breaks_fixed h x z l e = simp (lt-leb _ _ h, ne_eqb _ _ x, ne_eqb _ _ z, le-leb _ _ l, eq-eqb _ _ e)

  pub breaks_back : (j x y : ℕ) → j ≡ opp i → x ≡ beta rows i d → y ≡ beta rows j x → x < darts rows → x ≢ 0 → d ≢ 0 → (2 ≤ i → x ≢ d) →
      not (eqb y d) ≡ breaks rows i d
  unfolding breaks
  breaks_back j x y ej ex ey h n z m = simp (ey, ← ej, ← ex, lt-leb _ _ h, ne_eqb _ _ n, ne_eqb _ _ z, no_self i x d m)

  -- where row 0 is null: an image that does not lead back, and one that does

  pub breaks_astray : (j x y : ℕ) → j ≡ opp i → x ≡ beta rows i d → y ≡ beta rows j x → x < darts rows → d ≢ 0 → y ≢ d → not (eqb x 0) ≡ breaks rows i d
  unfolding breaks
  breaks_astray j x y ej ex ey h z n = simp (← ej, ← ex, ← ey, lt-leb _ _ h, ne_eqb _ _ z, ne_eqb _ _ n, or-true (leb 2 i && eqb x d), and-true (not (eqb x 0)))

  led_real : (j x y : ℕ) → j ≡ opp i → i < 4 → NullRow rows → y ≡ beta rows j x → d ≢ 0 → y ≡ d → x ≢ 0
  led_real j x y ej hi o ey z e w =
      z (sym e ∙ ey ∙ ap (beta rows j) w ∙ o j (rw ej (opp_lt i hi)))

  pub breaks_led : (j x y : ℕ) → j ≡ opp i → i < 4 → NullRow rows → x ≡ beta rows i d → y ≡ beta rows j x → x < darts rows → d ≢ 0 → y ≡ d →
      (leb 2 i && eqb x d) ≡ breaks rows i d
  unfolding breaks
  breaks_led j x y ej hi o ex ey h z e =
      simp (← ej, ← ex, ← ey, lt-leb _ _ h, ne_eqb _ _ z, eq-eqb _ _ e, ne_eqb _ _ (led_real j x y ej hi o ey z e), or-none (leb 2 i && eqb x d))

-- an image x of a dart d by beta i that breaks no rule: a null one, and one that leads back

module _ (rows : List ℕ) (i d x : ℕ) where
  pub keeps_none : x ≡ beta rows i d → x < darts rows → x ≡ 0 → breaks rows i d ≡ false
  keeps_none ex h z = breaks_null rows i d (rw (sym ex) h) (sym ex ∙ z)

  pub keeps_led : (y : ℕ) → x ≡ beta rows i d → y ≡ beta rows (opp i) x → x < darts rows → d ≢ 0 → y ≡ d → (2 ≤ i → x ≢ d) → breaks rows i d ≡ false
  unfolding breaks
  keeps_led y ex ey h z e m =
      simp (← ex, ← ey, lt-leb _ _ h, ne_eqb _ _ z, no_self i x d m, eq-eqb _ _ e, and_none (not (eqb x 0)))

module _ (rows : List ℕ) (s : Sized rows) (i : ℕ) where
  pub breaks_of_null : beta rows i 0 ≢ 0 → breaks rows i 0 ≡ true
  unfolding breaks
  breaks_of_null n = simp (ne_eqb _ _ n, or-true (leb (darts rows) (beta rows i 0)))

  pub keeps_null : beta rows i 0 ≡ 0 → breaks rows i 0 ≡ false
  keeps_null e = breaks_null rows i 0 (omega (arith, s.some, e)) e

  pub null_kept : breaks rows i 0 ≡ false → beta rows i 0 ≡ 0
  null_kept k = by_cases (ℕ_discrete (beta rows i 0) 0) (λ e. e) (λ n. absurd (true≢false (sym (breaks_of_null n) ∙ k)))

-- a dart's least breach

module _ (rows : List ℕ) (d : ℕ) where
  pub breach_0 : breaks rows 0 d ≡ true → 0 ≡ breach_at rows d
  unfolding breach_at
  breach_0 a = simp a

  pub breach_1 : breaks rows 0 d ≡ false → breaks rows 1 d ≡ true → 1 ≡ breach_at rows d
  unfolding breach_at
  breach_1 a b = simp (a, b)

  pub breach_2 : breaks rows 0 d ≡ false → breaks rows 1 d ≡ false → breaks rows 2 d ≡ true → 2 ≡ breach_at rows d
  unfolding breach_at
  breach_2 a b e = simp (a, b, e)

  pub breach_3 : breaks rows 0 d ≡ false → breaks rows 1 d ≡ false → breaks rows 2 d ≡ false → breaks rows 3 d ≡ true → 3 ≡ breach_at rows d
  unfolding breach_at
  breach_3 a b e g = simp (a, b, e, g)

  pub breach_none : breaks rows 0 d ≡ false → breaks rows 1 d ≡ false → breaks rows 2 d ≡ false → breaks rows 3 d ≡ false → 4 ≡ breach_at rows d
  unfolding breach_at
  breach_none a b e g = simp (a, b, e, g)

  pub breach_clean : 4 ≤ breach_at rows d → (i : ℕ) → i < 4 → breaks rows i d ≡ false
  unfolding breach_at
  breach_clean h = go (breaks rows 0 d) refl (breaks rows 1 d) refl (breaks rows 2 d) refl (breaks rows 3 d) refl h
    where
      go : (a : Bool) → breaks rows 0 d ≡ a → (b : Bool) → breaks rows 1 d ≡ b → (e : Bool) → breaks rows 2 d ≡ e → (g : Bool) → breaks rows 3 d ≡ g →
          4 ≤ cond a 0 (cond b 1 (cond e 2 (cond g 3 4))) → (i : ℕ) → i < 4 → breaks rows i d ≡ false
      go true ea b eb e ee g eg h' i l = absurd (omega arith)
      go false ea true eb e ee g eg h' i l = absurd (omega arith)
      go false ea false eb true ee g eg h' i l = absurd (omega arith)
      go false ea false eb false ee true eg h' i l = absurd (omega arith)
      go false ea false eb false ee false eg h' zero l = ea
      go false ea false eb false ee false eg h' (suc zero) l = eb
      go false ea false eb false ee false eg h' (suc (suc zero)) l = ee
      go false ea false eb false ee false eg h' (suc (suc (suc zero))) l = eg
      go false ea false eb false ee false eg h' (suc (suc (suc (suc i)))) l = absurd (omega arith)

-- the search for the first breach, at dart d of n

module _ (rows flags : List ℕ) (n d : ℕ) where
  pub first_hit : (i : ℕ) → d < n → i ≡ breach_at rows d → i < 4 → Err (NotAMap i d) ≡ first_breach (n - d) rows flags d
  unfolding first_breach
  first_hit i h e l =
      let p : n - d ≡ suc (n - (d + 1)) = omega arith in
      rw p (simp (← e, lt-ltb i 4 l))

  pub first_bound : d < n → 4 ≤ breach_at rows d → bound rows flags d ≡ true → Err (NotAMap 4 d) ≡ first_breach (n - d) rows flags d
  unfolding first_breach
  first_bound h l b =
      let p : n - d ≡ suc (n - (d + 1)) = omega arith in
      rw p (simp (le-ltb _ 4 l, b))

  pub first_miss : d < n → 4 ≤ breach_at rows d → bound rows flags d ≡ false →
      first_breach (n - d) rows flags d ≡ first_breach (n - (d + 1)) rows flags (d + 1)
  unfolding first_breach
  first_miss h l b =
      let p : n - d ≡ suc (n - (d + 1)) = omega arith in
      rw p (simp (le-ltb _ 4 l, b))

  pub first_end_lem : n ≤ d → pass ≡ first_breach (n - d) rows flags d
  unfolding first_breach
  first_end_lem h =
      let p : n - d ≡ 0 = omega arith in
      rw p refl

pub first_start : (rows flags : List ℕ) (n : ℕ) → n ≡ darts rows → map_test rows flags ≡ first_breach (n - 0) rows flags 0
unfolding map_test
first_start rows flags n e =
    let p : n - 0 ≡ darts rows = omega arith in
    rw p refl
