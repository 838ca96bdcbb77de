-- The map test passes exactly on a map: rows that are well formed, and no unused dart with an image.
--   Passes      a dart that the map test passes
--   size_done   the size test has passed
--   map_done    both tests have passed, with a flag for each dart
--   map_passes  the map test passes on a map
-- Assumes nothing.
use Prim.Native.Nat.{ℕ, zero, suc, ◌+◌, ◌*◌, ◌/◌, ◌%◌, ◌<◌, ◌≤◌}
use native.Mathlib.Omega.{arith}
use native.Mathlib.Decide.{dec_lt, ℕ_discrete}
use mathlib.Core.Path.{◌≡◌, refl, sym, ap, ◌∙◌}
use mathlib.Core.Logic.{◌≢◌, by_cases}
use mathlib.Core.List.{List}
use mathlib.Core.Bool.{Bool, true, false, cond, not, true≢false}
use lib.ListN.{length, get_or-eq_default}
use lib.Dec.{ltb}
use borrow.Author.Tests.{eq-eqb, eqb-true, not-false, ltb-false, le-ltb}
use Rattle.map_betas.specs.declared.error.Refusal.TheVariants.{BadSize}
use Rattle.map_betas.specs.Betas.{place, beta, darts, opp}
use Rattle.map_betas.specs.Answers.{pass}
use Rattle.map_betas.specs.Maps.{Sized, bad_size, size_test, breaks, breach_at, bound, unused, first_breach, map_test, WellFormed, Free, Map}
use Rattle.map_betas.proofs.FreeLaws.{bound_used, bound_free, not_bound, beyond_free}
use Rattle.map_betas.proofs.MapLaws.{sized, breaks_far, breaks_null, breaks_dart0, breaks_fixed, breaks_back, breach_clean, breach_none}
use Rattle.std.specs.Prelude.{Err, is_ok}

-- no image breaks a rule
abbrev Clean : List ℕ → Type 0
Clean rows = (i d : ℕ) → i < 4 → d < darts rows → breaks rows i d ≡ false

-- a dart that the map test passes: none of its images breaks a rule, and it is not unused and linked
abbrev pub Passes : List ℕ → List ℕ → ℕ → Type 0
Passes rows flags d = (4 ≤ breach_at rows d) × (bound rows flags d ≡ false)

-- a search that finds nothing passed each dart
search_clean : (f : ℕ) (rows flags : List ℕ) (d : ℕ) → is_ok (first_breach f rows flags d) ≡ true → (e : ℕ) → d ≤ e → e < d + f → Passes rows flags e
unfolding first_breach
search_clean zero rows flags d t e l h = absurd (omega arith)
search_clean (suc f) rows flags d t e l h =
    go (ltb (breach_at rows d) 4) refl (bound rows flags d) refl (λ r a. search_clean f rows flags (d + 1) r e a (omega arith))
  where
    go : (b : Bool) → ltb (breach_at rows d) 4 ≡ b → (c : Bool) → bound rows flags d ≡ c →
        (is_ok (first_breach f rows flags (d + 1)) ≡ true → d + 1 ≤ e → Passes rows flags e) → Passes rows flags e
    go true u c v next = absurd (true≢false (sym (simp u at t)))
    go false u true v next = absurd (true≢false (sym (simp (u, v) at t)))
    go false u false v next =
        by_cases (ℕ_discrete e d) (λ (p : e ≡ d). rw p (ltb-false (breach_at rows d) 4 u, v)) (λ (p : e ≢ d). next (simp (u, v) at t) (omega arith))

clean_search : (f : ℕ) (rows flags : List ℕ) (d : ℕ) → ((e : ℕ) → d ≤ e → e < d + f → Passes rows flags e) → first_breach f rows flags d ≡ pass
unfolding first_breach
clean_search zero rows flags d h = refl
clean_search (suc f) rows flags d h =
    let p = h d (omega arith) (omega arith) in
    simp (le-ltb (breach_at rows d) 4 p.0, p.1) (clean_search f rows flags (d + 1) (λ e a b. h e (omega arith) (omega arith)))

-- the size and the rules, from what the tests found, and back

module _ (rows : List ℕ) (s : Sized rows) where
  test_clean : (flags : List ℕ) → is_ok (map_test rows flags) ≡ true → Clean rows
  unfolding map_test
  test_clean flags t i d hi hd = breach_clean rows d (search_clean (darts rows) rows flags 0 t d (omega arith) (omega arith)).0 i hi

  test_free : (flags : List ℕ) → is_ok (map_test rows flags) ≡ true → (d : ℕ) → unused flags d ≡ true → Free rows d
  unfolding map_test
  test_free flags t d u =
      by_cases (dec_lt d (darts rows))
      (λ h. not_bound rows flags d (search_clean (darts rows) rows flags 0 t d (omega arith) (omega arith)).1 u)
      (λ h. beyond_free rows d s.whole (omega arith))

  clean_test : (flags : List ℕ) → Clean rows → ((d : ℕ) → bound rows flags d ≡ false) → map_test rows flags ≡ pass
  unfolding map_test
  clean_test flags h free =
      clean_search (darts rows) rows flags 0
      (λ d a b.
      let e : 4 ≡ breach_at rows d =
      breach_none rows d (h 0 d (omega arith) (omega arith)) (h 1 d (omega arith) (omega arith)) (h 2 d (omega arith) (omega arith))
      (h 3 d (omega arith) (omega arith)) in
      (omega arith, free d))

  module _ (h : Clean rows) where
    clean_below : (i d : ℕ) → i < 4 → d < darts rows → beta rows i d < darts rows
    clean_below i d hi hd =
        by_cases (dec_lt (beta rows i d) (darts rows)) (λ p. p)
        (λ p. absurd (true≢false (sym (breaks_far rows i d (omega arith)) ∙ h i d hi hd)))

    clean_out : (i d : ℕ) → length rows ≤ place i d → beta rows i d ≡ 0
    clean_out i d l = get_or-eq_default rows 0 l

    clean_real : (i d : ℕ) → i < 4 → beta rows i d ≢ 0 → d < darts rows
    clean_real i d hi n =
        by_cases (dec_lt d (darts rows)) (λ p. p) (λ p. absurd (n (clean_out i d (omega arith))))

    clean_null : (i : ℕ) → i < 4 → beta rows i 0 ≡ 0
    clean_null i hi =
        by_cases (ℕ_discrete (beta rows i 0) 0) (λ p. p)
        (λ n. absurd (true≢false (sym (breaks_dart0 rows i 0 (clean_below i 0 hi (omega arith)) n refl) ∙ h i 0 hi (omega arith))))

    clean_dart : (i d : ℕ) → i < 4 → beta rows i d ≢ 0 → d ≢ 0
    clean_dart i d hi n z = n (rw z (clean_null i hi))

    clean_moved : (i d : ℕ) → 2 ≤ i → i < 4 → beta rows i d ≢ 0 → beta rows i d ≢ d
    clean_moved i d l hi n m =
        let hd = clean_real i d hi n in
        absurd (true≢false (sym (breaks_fixed rows i d (clean_below i d hi hd) n (clean_dart i d hi n) l m) ∙ h i d hi hd))

    clean_back : (i d : ℕ) → i < 4 → beta rows i d ≢ 0 → beta rows (opp i) (beta rows i d) ≡ d
    clean_back i d hi n =
        let hd = clean_real i d hi n in
        let b = clean_below i d hi hd in
        let z = clean_dart i d hi n in
        eqb-true _ _ (not-false _ (breaks_back rows i d _ _ _ refl refl refl b n z (λ l m. clean_moved i d l hi n m) ∙ h i d hi hd))

    clean_below_all : (i d : ℕ) → beta rows i d < darts rows
    clean_below_all i d =
        by_cases (dec_lt (place i d) (length rows))
        (λ (p : 4 * d + i < length rows).
        let j : ℕ = 4 * d + i in
        let q : 4 * (j / 4) + j % 4 ≡ 4 * d + i = omega arith in
        rw q at (clean_below (j % 4) (j / 4) (omega arith) (omega arith)))
        (λ p. rw (clean_out i d (omega arith)) (omega arith))

    formed : WellFormed rows
    formed =
        record { sized = s; below = clean_below_all; null = clean_null; back = clean_back; moved = clean_moved }

  formed_clean : WellFormed rows → Clean rows
  formed_clean w i d hi hd =
      by_cases (ℕ_discrete (beta rows i d) 0)
      (λ (z : beta rows i d ≡ 0). breaks_null rows i d (w.below i d) z)
      (λ (n : beta rows i d ≢ 0).
      let z : d ≢ 0 = λ e. n (rw e (w.null i hi)) in
      sym (breaks_back rows i d _ _ _ refl refl refl (w.below i d) n z (λ l. w.moved i d l hi n)) ∙ ap not (eq-eqb _ _ (w.back i d hi n)))

pub size_done : (rows : List ℕ) → is_ok (size_test rows) ≡ true → Sized rows
size_done rows = go (bad_size (length rows)) refl
  where
    go : (b : Bool) → bad_size (length rows) ≡ b → is_ok (cond b (Err (BadSize (length rows))) pass) ≡ true → Sized rows
    go true t e = absurd (true≢false (sym e))
    go false t e = sized rows t

-- both tests have passed
pub map_done : (rows flags : List ℕ) → Sized rows → darts rows ≤ length flags → is_ok (map_test rows flags) ≡ true → Map rows flags
map_done rows flags s l t = record { formed = formed rows s (test_clean rows s flags t); flagged = l; free = test_free rows s flags t }

-- the map test passes on a map
pub map_passes : (rows flags : List ℕ) → Map rows flags → map_test rows flags ≡ pass
map_passes rows flags m =
    clean_test rows m.formed.sized flags (formed_clean rows m.formed.sized m.formed) (λ d. go d (unused flags d) refl)
  where
    go : (d : ℕ) (b : Bool) → unused flags d ≡ b → bound rows flags d ≡ false
    go d true u = bound_free rows flags d (m.free d u)
    go d false u = bound_used rows flags d u
