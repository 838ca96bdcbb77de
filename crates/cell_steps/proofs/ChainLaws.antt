-- Within as many steps as there are darts a chain comes to null or round, each dart once.
--   passed rows i t d       the first t darts from d on by beta i
--   passed_in, passed_length   which they are
--   going_real, once, not_passed   as long as no step leads to null or back to d no dart is met twice
--   few                     so there are fewer than n steps
--   chain_ends              the chain of a dart ends, in null or at the dart
--   ahead rows stop x       how many steps lead on from x before one leads to null or to `stop`
--   Enough, enough-..       as many turns are enough for a loop that goes on by beta 1 to null or to d
--   ahead_falls             with each turn fewer steps are ahead
-- Assumes nothing.
use Prim.Native.Nat.{ℕ, zero, suc, ◌+◌, ◌-◌, ◌<◌, ◌≤◌}
use native.Mathlib.Omega.{arith}
use native.Mathlib.Decide.{ℕ_discrete, dec_lt}
use mathlib.Core.Path.{◌≡◌, refl, sym, ap, ◌∙◌, subst}
use mathlib.Core.Logic.{◌≢◌, ◌⊎◌, inl, inr, ⊎_elim, by_cases}
use mathlib.Core.Bool.{cond, ◌||◌, or-true}
use mathlib.Core.List.Memᴰ
use mathlib.Core.List.{List, [], ◌∷◌, ◌++◌}
use lib.Dec.{eqb}
use lib.ListN.{length, length-append}
use borrow.Author.Tests.{eq-eqb, ne_eqb}
use Rattle.map_betas.specs.Betas.{beta, darts}
use Rattle.map_betas.specs.Maps.{WellFormed}
use Rattle.map_betas.specs.Chains.{far}
use Rattle.map_betas.proofs.Chains.{Run, Ends, far_zero, far_suc, far_last, far_again, ends_on}
use Rattle.cell_steps.specs.Search.{In, NoRep}
use Rattle.cell_steps.proofs.Lists.{norep_snoc, pigeonhole}

-- ---- the darts that are passed

unfoldable pub passed : List ℕ → ℕ → ℕ → ℕ → List ℕ
passed rows i zero d = []
passed rows i (suc t) d = passed rows i t d ++ (far rows i t d ∷ [])

module _ (rows : List ℕ) (i d : ℕ) where
  passed_in : {x : ℕ} (t : ℕ) → In x (passed rows i t d) → (u : ℕ) × (u < t) × (x ≡ far rows i u d)
  unfolding passed
  passed_in zero m = absurd (Memᴰ.not-nil m)
  passed_in {x = x} (suc t) m =
      ⊎_elim
      (λ j. let r = passed_in {x = x} t j in let h = r.1 in (r.0, omega arith, r.2))
      (λ j. (t, omega arith, Memᴰ.eq_of_singleton j))
      (Memᴰ.append_cases (passed rows i t d) m)

  passed_length : (t : ℕ) → length (passed rows i t d) ≡ t
  unfolding passed
  passed_length zero = refl
  passed_length (suc t) = let h = passed_length t in length-append (passed rows i t d) (far rows i t d ∷ []) ∙ omega arith

-- ---- each dart once

module _ (rows : List ℕ) (w : WellFormed rows) (i : ℕ) (hi : i < 4) (d : ℕ) (real : d ≢ 0) where
  -- m steps lead on from d, none of them to null or back to d
  abbrev pub Going : ℕ → Type 0
  Going m = Run rows i d (beta rows i d) m

  pub going_real : (m : ℕ) → Going m → (t : ℕ) → t ≤ m → far rows i t d ≢ 0
  unfolding far
  going_real m g zero h = real
  going_real m g (suc t) h = (g t (omega arith)).0

  once : (m : ℕ) → Going m → (t u : ℕ) → t < u → u ≤ m → far rows i t d ≢ far rows i u d
  once m g t u h k e =
      let q : u - t ≡ suc (u - suc t) = omega arith in
      (g (u - suc t) (omega arith)).1
      (sym (far_suc rows i (u - suc t) d)
      ∙ ap (λ (x : ℕ). far rows i x d) (sym q)
      ∙ far_again rows w i hi t u d (omega arith) (going_real m g u k) e)

  pub not_passed : (m : ℕ) → Going m → (t : ℕ) → t ≤ m → In (far rows i t d) (passed rows i t d) → ⊥
  not_passed m g t h n = let r = passed_in rows i d t n in once m g r.0 t r.1 h (sym r.2)

  norep_passed : (m : ℕ) → Going m → (t : ℕ) → t ≤ suc m → NoRep (passed rows i t d)
  unfolding passed
  norep_passed m g zero h = tt
  norep_passed m g (suc t) h = norep_snoc (passed rows i t d) (far rows i t d) (norep_passed m g t (omega arith)) (not_passed m g t (omega arith))

  few : d < darts rows → (m : ℕ) → Going m → m < darts rows
  few lt m g =
      let b : (x : ℕ) → In x (passed rows i (suc m) d) → x < darts rows =
      λ x n. let r = passed_in rows i d (suc m) n in subst (λ (y : ℕ). y < darts rows) (sym r.2) (below r.0) in
      omega (arith, pigeonhole (darts rows) (passed rows i (suc m) d) (norep_passed m g (suc m) (omega arith)) b, passed_length rows i d (suc m))
    where
      below : (t : ℕ) → far rows i t d < darts rows
      below zero = rw (far_zero rows i d) lt
      below (suc t) = rw (far_last rows i t d) (w.below i (far rows i t d))

  found : d < darts rows → (f t : ℕ) → darts rows ≤ t + f → Going t → (m : ℕ) × (m < darts rows) × Ends rows i d (beta rows i d) m
  found lt zero t h g = absurd (omega (arith, few lt t g))
  found lt (suc f) t h g =
      by_cases (ℕ_discrete (far rows i t (beta rows i d)) 0)
      (λ (z : far rows i t (beta rows i d) ≡ 0). (t, few lt t g, record { run = g; over = inl z }))
      (λ (n : far rows i t (beta rows i d) ≢ 0). by_cases (ℕ_discrete (far rows i t (beta rows i d)) d)
      (λ (e : far rows i t (beta rows i d) ≡ d). (t, few lt t g, record { run = g; over = inr e }))
      (λ (o : far rows i t (beta rows i d) ≢ d). found lt f (suc t) (omega arith) (more n o)))
    where
      more : far rows i t (beta rows i d) ≢ 0 → far rows i t (beta rows i d) ≢ d → Going (suc t)
      more n o u k =
          by_cases (dec_lt u t) (g u)
          (λ (l : u < t → ⊥).
          let e : u ≡ t = omega arith in
          rw e (n, o))

pub chain_ends : (rows : List ℕ) → WellFormed rows → (i : ℕ) → i < 4 → (d : ℕ) → d < darts rows →
    (m : ℕ) × (m < darts rows) × Ends rows i d (beta rows i d) m
unfolding far
chain_ends rows w i hi d lt =
    by_cases (ℕ_discrete d 0)
    (λ (z : d ≡ 0). (0, omega arith, record { run = λ t h. absurd (omega arith); over = inl (ap (beta rows i) z ∙ w.null i hi) }))
    (λ (n : d ≢ 0). found rows w i hi d n lt (darts rows) 0 (omega arith) (λ t h. absurd (omega arith)))

-- ---- how far it is to the end

-- f bounds the steps
unfoldable pub ahead_from : List ℕ → ℕ → ℕ → ℕ → ℕ
ahead_from rows stop zero l = 0
ahead_from rows stop (suc f) l =
    let more = suc (ahead_from rows stop f (beta rows 1 l)) in
    cond (eqb l 0 || eqb l stop) 0 more

abbrev pub ahead : List ℕ → ℕ → ℕ → ℕ
ahead rows stop x = ahead_from rows stop (darts rows) (beta rows 1 x)

ahead_is : (rows : List ℕ) (stop f m l : ℕ) → m < f → Ends rows 1 stop l m → ahead_from rows stop f l ≡ m
unfolding ahead_from
ahead_is rows stop zero m l h v = absurd (omega arith)
ahead_is rows stop (suc f) m l h v =
    by_cases (ℕ_discrete l 0)
    (λ (z : l ≡ 0). simp (eq-eqb l 0 z) (sym (at_end m v (inl z))))
    (λ (n : l ≢ 0). by_cases (ℕ_discrete l stop)
    (λ (e : l ≡ stop). simp (eq-eqb l stop e, or-true) (sym (at_end m v (inr e))))
    (λ (o : l ≢ stop).
    let r = ends_on rows 1 stop l m v n o in
    let k : m ≡ suc r.0 = r.1 in
    simp (ne_eqb l 0 n, ne_eqb l stop o) (ap suc (ahead_is rows stop f r.0 (beta rows 1 l) (omega arith) r.2) ∙ sym k)))
  where
    at_end : (k : ℕ) → Ends rows 1 stop l k → (l ≡ 0) ⊎ (l ≡ stop) → k ≡ 0
    at_end zero u o = refl
    at_end (suc k) u o =
        let g = u.run 0 (omega arith) in
        absurd (⊎_elim (λ z. g.0 (far_zero rows 1 l ∙ z)) (λ e. g.1 (far_zero rows 1 l ∙ e)) o)

-- ---- a loop round the chain of d

-- at x, with `left` turns, which are enough to come to null or to d
pub record Enough (rows : List ℕ) (d left x : ℕ) : Type 0 where
  pub steps : ℕ
  pub few : steps < left
  pub room : left ≤ darts rows
  pub ends : Ends rows 1 d (beta rows 1 x) steps

pub enough_starts : (rows : List ℕ) → WellFormed rows → (d : ℕ) → d < darts rows → Enough rows d (darts rows) d
enough_starts rows w d lt = let e = chain_ends rows w 1 (omega arith) d lt in record { steps = e.0; few = e.1; room = omega arith; ends = e.2 }

module _ (rows : List ℕ) (d left x : ℕ) (v : Enough rows d left x) where
  pub enough_one : left ≡ suc (left - 1)
  enough_one = let h = v.few in omega arith

  module _ (y : ℕ) (e : y ≡ beta rows 1 x) (n : y ≢ 0) (o : y ≢ d) where
    next : (k : ℕ) × (v.steps ≡ suc k) × Ends rows 1 d (beta rows 1 y) k
    next =
        subst (λ (z : ℕ). (k : ℕ) × (v.steps ≡ suc k) × Ends rows 1 d (beta rows 1 z) k) (sym e)
        (ends_on rows 1 d (beta rows 1 x) v.steps v.ends (λ z. n (e ∙ z)) (λ z. o (e ∙ z)))

    pub enough_on : Enough rows d (left - 1) y
    enough_on =
        let h = v.few in
        let r = v.room in
        let k = next.1 in
        record { steps = next.0; few = omega arith; room = omega arith; ends = next.2 }

    pub ahead_falls : ahead rows d y < ahead rows d x
    ahead_falls =
        let h = v.few in
        let r = v.room in
        let k = next.1 in
        let a = ahead_is rows d (darts rows) v.steps (beta rows 1 x) (omega arith) v.ends in
        let b = ahead_is rows d (darts rows) next.0 (beta rows 1 y) (omega arith) next.2 in
        omega arith
