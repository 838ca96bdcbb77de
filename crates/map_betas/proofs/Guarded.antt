-- Where the tests of a call pass, and what the map test names where it does not.
--   on_map        on a map with loans that are long enough the darts alone are tested
--   no_loans_lent a call that has rows and flags alone has loans enough
--   map_iff       `check_map` passes exactly on a map
--   guard_iff     the guard passes exactly where map, loans and darts are as they have to be
--   breach_first  the least beta of a dart whose image breaks a rule: it does, and those before it do not
--   first_break   refusal 3 names the least dart, and then the least beta, whose image breaks a rule, or 4 for an unused dart that is linked
-- Assumes nothing.
use Prim.Native.Nat.{ℕ, zero, suc, ◌+◌, ◌<◌, ◌≤◌}
use native.Mathlib.Omega.{arith}
use native.Mathlib.Decide.{ℕ_discrete}
use mathlib.Core.Path.{◌≡◌, refl, sym, ap, ◌∙◌, subst}
use mathlib.Core.Logic.{◌≢◌, ◌↔◌, ◌⊎◌, inl, inr, ⊎_elim, by_cases}
use mathlib.Core.List.{List}
use mathlib.Core.Bool.{Bool, true, false, cond}
use lib.Dec.{ltb}
use lib.ListN.{length}
use borrow.Author.Tests.{ltb-true, ltb-false}
use Rattle.map_betas.specs.declared.error.Refusal.TheVariants.{NotAMap}
use Rattle.map_betas.specs.declared.loans.Loans.{Loans}
use Rattle.map_betas.specs.Betas.{darts}
use Rattle.map_betas.specs.Answers.{pass, tell_of, Test, nothing}
use Rattle.map_betas.specs.Maps.{WellFormed, Map, size_test, breaks, breach_at, bound, first_breach, map_test}
use Rattle.map_betas.specs.Guards.{no_loans, loan_test, dart_test, map_guard, guard_of, check_map, Lent, Ready}
use Rattle.map_betas.proofs.AnswerLaws.{first_done}
use Rattle.map_betas.proofs.MapLaws.{size_good, breach_clean}
use Rattle.map_betas.proofs.Formed.{Passes, map_passes}
use Rattle.map_betas.proofs.GuardLaws.{loan_none, dart_good, dart_both, mapped, ready}
use Rattle.std.specs.Prelude.{Err, is_ok}
use Rattle.std.specs.Result.{result_and}

-- ---- the guard

-- the tests of size, loans and map pass on a map whose loans are long enough
on_map_passes : (rows flags : List ℕ) (loans : Loans) → Map rows flags → Lent (darts rows) loans → map_guard rows flags loans ≡ pass
unfolding map_guard
on_map_passes rows flags loans m l =
    let size : size_test rows ≡ pass = simp (size_good rows m.formed.sized) in
    let long : loan_test (darts rows) (length flags) loans ≡ pass =
    sym (loan_none (darts rows) (length flags) loans l.marks l.queue l.output m.flagged l.vertices l.coordinates) in
    let map : map_test rows flags ≡ pass = map_passes rows flags m in
    λ s. result_and (size s) (result_and (long s) (map s))

-- so that the whole guard is the test of the darts there
pub on_map : (rows flags : List ℕ) (loans : Loans) (least a b : ℕ) → Map rows flags → Lent (darts rows) loans →
    guard_of rows flags loans least a b ≡ dart_test (darts rows) flags least a b
unfolding guard_of
on_map rows flags loans least a b m l = ap (λ (g : Test). result_and g (dart_test (darts rows) flags least a b)) (on_map_passes rows flags loans m l)

pub no_loans_lent : (rows : List ℕ) → WellFormed rows → Lent (darts rows) no_loans
no_loans_lent rows w =
    let few = w.sized.few in
    record { marks = omega arith; queue = omega arith; output = omega arith; vertices = omega arith; coordinates = omega arith }

pub map_iff : (rows flags : List ℕ) → (check_map rows flags ≡ nothing) ↔ Map rows flags
map_iff rows flags = (
  (λ e. (mapped rows flags no_loans (first_done (map_guard rows flags no_loans) nothing (ap is_ok e))).0),
  (λ m. ap (λ (g : Test). result_and g nothing) (on_map_passes rows flags no_loans m (no_loans_lent rows m.formed))),
)

pub guard_iff : (rows flags : List ℕ) (loans : Loans) (least a b : ℕ) → (guard_of rows flags loans least a b ≡ pass) ↔ Ready rows flags loans least a b
guard_iff rows flags loans least a b = ((λ e. ready rows flags loans least a b (ap is_ok e)), passes)
  where
    passes : Ready rows flags loans least a b → guard_of rows flags loans least a b ≡ pass
    passes r =
        let n : ℕ = darts rows in
        on_map rows flags loans least a b r.map r.lent
        ∙ sym (dart_both n flags least a b (dart_good n flags least a r.left.allowed r.left.below r.used_left)
        (dart_good n flags least b r.right.allowed r.right.below r.used_right))

-- ---- the first image that breaks a rule

below_three : (P : ℕ → Type 0) → P 0 → P 1 → P 2 → (j : ℕ) → j < 3 → P j
below_three P a b c zero h = a
below_three P a b c (suc zero) h = b
below_three P a b c (suc (suc zero)) h = c
below_three P a b c (suc (suc (suc j))) h = absurd (omega arith)

module _ (rows : List ℕ) (d : ℕ) where
  abbrev Says : ℕ → Type 0
  Says k = (breaks rows k d ≡ true) × ((j : ℕ) → j < k → breaks rows j d ≡ false)

  pub breach_first : (i : ℕ) → breach_at rows d ≡ i → i < 4 → (breaks rows i d ≡ true) × ((j : ℕ) → j < i → breaks rows j d ≡ false)
  unfolding breach_at
  breach_first i = go (breaks rows 0 d) refl (breaks rows 1 d) refl (breaks rows 2 d) refl (breaks rows 3 d) refl
    where
      none : (j : ℕ) → j < 0 → breaks rows j d ≡ false
      none j h = absurd (omega arith)

      go : (a : Bool) → breaks rows 0 d ≡ a → (b : Bool) → breaks rows 1 d ≡ b → (c : Bool) → breaks rows 2 d ≡ c → (e : Bool) → breaks rows 3 d ≡ e →
          cond a 0 (cond b 1 (cond c 2 (cond e 3 4))) ≡ i → i < 4 → Says i
      go true pa b pb c pc e pe q h = subst Says q (pa, none)
      go false pa true pb c pc e pe q h =
          subst Says q (
            pb,
            λ j k. below_three (λ (x : ℕ). x < 1 → breaks rows x d ≡ false) (λ m. pa) (λ m. absurd (omega arith)) (λ m. absurd (omega arith)) j
                (omega arith) k,
          )
      go false pa false pb true pc e pe q h =
          subst Says q (
            pc,
            λ j k. below_three (λ (x : ℕ). x < 2 → breaks rows x d ≡ false) (λ m. pa) (λ m. pb) (λ m. absurd (omega arith)) j
                (omega arith) k,
          )
      go false pa false pb false pc true pe q h = subst Says q (pe, below_three (λ (x : ℕ). breaks rows x d ≡ false) pa pb pc)
      go false pa false pb false pc false pe q h = absurd (omega (arith, q, h))

-- what is said of the place i of a dart that does not pass: 4 stands for the dart's flag

abbrev Stops : List ℕ → List ℕ → ℕ → ℕ → Type 0
Stops rows flags i d = ((breach_at rows d ≡ i) × (i < 4)) ⊎ ((i ≡ 4) × (4 ≤ breach_at rows d) × (bound rows flags d ≡ true))

abbrev Finds : List ℕ → List ℕ → ℕ → ℕ → ℕ → ℕ → Type 0
Finds rows flags f d i x = (d ≤ x) × (x < d + f) × Stops rows flags i x × ((e : ℕ) → d ≤ e → e < x → Passes rows flags e)

-- a search that refuses has passed every dart before
found : (f : ℕ) (rows flags : List ℕ) (d i x : ℕ) → first_breach f rows flags d ≡ Err (NotAMap i x) → Finds rows flags f d i x
unfolding first_breach
found zero rows flags d i x e =
    let k : ◌≡◌ {A = ℕ} 0 3 = ap (λ (a : Test). (tell_of (result_and a nothing)).number) e in
    absurd (omega arith)
found (suc f) rows flags d i x e =
    go (ltb (breach_at rows d) 4) refl (bound rows flags d) refl (found f rows flags (d + 1) i x) e
  where
    go : (b : Bool) → ltb (breach_at rows d) 4 ≡ b → (c : Bool) → bound rows flags d ≡ c →
        (first_breach f rows flags (d + 1) ≡ Err (NotAMap i x) → Finds rows flags f (d + 1) i x) →
        cond b (Err (NotAMap (breach_at rows d) d)) (cond c (Err (NotAMap 4 d)) (first_breach f rows flags (d + 1))) ≡ Err (NotAMap i x) →
        Finds rows flags (suc f) d i x
    go true t c u next q =
        let p : breach_at rows d ≡ i = ap (λ (a : Test). (tell_of (result_and a nothing)).first) q in
        let s : d ≡ x = ap (λ (a : Test). (tell_of (result_and a nothing)).second) q in
        let h : breach_at rows d < 4 = ltb-true (breach_at rows d) 4 t in
        (omega arith, omega arith, inl (ap (breach_at rows) (sym s) ∙ p, omega arith), λ y a b. absurd (omega arith))
    go false t true u next q =
        let p : 4 ≡ i = ap (λ (a : Test). (tell_of (result_and a nothing)).first) q in
        let s : d ≡ x = ap (λ (a : Test). (tell_of (result_and a nothing)).second) q in
        let h : 4 ≤ breach_at rows d = ltb-false (breach_at rows d) 4 t in
        let g : 4 ≤ breach_at rows x = subst (λ (y : ℕ). 4 ≤ breach_at rows y) s h in
        let v : bound rows flags x ≡ true = subst (λ (y : ℕ). bound rows flags y ≡ true) s u in
        (omega arith, omega arith, inr (sym p, g, v), λ y a b. absurd (omega arith))
    go false t false u next q =
        let r = next q in
        let a = r.0 in
        let b = r.1 in (
          omega arith,
          omega arith,
          r.2,
          λ y j k.
              by_cases (ℕ_discrete y d)
              (λ (z : y ≡ d). rw z (ltb-false (breach_at rows d) 4 t, u))
              (λ (z : y ≢ d). r.3 y (omega arith) k),
        )

-- Refusal 3 says the least dart that breaks a rule, and of that dart the least beta whose image does, or 4 where all its images are right and it is
-- unused with one of them not null.
pub first_break : (rows flags : List ℕ) (i d : ℕ) → map_test rows flags ≡ Err (NotAMap i d) →
    (d < darts rows)
    × (((i < 4) × (breaks rows i d ≡ true)) ⊎ ((i ≡ 4) × (bound rows flags d ≡ true)))
    × ((j e : ℕ) → j < 4 → (e < d) ⊎ ((e ≡ d) × (j < i)) → breaks rows j e ≡ false)
    × ((e : ℕ) → e < d → bound rows flags e ≡ false)
unfolding map_test
first_break rows flags i d t =
    let r = found (darts rows) rows flags 0 i d t in
    let h = r.1 in
    let earlier : (j e : ℕ) → j < 4 → e < d → breaks rows j e ≡ false = λ j e k l. breach_clean rows e (r.3 e (omega arith) l).0 j k in
    let s = at r.2 in
    (omega arith, s.0, (λ j e k. ⊎_elim (λ l. earlier j e k l) (λ p. rw p.0 (s.1 j k p.1))), λ e l. (r.3 e (omega arith) l).1)
  where
    at : Stops rows flags i d →
        (((i < 4) × (breaks rows i d ≡ true)) ⊎ ((i ≡ 4) × (bound rows flags d ≡ true))) × ((j : ℕ) → j < 4 → j < i → breaks rows j d ≡ false)
    at (inl p) =
        let b = breach_first rows d i p.0 p.1 in
        (inl (p.1, b.0), λ j k l. b.1 j l)
    at (inr p) = (inr (p.0, p.2), λ j k l. breach_clean rows d p.1 j k)
