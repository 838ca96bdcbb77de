-- The laws of the guard: each case of the loan test (`loan-..`) and of the dart test (`dart-..`), and what holds once the tests of the map
-- (`mapped`) and the whole guard (`ready`) have passed. Assumes nothing.
use Prim.Native.Nat.{ℕ, ◌*◌, ◌<◌, ◌≤◌}
use native.Mathlib.Omega.{arith}
use native.Mathlib.Decide.{ℕ_discrete}
use mathlib.Core.Path.{◌≡◌, refl, sym, ap, ◌∙◌}
use mathlib.Core.Logic.{◌≢◌, by_cases}
use mathlib.Core.List.{List}
use mathlib.Core.Bool.{Bool, true, false, cond, ◌&&◌, ◌||◌, true≢false}
use lib.Dec.{ltb, leb}
use lib.ListN.{length}
use borrow.Author.Tests.{lt-ltb, le-ltb, le-leb, lt-leb, ltb-false, leb-false}
use Rattle.map_betas.specs.declared.error.Loan.TheVariants.{Marks, Queue, Output, Flags, Vertices, Coordinates}
use Rattle.map_betas.specs.declared.error.Refusal.TheVariants.{ShortLoan, BadDart}
use Rattle.map_betas.specs.declared.loans.Loans.{Loans}
use Rattle.map_betas.specs.Betas.{darts}
use Rattle.map_betas.specs.Answers.{pass}
use Rattle.map_betas.specs.Maps.{size_test, unused, Map}
use Rattle.map_betas.specs.Guards.{loan_test, no_dart, dart_test, map_guard, guard_of, Lent, Dart, Ready}
use Rattle.map_betas.proofs.AnswerLaws.{first_done, then_done}
use Rattle.map_betas.proofs.Formed.{size_done, map_done}
use Rattle.std.specs.Prelude.{Err, is_ok}

module _ (n flags : ℕ) (loans : Loans) where
  pub loan_1 : loans.marks < n → Err (ShortLoan Marks) ≡ loan_test n flags loans
  unfolding loan_test
  loan_1 h = simp (lt-ltb loans.marks n h)

  module _ (a : n ≤ loans.marks) where
    pub loan_2 : loans.queue < n → Err (ShortLoan Queue) ≡ loan_test n flags loans
    unfolding loan_test
    loan_2 h = simp (le-ltb loans.marks n a, lt-ltb loans.queue n h)

    module _ (b : n ≤ loans.queue) where
      pub loan_3 : loans.output < n → Err (ShortLoan Output) ≡ loan_test n flags loans
      unfolding loan_test
      loan_3 h = simp (le-ltb loans.marks n a, le-ltb loans.queue n b, lt-ltb loans.output n h)

      module _ (o : n ≤ loans.output) where
        pub loan_4 : flags < n → Err (ShortLoan Flags) ≡ loan_test n flags loans
        unfolding loan_test
        loan_4 h = simp (le-ltb loans.marks n a, le-ltb loans.queue n b, le-ltb loans.output n o, lt-ltb flags n h)

        module _ (f : n ≤ flags) where
          pub loan_5 : loans.vertices < n → Err (ShortLoan Vertices) ≡ loan_test n flags loans
          unfolding loan_test
          loan_5 h =
              simp (le-ltb loans.marks n a, le-ltb loans.queue n b, le-ltb loans.output n o, le-ltb flags n f, lt-ltb loans.vertices n h)

          module _ (p : n ≤ loans.vertices) where
            pub loan_6 : loans.coordinates < 3 * n → Err (ShortLoan Coordinates) ≡ loan_test n flags loans
            unfolding loan_test
            loan_6 h =
                simp (
                  le-ltb loans.marks n a,
                  le-ltb loans.queue n b,
                  le-ltb loans.output n o,
                  le-ltb flags n f,
                  le-ltb loans.vertices n p,
                  lt-ltb loans.coordinates (3 * n) h,
                )

            pub loan_none : 3 * n ≤ loans.coordinates → pass ≡ loan_test n flags loans
            unfolding loan_test
            loan_none h =
                simp (
                  le-ltb loans.marks n a,
                  le-ltb loans.queue n b,
                  le-ltb loans.output n o,
                  le-ltb flags n f,
                  le-ltb loans.vertices n p,
                  le-ltb loans.coordinates (3 * n) h,
                )

  pub lent : is_ok (loan_test n flags loans) ≡ true → (n ≤ flags) × Lent n loans
  unfolding loan_test
  lent =
      go (ltb loans.marks n) refl (ltb loans.queue n) refl (ltb loans.output n) refl (ltb flags n) refl (ltb loans.vertices n) refl
      (ltb loans.coordinates (3 * n)) refl
    where
      go : (a : Bool) → ltb loans.marks n ≡ a → (b : Bool) → ltb loans.queue n ≡ b → (o : Bool) → ltb loans.output n ≡ o →
          (f : Bool) → ltb flags n ≡ f → (p : Bool) → ltb loans.vertices n ≡ p → (q : Bool) → ltb loans.coordinates (3 * n) ≡ q →
          is_ok
          (cond a (Err (ShortLoan Marks))
          (cond b (Err (ShortLoan Queue))
          (cond o (Err (ShortLoan Output))
          (cond f (Err (ShortLoan Flags)) (cond p (Err (ShortLoan Vertices)) (cond q (Err (ShortLoan Coordinates)) pass)))))) ≡ true → (n ≤ flags) × Lent n loans
      go true ea b eb o eo f ef p ep q eq t = absurd (true≢false (sym t))
      go false ea true eb o eo f ef p ep q eq t = absurd (true≢false (sym t))
      go false ea false eb true eo f ef p ep q eq t = absurd (true≢false (sym t))
      go false ea false eb false eo true ef p ep q eq t = absurd (true≢false (sym t))
      go false ea false eb false eo false ef true ep q eq t = absurd (true≢false (sym t))
      go false ea false eb false eo false ef false ep true eq t = absurd (true≢false (sym t))
      go false ea false eb false eo false ef false ep false eq t = (
        ltb-false _ _ ef,
        record {
          marks = ltb-false _ _ ea;
          queue = ltb-false _ _ eb;
          output = ltb-false _ _ eo;
          vertices = ltb-false _ _ ep;
          coordinates = ltb-false _ _ eq;
        },
      )

-- a dart

module _ (n : ℕ) (flags : List ℕ) (least d : ℕ) where
  pub dart_low : d < least → no_dart n flags least d ≡ true
  unfolding no_dart
  dart_low h = simp (lt-ltb d least h)

  pub dart_high : least ≤ d → n ≤ d → no_dart n flags least d ≡ true
  unfolding no_dart
  dart_high l h = simp (le-ltb d least l, le-leb n d h)

  -- a call that takes the null dart looks at no flag
  pub dart_any : least ≡ 0 → least ≤ d → d < n → no_dart n flags least d ≡ false
  unfolding no_dart
  dart_any z l h = simp (le-ltb d least l, lt-leb n d h, lt-leb 1 least (omega arith))

  pub dart_flag : least ≢ 0 → least ≤ d → d < n → unused flags d ≡ no_dart n flags least d
  unfolding no_dart
  dart_flag z l h = simp (le-ltb d least l, lt-leb n d h, le-leb 1 least (omega arith))

  pub dart_good : least ≤ d → d < n → (1 ≤ least → unused flags d ≡ false) → no_dart n flags least d ≡ false
  dart_good l h u = by_cases (ℕ_discrete least 0) (λ z. dart_any z l h) (λ z. sym (dart_flag z l h) ∙ u (omega arith))

  pub is_dart : no_dart n flags least d ≡ false → Dart n least d × (1 ≤ least → unused flags d ≡ false)
  unfolding no_dart
  is_dart = go (ltb d least) refl (leb n d) refl
    where
      go : (b : Bool) → ltb d least ≡ b → (c : Bool) → leb n d ≡ c → (b || (c || (leb 1 least && unused flags d))) ≡ false →
          Dart n least d × (1 ≤ least → unused flags d ≡ false)
      go true t c u e = absurd (true≢false e)
      go false t true u e = absurd (true≢false e)
      go false t false u e = (
        record { allowed = ltb-false d least t; below = leb-false n d u },
        λ h. sym (ap (λ (x : Bool). x && unused flags d) (le-leb 1 least h)) ∙ e,
      )

module _ (n : ℕ) (flags : List ℕ) (least a b : ℕ) where
  pub dart_first : no_dart n flags least a ≡ true → Err (BadDart 1) ≡ dart_test n flags least a b
  dart_first x = simp x

  pub dart_second : no_dart n flags least a ≡ false → no_dart n flags least b ≡ true → Err (BadDart 2) ≡ dart_test n flags least a b
  dart_second x y = simp (x, y)

  pub dart_both : no_dart n flags least a ≡ false → no_dart n flags least b ≡ false → pass ≡ dart_test n flags least a b
  dart_both x y = simp (x, y)

  abbrev Takes : ℕ → Type 0
  Takes d = Dart n least d × (1 ≤ least → unused flags d ≡ false)

  pub are_darts : is_ok (dart_test n flags least a b) ≡ true → Takes a × Takes b
  are_darts = go (no_dart n flags least a) refl (no_dart n flags least b) refl
    where
      go : (x : Bool) → no_dart n flags least a ≡ x → (y : Bool) → no_dart n flags least b ≡ y →
          is_ok (cond x (Err (BadDart 1)) (cond y (Err (BadDart 2)) pass)) ≡ true → Takes a × Takes b
      go true ex y ey t = absurd (true≢false (sym t))
      go false ex true ey t = absurd (true≢false (sym t))
      go false ex false ey t = (is_dart n flags least a ex, is_dart n flags least b ey)

-- the whole

pub mapped : (rows flags : List ℕ) (loans : Loans) → is_ok (map_guard rows flags loans) ≡ true → Map rows flags × Lent (darts rows) loans
unfolding map_guard
mapped rows flags loans t =
    let n : ℕ = darts rows in
    let t₁ = then_done (size_test rows) _ t in
    let l = lent n (length flags) loans (first_done (loan_test n (length flags) loans) _ t₁) in
    (map_done rows flags (size_done rows (first_done (size_test rows) _ t)) l.0 (then_done (loan_test n (length flags) loans) _ t₁), l.1)

pub ready : (rows flags : List ℕ) (loans : Loans) (least a b : ℕ) → is_ok (guard_of rows flags loans least a b) ≡ true → Ready rows flags loans least a b
unfolding guard_of
ready rows flags loans least a b t =
    let m = mapped rows flags loans (first_done (map_guard rows flags loans) _ t) in
    let ds = are_darts (darts rows) flags least a b (then_done (map_guard rows flags loans) _ t) in
    record { map = m.0; lent = m.1; left = ds.0.0; right = ds.1.0; used_left = ds.0.1; used_right = ds.1.1 }
