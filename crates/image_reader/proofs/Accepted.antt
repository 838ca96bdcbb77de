-- The reader accepts exactly the images of form 1 of maps, with loans that are long enough. Assumes nothing.
--   loans_rows, loans_pass   the case of the rows, the reader's own loan
--   accepted_by   what holds where all tests pass
--   accepted      the same, of what the code has
--   accepts       the tests pass where it holds
--   accepted_iff  both ways, of the tests
use Prim.Native.Nat.{ℕ, ◌*◌, ◌<◌, ◌≤◌}
use native.Mathlib.Omega.{arith}
use mathlib.Core.Path.{◌≡◌, refl, sym, ap, ◌∙◌}
use mathlib.Core.Logic.{◌↔◌}
use mathlib.Core.List.{List}
use mathlib.Core.Bool.{Bool, true, false, cond, true≢false}
use lib.ListN.{length}
use lib.Dec.{ltb}
use lib.Ieee.{Float}
use borrow.Author.Tests.{lt-ltb, le-ltb, ltb-false}
use Rattle.map_betas.specs.declared.error.Loan.TheVariants.{Rows}
use Rattle.map_betas.specs.declared.error.Refusal.TheVariants.{ShortLoan}
use Rattle.map_betas.specs.declared.loans.Loans.{Loans}
use Rattle.map_betas.specs.Answers.{pass, Test}
use Rattle.map_betas.specs.Betas.{darts}
use Rattle.map_betas.specs.Guards.{loan_test, reader_loans, Lent}
use Rattle.map_betas.proofs.AnswerLaws.{goes_on, first_done, then_done}
use Rattle.map_betas.proofs.GuardLaws.{lent, loan_none}
use Rattle.map_betas.proofs.Formed.{map_done, map_passes}
use Rattle.image_form.specs.Form.{form1, darts_of, vertices_of, rows_of, flags_of, Header}
use Rattle.image_form.specs.Tests.{header_test, flags_test, vertices_test}
use Rattle.image_reader.specs.Tests.{blocks_test, loans_test, image_test}
use Rattle.image_reader.specs.Reads.{test_of, Accepted}
use Rattle.image_form.proofs.HeaderLaws.{header_done, header_good}
use Rattle.image_form.proofs.FlagLaws.{flags_done, flags_good}
use Rattle.image_form.proofs.VertexLaws.{vertices_done, vertices_good}
use Rattle.image_form.proofs.StoredLaws.{rows_darts, rows_sized, flags_length}
use Rattle.std.specs.Prelude.{⊤, Err, Ok, is_ok}

-- the loans: t is what the code has of those that other calls have too

module _ (n flags : ℕ) (loans : Loans) (rows : ℕ) {t : Test} (e : t ≡ loan_test n flags loans) {x : ⊤} (d : t ≡ Ok x) where
  pub loans_rows : rows < 4 * n → Err (ShortLoan Rows) ≡ loans_test n flags loans rows
  unfolding loans_test
  loans_rows h =
      let p : cond (ltb rows (4 * n)) (Err (ShortLoan Rows)) pass ≡ Err (ShortLoan Rows) = simp (lt-ltb rows (4 * n) h) in
      sym p ∙ goes_on e _ d

  pub loans_pass : 4 * n ≤ rows → pass ≡ loans_test n flags loans rows
  unfolding loans_test
  loans_pass h =
      let p : cond (ltb rows (4 * n)) (Err (ShortLoan Rows)) pass ≡ pass = simp (le-ltb rows (4 * n) h) in
      sym p ∙ goes_on e _ d

row_room_lem : (n rows : ℕ) → is_ok (cond (ltb rows (4 * n)) (Err (ShortLoan Rows)) pass) ≡ true → 4 * n ≤ rows
row_room_lem n rows = go (ltb rows (4 * n)) refl
  where
    go : (b : Bool) → ltb rows (4 * n) ≡ b → is_ok (cond b (Err (ShortLoan Rows)) pass) ≡ true → 4 * n ≤ rows
    go true e t = absurd (true≢false (sym t))
    go false e t = ltb-false rows (4 * n) e

loans_done : (n flags : ℕ) (loans : Loans) (rows : ℕ) → is_ok (loans_test n flags loans rows) ≡ true → (n ≤ flags) × Lent n loans × (4 * n ≤ rows)
unfolding loans_test
loans_done n flags loans rows t =
    let l = lent n flags loans (first_done (loan_test n flags loans) _ t) in
    (l.0, l.1, row_room_lem n rows (then_done (loan_test n flags loans) _ t))

-- which images are accepted

module _ (most : ℕ) (bytes flags vertices : List ℕ) (coordinates : List Float) (rows : List ℕ) where
  pub accepted_by : most ≤ 1048576 → is_ok (test_of most bytes flags vertices coordinates rows) ≡ true →
      Accepted most bytes flags vertices coordinates rows
  unfolding image_test blocks_test
  accepted_by m t =
      let n : ℕ = darts_of bytes in
      let v : ℕ = vertices_of bytes in
      let h : Header form1 most bytes = header_done most bytes (first_done (header_test most bytes) _ t) in
      let t₁ = then_done (header_test most bytes) _ t in
      let loans = reader_loans (length vertices) (length coordinates) in
      let l = loans_done n (length flags) loans (length rows) (first_done (loans_test n (length flags) loans (length rows)) _ t₁) in
      let t₂ = then_done (loans_test n (length flags) loans (length rows)) _ t₁ in
      let t₃ = then_done (flags_test bytes n) _ t₂ in
      let few : n ≤ 1048576 = omega (arith, h.few) in
      let each : darts (rows_of bytes n) ≤ length (flags_of bytes n) = omega (arith, rows_darts bytes n, flags_length bytes n) in
      record {
        image =
            record {
              header = h;
              flags = flags_done bytes n (first_done (flags_test bytes n) _ t₂);
              vertices = vertices_done bytes n v (first_done (vertices_test bytes n v) _ t₃);
            };
        map =
            map_done (rows_of bytes n) (flags_of bytes n) (rows_sized bytes n h.some few) each (then_done (vertices_test bytes n v) _ t₃);
        flag_room = l.0;
        mark_room = l.1.vertices;
        coordinate_room = l.1.coordinates;
        row_room = l.2;
      }

  -- t and l are what the code has
  pub accepted : {t : Test} {l : Loans} {x : ⊤} → most ≤ 1048576 → l ≡ reader_loans (length vertices) (length coordinates) →
      t ≡ image_test most bytes (length flags) l (length rows) → t ≡ Ok x → Accepted most bytes flags vertices coordinates rows
  accepted {t} {l} m el et d =
      accepted_by m (ap is_ok (sym (et ∙ ap (λ (k : Loans). image_test most bytes (length flags) k (length rows)) el) ∙ d))

  loans_good : Accepted most bytes flags vertices coordinates rows → darts_of bytes ≤ 1048576 →
      pass ≡ loans_test (darts_of bytes) (length flags) (reader_loans (length vertices) (length coordinates)) (length rows)
  loans_good a few =
      loans_pass (darts_of bytes) (length flags) (reader_loans (length vertices) (length coordinates)) (length rows)
      (loan_none (darts_of bytes) (length flags) (reader_loans (length vertices) (length coordinates)) (omega arith) (omega arith) (omega arith)
      a.flag_room a.mark_room a.coordinate_room)
      refl a.row_room

  pub accepts : most ≤ 1048576 → Accepted most bytes flags vertices coordinates rows →
      is_ok (test_of most bytes flags vertices coordinates rows) ≡ true
  unfolding image_test blocks_test
  accepts m a =
      let h : Header form1 most bytes = a.image.header in
      simp (
        header_good most bytes h,
        ← loans_good a (omega (arith, h.few)),
        flags_good bytes (darts_of bytes) a.image.flags,
        vertices_good bytes (darts_of bytes) (vertices_of bytes) a.image.vertices,
      )
      (ap is_ok (map_passes (rows_of bytes (darts_of bytes)) (flags_of bytes (darts_of bytes)) a.map))

  pub accepted_iff : most ≤ 1048576 →
      (is_ok (test_of most bytes flags vertices coordinates rows) ≡ true) ↔ Accepted most bytes flags vertices coordinates rows
  accepted_iff m = (accepted_by m, accepts m)
