-- The reader's answer, and the whole report. Assumes nothing.
--   test_is        with loans for 1,024 darts the reader's tests answer what `answer_of` says
--   refused_is     the report of an image that is refused
--   fit            what holds of an image that is read
--   rows_are, flags_are, rows_n, flags_n, formed   the parts of the loans that are lent on: the image's rows and flags
--   darts_are      how many darts it says
--   report_is      the report of an image that is read
--   more_is        the report of an input that is too long
--   left_refused, left_done, left_more   what the report leaves in its other loans, case by case
use Prim.Native.Nat.{ℕ, ◌*◌, ◌≤◌}
use native.Mathlib.Omega.{arith}
use mathlib.Core.Path.{◌≡◌, refl, sym, ap, ◌∙◌}
use mathlib.Core.Bool.{Bool, true, false, true≢false}
use mathlib.Core.List.{List}
use lib.ListN.{length, take, drop}
use lib.Seq.{take_at}
use lib.Ieee.{Float}
use Rattle.map_betas.specs.declared.error.Refusal.TheVariants.{BadImage}
use Rattle.map_betas.specs.Answers.{pass, behind, Answer, Test}
use Rattle.map_betas.specs.Betas.{darts}
use Rattle.map_betas.specs.Maps.{WellFormed}
use Rattle.map_betas.specs.declared.error.Done.{Done}
use Rattle.map_betas.specs.declared.error.Refusal.{Refusal}
use Rattle.map_betas.proofs.GuardLaws.{loan_none}
use Rattle.image_form.specs.Form.{form1, darts_of, vertices_of, rows_of, flags_of, Header}
use Rattle.image_form.specs.Tests.{header_test}
use Rattle.image_form.proofs.HeaderLaws.{header_done}
use Rattle.image_form.proofs.StoredLaws.{rows_length, flags_length}
use Rattle.map_betas.specs.Guards.{reader_loans}
use Rattle.image_reader.specs.Tests.{loans_test, blocks_test, image_test}
use Rattle.image_reader.specs.Reads.{Read, loaded, read_out, wrote, test_of, read_within, Accepted}
use Rattle.image_reader.proofs.Accepted.{loans_pass, accepted_by}
use Rattle.image_reader.proofs.Written.{tested, done_is}
use Rattle.cell_steps.specs.Calls.{wiped}
use Rattle.report_lines.specs.Report.{refused_line, map_text, answer_of, tested_text, image_text, report_of, lists_over, leaves, report_leaves}
use Rattle.std.specs.Prelude.{Ok, Err, is_ok}
use Rattle.std.specs.Result.{result_and}

module _ (bytes flags vertices : List ℕ) (coordinates : List Float) (rows : List ℕ) (rf : 1024 ≤ length flags) (rv : 1024 ≤ length vertices)
    (rc : 3072 ≤ length coordinates) (rr : 4096 ≤ length rows) where
  abbrev test : Test
  test = test_of 1024 bytes flags vertices coordinates rows

  loans_are : darts_of bytes ≤ 1024 → pass ≡ loans_test (darts_of bytes) (length flags) (reader_loans (length vertices) (length coordinates)) (length rows)
  loans_are m =
      loans_pass (darts_of bytes) (length flags) (reader_loans (length vertices) (length coordinates)) (length rows)
      (loan_none (darts_of bytes) (length flags) (reader_loans (length vertices) (length coordinates)) (omega arith) (omega arith) (omega arith)
      (omega arith) (omega arith) (omega arith))
      refl (omega arith)

  test_by : (h : Test) → header_test 1024 bytes ≡ h → test ≡ answer_of bytes
  unfolding image_test answer_of
  test_by (Ok x) e =
      let h : Header form1 1024 bytes = header_done 1024 bytes (ap is_ok e) in
      ap (λ (x : Test). result_and (header_test 1024 bytes) (result_and x (blocks_test bytes (darts_of bytes) (vertices_of bytes)))) (sym (loans_are h.few))
  test_by (Err w) e =
      ap (λ (h : Test). result_and h (result_and (loans_test (darts_of bytes) (length flags) (reader_loans (length vertices) (length coordinates)) (length rows))
      (blocks_test bytes (darts_of bytes) (vertices_of bytes)))) e
      ∙ sym (ap (λ (h : Test). result_and h (blocks_test bytes (darts_of bytes) (vertices_of bytes))) e)

  test_is : test ≡ answer_of bytes
  test_is = test_by (header_test 1024 bytes) refl

  module _ (a : Answer) (f v : List ℕ) (c : List Float) (r : List ℕ) (e : read_out a f v c r ≡ read_within 1024 bytes flags vertices coordinates rows) where
    module _ {w : Refusal} (d : a ≡ Err w) where
      test_refused : test ≡ Err w
      unfolding read_within wrote
      test_refused = go test (sym (ap (λ (x : Read). x.answer) e) ∙ d)
        where
          go : (t : Test) → (behind t (loaded flags vertices coordinates rows)
              (wrote bytes (darts_of bytes) (vertices_of bytes) flags vertices coordinates rows)).answer ≡ Err w → t ≡ Err w
          go (Ok x) q = cc
          go (Err u) q = cc

      pub refused_is : (m : Bool) → m ≡ false → refused_line w ≡ report_of m bytes
      unfolding report_of image_text
      refused_is m em = simp (em, sym test_is ∙ test_refused)

      -- a refusal leaves all loans as they were
      pub left_refused : (m : Bool) → m ≡ false → (marks queue output : List ℕ)
          → leaves f v c r marks queue output ≡ report_leaves m bytes flags vertices coordinates rows marks queue output
      unfolding read_within report_leaves
      left_refused m em marks queue output =
          let s : read_out a f v c r ≡ read_out (Err w) flags vertices coordinates rows =
          e ∙ ap (λ (t : Test). behind t (loaded flags vertices coordinates rows)
          (wrote bytes (darts_of bytes) (vertices_of bytes) flags vertices coordinates rows)) test_refused in
          let k : is_ok (answer_of bytes) ≡ false = ap is_ok (sym test_is ∙ test_refused) in
          ap (λ (x : Read). leaves x.loans.flags x.loans.vertices x.loans.coordinates x.loans.rows marks queue output) s ∙ simp (em, k)

    module _ {x : Done} (d : a ≡ Ok x) where
      passed : is_ok test ≡ true
      passed = sym (tested 1024 bytes flags vertices coordinates rows) ∙ sym (ap (λ (x : Read). is_ok x.answer) e) ∙ ap is_ok d

      answered : is_ok (answer_of bytes) ≡ true
      answered = ap is_ok (sym test_is) ∙ passed

      pub fit : Accepted 1024 bytes flags vertices coordinates rows
      fit = accepted_by 1024 bytes flags vertices coordinates rows (omega arith) passed

      written : read_out a f v c r ≡ wrote bytes (darts_of bytes) (vertices_of bytes) flags vertices coordinates rows
      written = e ∙ done_is 1024 bytes flags vertices coordinates rows passed

      pub darts_are : x.count ≡ darts_of bytes
      unfolding wrote
      darts_are = ap count (sym d ∙ ap (λ (x : Read). x.answer) written)
        where
          count : Answer → ℕ
          count (Ok x) = x.count
          count (Err w) = 0

      pub rows_are : (n : ℕ) → n ≡ darts_of bytes → take (4 * n) r ≡ rows_of bytes (darts_of bytes)
      unfolding wrote
      rows_are n en =
          ap (λ (k : ℕ). take (4 * k) r) en ∙ ap (λ (x : Read). take (4 * darts_of bytes) x.loans.rows) written
          ∙ take_at (rows_of bytes (darts_of bytes)) (drop (4 * darts_of bytes) rows) (4 * darts_of bytes) (rows_length bytes (darts_of bytes))

      pub flags_are : (n : ℕ) → n ≡ darts_of bytes → take n f ≡ flags_of bytes (darts_of bytes)
      unfolding wrote
      flags_are n en =
          ap (λ (k : ℕ). take k f) en ∙ ap (λ (x : Read). take (darts_of bytes) x.loans.flags) written
          ∙ take_at (flags_of bytes (darts_of bytes)) (drop (darts_of bytes) flags) (darts_of bytes)
          (flags_length bytes (darts_of bytes))

      pub formed : (n : ℕ) → n ≡ darts_of bytes → WellFormed (take (4 * n) r)
      formed n en = rw (rows_are n en) fit.map.formed

      pub rows_n : (n : ℕ) → n ≡ darts_of bytes → length (take (4 * n) r) ≡ 4 * darts_of bytes
      rows_n n en = ap length (rows_are n en) ∙ rows_length bytes (darts_of bytes)

      pub flags_n : (n : ℕ) → n ≡ darts_of bytes → length (take n f) ≡ darts_of bytes
      flags_n n en = ap length (flags_are n en) ∙ flags_length bytes (darts_of bytes)

      pub report_is : (m : Bool) → m ≡ false → (n : ℕ) → n ≡ darts_of bytes → map_text (take (4 * n) r) (take n f) ≡ report_of m bytes
      unfolding report_of image_text
      report_is m em n en =
          ap (λ (x : List ℕ). map_text x (take n f)) (rows_are n en) ∙ ap (map_text (rows_of bytes (darts_of bytes))) (flags_are n en)
          ∙ go (answer_of bytes) answered ∙ simp em
        where
          go : (t : Test) → is_ok t ≡ true → {l : List ℕ} → l ≡ tested_text t l
          go (Ok x) q = refl
          go (Err u) q = absurd (true≢false (sym q))

      -- an image that is read leaves what the reader wrote, and what the lists leave
      pub left_done : (m : Bool) → m ≡ false → (n : ℕ) → n ≡ darts_of bytes → (marks queue output marks' queue' output' : List ℕ) →
          marks' ≡ wiped (darts (take (4 * n) r)) marks → queue' ≡ wiped (darts (take (4 * n) r)) queue
          → output' ≡ lists_over (take (4 * n) r) (take n f) output →
          leaves f v c r marks' queue' output' ≡ report_leaves m bytes flags vertices coordinates rows marks queue output
      unfolding report_leaves
      left_done m em n en marks queue output marks' queue' output' a-is b-is c-is =
          let n-is : darts (take (4 * n) r) ≡ darts_of bytes = omega (arith, rows_n n en) in
          let m-is : marks' ≡ wiped (darts_of bytes) marks = a-is ∙ ap (λ (i : ℕ). wiped i marks) n-is in
          let q-is : queue' ≡ wiped (darts_of bytes) queue = b-is ∙ ap (λ (i : ℕ). wiped i queue) n-is in
          let o_is : output' ≡ lists_over (rows_of bytes (darts_of bytes)) (flags_of bytes (darts_of bytes)) output =
          c-is
          ∙ ap (λ (x : List ℕ). lists_over x (take n f) output) (rows_are n en)
          ∙ ap (λ (x : List ℕ). lists_over (rows_of bytes (darts_of bytes)) x output) (flags_are n en) in
          ap (λ (x : Read). leaves x.loans.flags x.loans.vertices x.loans.coordinates x.loans.rows marks' queue' output') written
          ∙ (λ t. leaves (wrote bytes (darts_of bytes) (vertices_of bytes) flags vertices coordinates rows).loans.flags
          (wrote bytes (darts_of bytes) (vertices_of bytes) flags vertices coordinates rows).loans.vertices
          (wrote bytes (darts_of bytes) (vertices_of bytes) flags vertices coordinates rows).loans.coordinates
          (wrote bytes (darts_of bytes) (vertices_of bytes) flags vertices coordinates rows).loans.rows (m-is t) (q-is t) (o_is t))
          ∙ simp (em, answered)

-- input that is too long leaves all loans as they were
pub left_more : (bytes : List ℕ) (m : Bool) → m ≡ true → (flags vertices : List ℕ) (coordinates : List Float) (rows marks queue output : List ℕ) →
    leaves flags vertices coordinates rows marks queue output ≡ report_leaves m bytes flags vertices coordinates rows marks queue output
unfolding report_leaves
left_more bytes m e flags vertices coordinates rows marks queue output = simp e

pub more_is : (bytes : List ℕ) (m : Bool) → m ≡ true → refused_line (BadImage 2) ≡ report_of m bytes
unfolding report_of
more_is bytes m e = simp e
