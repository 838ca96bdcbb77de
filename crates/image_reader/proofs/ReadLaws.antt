-- The laws of a reading: each case, over what the code has. Assumes nothing.
--   sound_read     the records of an accepted image are sound
--   flags_copied, rows_copied   the bytes and the words that the code copies are the flags and the rows
--   read_refused   a refusal leaves the loans as they were
--   read_done      a reading that is done leaves the image's content
use Prim.Native.Nat.{ℕ, ◌*◌, ◌<◌, ◌≤◌}
use mathlib.Core.Path.{◌≡◌, ap, ◌∙◌}
use mathlib.Core.List.{List, ◌++◌}
use lib.ListN.{length, take, drop}
use lib.Seq.{length-take-le}
use lib.Ieee.{Float}
use Rattle.map_betas.specs.Answers.{Answer, Test, done}
use Rattle.image_words.specs.Words.{words_at, bytes_at}
use Rattle.image_form.specs.Form.{form1, row_offset, flag_offset, darts_of, vertices_of, rows_of, flags_of, record_at, Sound, Vertices}
use Rattle.image_fill.specs.Content.{Slots, slots, over, slots_of}
use Rattle.image_reader.specs.Reads.{read_out, wrote, test_of, read_within}
use Rattle.std.specs.Prelude.{⊤, Err, Ok, IsErrAnd}
use Rattle.map_betas.specs.declared.error.Refusal.{Refusal}
use Rattle.map_betas.specs.declared.loans.Loans.{Loans}
use Rattle.map_betas.specs.Guards.{reader_loans}
use Rattle.map_betas.proofs.AnswerLaws.{behind_refused, behind_done}
use Rattle.image_reader.specs.Tests.{image_test}

-- n and v are what the code reads
pub sound_read : (bytes : List ℕ) (n v : ℕ) → n ≡ darts_of bytes → v ≡ vertices_of bytes → Vertices bytes (darts_of bytes) (vertices_of bytes) →
    (k : ℕ) → k < v → Sound bytes n (record_at n k)
sound_read bytes n v en ev w k h = rw en (w.sound k (rw ev at h))

-- `from` is what the code has for the start of the flags, f what it has copied there
pub flags_copied : (bytes flags : List ℕ) (n : ℕ) {f : List ℕ} {from : ℕ} → n ≤ length flags → from ≡ flag_offset form1 n →
    f ≡ bytes_at bytes from (length (take n flags)) → f ++ drop n flags ≡ flags_of bytes n ++ drop n flags
flags_copied bytes flags n {f} {from} h e g =
    ap (λ (l : List ℕ). l ++ drop n flags)
    (g ∙ ap (λ (k : ℕ). bytes_at bytes k (length (take n flags))) e ∙ ap (bytes_at bytes (flag_offset form1 n)) (length-take-le n flags h))

pub rows_copied : (bytes rows : List ℕ) (n : ℕ) {r : List ℕ} → 4 * n ≤ length rows → r ≡ words_at bytes row_offset (length (take (4 * n) rows)) →
    r ++ drop (4 * n) rows ≡ rows_of bytes n ++ drop (4 * n) rows
rows_copied bytes rows n {r} h g =
    ap (λ (l : List ℕ). l ++ drop (4 * n) rows) (g ∙ ap (words_at bytes row_offset) (length-take-le (4 * n) rows h))

-- t and l are what the code has
module _ (most : ℕ) (bytes flags vertices : List ℕ) (coordinates : List Float) (rows : List ℕ) {t : Test} {l : Loans}
    (el : l ≡ reader_loans (length vertices) (length coordinates)) (et : t ≡ image_test most bytes (length flags) l (length rows)) where
  tested : t ≡ test_of most bytes flags vertices coordinates rows
  tested = et ∙ ap (λ (k : Loans). image_test most bytes (length flags) k (length rows)) el

  pub read_refused : {w : Refusal} (r : Answer) → t ≡ Err w → IsErrAnd r (λ x. x ≡ w) →
      read_out r flags vertices coordinates rows ≡ read_within most bytes flags vertices coordinates rows
  unfolding read_within
  read_refused r d q = behind_refused tested _ _ r d q

  pub read_done : {x : ⊤} → t ≡ Ok x → (n v : ℕ) (f p : List ℕ) (q : List Float) (r : List ℕ) → n ≡ darts_of bytes → v ≡ vertices_of bytes →
      f ≡ flags_of bytes n ++ drop n flags → slots p q ≡ over (slots_of bytes n v) (drop n vertices) (drop (3 * n) coordinates) →
      r ≡ rows_of bytes n ++ drop (4 * n) rows → read_out (done 0 n) f p q r ≡ read_within most bytes flags vertices coordinates rows
  unfolding read_within wrote
  read_done d n v f p q r en ev ef es er =
      let ep : p ≡ (slots_of bytes n v).marks ++ drop n vertices = ap (λ (s : Slots). s.marks) es in
      let eq : q ≡ (slots_of bytes n v).coordinates ++ drop (3 * n) coordinates = ap (λ (s : Slots). s.coordinates) es in
      simp (← en, ← ev, ef, ep, eq, er) (behind_done tested _ _ d)
