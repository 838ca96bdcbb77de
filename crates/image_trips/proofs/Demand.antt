-- What writing and reading promise together, of the calls. Assumes nothing.
--   write_done        where a writing is done: what it answers, and the image it leaves
--   write_then_read   what the writer accepts the reader accepts, from exactly the bytes written, and gives back
--   read_then_write   what the reader accepts the writer writes, into exactly as many bytes, and they are the same
--   read_then_room    and it asks for no fewer
--   same_bytes        so that two images that read the same are the same bytes
use Prim.Native.Nat.{ℕ, ◌+◌, ◌*◌, ◌<◌, ◌≤◌}
use native.Mathlib.Omega.{arith}
use mathlib.Core.Path.{◌≡◌, refl, sym, ap, ◌∙◌, subst}
use mathlib.Core.List.{List, ◌++◌}
use mathlib.Core.Bool.{Bool, true, false, cond, true≢false}
use lib.ListN.{length, take, drop}
use lib.Seq.{sets, sets-eq, take_at}
use lib.Dec.{ltb}
use lib.Ieee.{Float}
use borrow.Author.Tests.{ltb-false}
use Rattle.map_betas.specs.declared.error.Refusal.TheVariants.{ImageRoom}
use Rattle.map_betas.specs.Betas.{darts}
use Rattle.map_betas.specs.Answers.{Outcome, outcome, behind, Answer, Test, done}
use Rattle.image_form.specs.Form.{darts_of, rows_of}
use Rattle.image_form.proofs.StoredLaws.{rows_length}
use Rattle.image_reader.specs.Reads.{Read, Loaded, read_image, Accepted}
use Rattle.image_reader.proofs.Written.{read_image_iff, answer_is, rows_are}
use Rattle.image_store.specs.Stores.{Bytes}
use Rattle.image_blocks.specs.Image.{image_of}
use Rattle.image_writer.specs.Writes.{write_test, written, write_image, Writable}
use Rattle.image_writer.proofs.WriteLaws.{writable, writes, room_short, room_enough}
use Rattle.image_trips.specs.Trips.{Doubles, GivenBack}
use Rattle.image_trips.proofs.Reading.{back_answer, back}
use Rattle.std.specs.Prelude.{Err, Ok, is_ok}
use Rattle.image_trips.proofs.Writing as writing

-- ---- an image that was written

module _ (rows flags vertices : List ℕ) (coordinates : List Float) (bytes : List ℕ) where
  abbrev image : List ℕ
  image = image_of rows flags vertices coordinates

  pub write_done : is_ok (write_image rows flags vertices coordinates bytes).answer ≡ true →
      Writable rows flags vertices coordinates × (length image ≤ length bytes)
      × (write_image rows flags vertices coordinates bytes ≡ outcome (done 0 (length image)) (image ++ drop (length image) bytes))
  unfolding write_image written
  write_done = go (write_test rows flags vertices coordinates) refl (ltb (length bytes) (length image)) refl
    where
      laid : length image ≤ length bytes → sets bytes 0 image ≡ image ++ drop (length image) bytes
      laid h = let z : 0 + length image ≡ length image = omega arith in sets-eq image bytes 0 (omega arith) ∙ ap (λ (k : ℕ). image ++ drop k bytes) z

      go : (t : Test) → write_test rows flags vertices coordinates ≡ t → (s : Bool) → ltb (length bytes) (length image) ≡ s →
          is_ok (behind t bytes (cond s (outcome (Err (ImageRoom (length image))) bytes) (outcome (done 0 (length image)) (sets bytes 0 image)))).answer
          ≡ true →
          Writable rows flags vertices coordinates × (length image ≤ length bytes)
          × (behind t bytes (cond s (outcome (Err (ImageRoom (length image))) bytes) (outcome (done 0 (length image)) (sets bytes 0 image)))
          ≡ outcome (done 0 (length image)) (image ++ drop (length image) bytes))
      go (Err r) e s g d = absurd (true≢false (sym d))
      go (Ok x) e true g d = absurd (true≢false (sym d))
      go (Ok x) e false g d =
          let h : length image ≤ length bytes = ltb-false (length bytes) (length image) g in
          (writable rows flags vertices coordinates (ap is_ok e), h, ap (outcome (done 0 (length image))) (laid h))

done_of : {L : Type 0} (o : Outcome L) (k : ℕ) (l : L) → o ≡ outcome (done 0 k) l → is_ok o.answer ≡ true
done_of o k l e = ap (λ p. is_ok p.answer) e

count_of : Answer → ℕ
count_of (Ok x) = x.count
count_of (Err w) = 0

pub write_then_read : (rows flags vertices : List ℕ) (coordinates : List Float) (bytes : List ℕ) → Doubles coordinates →
    (k : ℕ) (out : List ℕ) → write_image rows flags vertices coordinates bytes ≡ outcome (done 0 k) out →
    (flags' vertices' : List ℕ) (coordinates' : List Float) (rows' : List ℕ) → darts rows ≤ length flags' → darts rows ≤ length vertices' →
    3 * darts rows ≤ length coordinates' → 4 * darts rows ≤ length rows' →
    ((read_image (take k out) flags' vertices' coordinates' rows').answer ≡ done 0 (darts rows))
    × GivenBack rows flags vertices coordinates (read_image (take k out) flags' vertices' coordinates' rows').loans
unfolding count_of
write_then_read rows flags vertices coordinates bytes f k out e flags' vertices' coordinates' rows' a b c d =
    let r = write_done rows flags vertices coordinates bytes (done_of (write_image rows flags vertices coordinates bytes) k out e) in
    let image : List ℕ = image_of rows flags vertices coordinates in
    let same : outcome (done 0 k) out ≡ outcome (done 0 (length image)) (image ++ drop (length image) bytes) = sym e ∙ r.2 in
    let many : k ≡ length image = ap (λ (o : Outcome (List ℕ)). count_of o.answer) same in
    let left : out ≡ image ++ drop (length image) bytes = ap (λ (o : Outcome (List ℕ)). o.loans) same in
    let exact : image ≡ take k out =
    sym (ap (λ (m : ℕ). take m out) many ∙ ap (take (length image)) left ∙ take_at image (drop (length image) bytes) (length image) refl) in
    subst (λ (i : List ℕ). ((read_image i flags' vertices' coordinates' rows').answer ≡ done 0 (darts rows))
    × GivenBack rows flags vertices coordinates (read_image i flags' vertices' coordinates' rows').loans) exact (
      back_answer rows flags vertices coordinates r.0 f flags' vertices' coordinates' rows' a b c d,
      back rows flags vertices coordinates r.0 f flags' vertices' coordinates' rows' a b c d,
    )

-- ---- an image that was read

module _ (bytes flags vertices : List ℕ) (coordinates : List Float) (rows : List ℕ) (b : Bytes bytes) (n : ℕ) (l : Loaded)
    (e : read_image bytes flags vertices coordinates rows ≡ outcome (done 0 n) l) where
  accepted : Accepted 1048576 bytes flags vertices coordinates rows
  accepted = (read_image_iff bytes flags vertices coordinates rows).0 (done_of (read_image bytes flags vertices coordinates rows) n l e)

  enough : 1048576 ≤ 1048576
  enough = omega arith

  darts_are : n ≡ darts_of bytes
  unfolding count_of
  darts_are = ap (λ (o : Read). count_of o.answer) (sym e) ∙ ap count_of (answer_is 1048576 bytes flags vertices coordinates rows enough accepted)

  -- the rows of n darts that were read
  read_rows : rows_of bytes (darts_of bytes) ≡ take (4 * n) l.rows
  read_rows =
      let m = darts_of bytes in
      sym (ap (λ (k : ℕ). take (4 * k) l.rows) darts_are ∙ ap (λ (o : Read). take (4 * m) o.loans.rows) (sym e)
      ∙ ap (take (4 * m)) (rows_are 1048576 bytes flags vertices coordinates rows enough accepted)
      ∙ take_at (rows_of bytes m) (drop (4 * m) rows) (4 * m) (rows_length bytes m))

  abbrev Of : List ℕ → Loaded → Type 0
  Of r o = Writable r o.flags o.vertices o.coordinates × (image_of r o.flags o.vertices o.coordinates ≡ bytes)

  there : Of (take (4 * n) l.rows) l
  there =
      subst (λ (r : List ℕ). Of r l) read_rows
      (subst (λ (o : Read). Of (rows_of bytes (darts_of bytes)) o.loans) e
      (writing.writable bytes flags vertices coordinates rows accepted, writing.image_is bytes flags vertices coordinates rows accepted b))

  pub image_of_lem : image_of (take (4 * n) l.rows) l.flags l.vertices l.coordinates ≡ bytes
  image_of_lem = there.1

  pub read_then_write : (out : List ℕ) → length bytes ≤ length out →
      write_image (take (4 * n) l.rows) l.flags l.vertices l.coordinates out
      ≡ outcome (done 0 (length bytes)) (bytes ++ drop (length bytes) out)
  read_then_write out h =
      let z : 0 + length bytes ≡ length bytes = omega arith in
      writes (take (4 * n) l.rows) l.flags l.vertices l.coordinates there.0 out
      ∙ ap (λ (i : List ℕ). written i out) image_of_lem ∙ sym (room_enough bytes out (length bytes) refl h (sets out 0 bytes) refl)
      ∙ ap (outcome (done 0 (length bytes))) (sets-eq bytes out 0 (omega arith) ∙ ap (λ (k : ℕ). bytes ++ drop k out) z)

  pub read_then_room : (out : List ℕ) → length out < length bytes →
      write_image (take (4 * n) l.rows) l.flags l.vertices l.coordinates out ≡ outcome (Err (ImageRoom (length bytes))) out
  read_then_room out h =
      writes (take (4 * n) l.rows) l.flags l.vertices l.coordinates there.0 out
      ∙ ap (λ (i : List ℕ). written i out) image_of_lem ∙ sym (room_short bytes out (length bytes) refl h)

-- ---- the same bytes

pub same_bytes : (bytes flags vertices : List ℕ) (coordinates : List Float) (rows : List ℕ) (bytes' flags' vertices' : List ℕ) (coordinates' : List Float)
    (rows' : List ℕ) → Bytes bytes → Bytes bytes' → (n : ℕ) (l : Loaded) → read_image bytes flags vertices coordinates rows ≡ outcome (done 0 n) l →
    read_image bytes' flags' vertices' coordinates' rows' ≡ outcome (done 0 n) l → bytes ≡ bytes'
same_bytes bytes flags vertices coordinates rows bytes' flags' vertices' coordinates' rows' b c n l e g =
    sym (image_of_lem bytes flags vertices coordinates rows b n l e) ∙ image_of_lem bytes' flags' vertices' coordinates' rows' c n l g
