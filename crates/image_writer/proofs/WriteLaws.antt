-- Where the tests of a writing pass, how long the image is, and that its blocks are laid. Assumes nothing.
--   flag_refused, point_refused, test_passes   the test, case by case
--   writable, passes, write_iff   the tests pass exactly where a map is writable
--   writes                 and then the image is written as far as there is room
--   header_length, rows_length, flags_length, image_length   its blocks and the image are as long as the form says
--   image_laid             its four blocks are the image
--   sizes, total_is, fits  how many darts and records there are, how many bytes, and that each block fits
--   room_short, room_enough   what is left without room and with it
use mathlib.Core.Path.{◌≡◌, refl, sym, ap, ◌∙◌}
use mathlib.Core.Logic.{◌≢◌, ◌↔◌}
use mathlib.Core.List.{List, ◌++◌}
use mathlib.Core.Bool.{Bool, true, false, cond, true≢false}
use Prim.Native.Nat.{ℕ, ◌+◌, ◌*◌, ◌-◌, ◌<◌, ◌≤◌}
use native.Mathlib.Omega.{arith}
use lib.ListN.{length, get_or, take, length-append}
use lib.Seq.{sets, length-take-le}
use lib.Dec.{eqb, ltb}
use lib.Ieee.{Float}
use borrow.Author.Tests.{eq-eqb, ne_eqb, eqb-true, lt-ltb, le-ltb}
use Rattle.map_betas.specs.declared.error.Refusal.TheVariants.{BadImage, ImageRoom}
use Rattle.map_betas.specs.Betas.{darts}
use Rattle.map_betas.specs.Answers.{outcome, pass, behind, Test, done}
use Rattle.map_betas.specs.Guards.{reader_loans, guard_of, Ready}
use Rattle.map_betas.proofs.AnswerLaws.{stops, goes_on, first_done, then_done}
use Rattle.map_betas.proofs.GuardLaws.{ready}
use Rattle.map_betas.proofs.Guarded.{guard_iff}
use Rattle.image_form.specs.Form.{form1, header_words, flag_offset, vertex_offset, total_bytes}
use Rattle.image_form.specs.Tests.{unless}
use Rattle.image_store.specs.Stores.{stored, stored_each, words}
use Rattle.image_store.proofs.Stored.{stored_length, each_length}
use Rattle.image_blocks.specs.Image.{bit, points, finite_from, record_bytes, image_of}
use Rattle.image_blocks.proofs.PointLaws.{points_few, records_length}
use Rattle.image_blocks.proofs.LaidLaws.{four_parts}
use Rattle.image_writer.specs.Writes.{write_test, written, write_image, Writable}
use Rattle.std.specs.Prelude.{⊤, Err, Ok, is_ok, IsErrAnd}
use Rattle.map_betas.specs.declared.error.Refusal.{Refusal}
use Rattle.map_betas.specs.declared.loans.Loans.{Loans}

module _ (rows flags vertices : List ℕ) (coordinates : List Float) where
  abbrev guarded : Test
  guarded = guard_of rows flags (reader_loans (length vertices) (length coordinates)) 0 0 0

  abbrev after : Test
  after = unless (eqb (get_or flags 0 0) 0) 7 (unless (finite_from vertices coordinates 1 (darts rows - 1)) 8 pass)

  -- ---- the test, case by case, g and l being what the code has

  module _ {g : Test} {l : Loans} (el : l ≡ reader_loans (length vertices) (length coordinates)) (eg : g ≡ guard_of rows flags l 0 0 0) where
    e : g ≡ guarded
    e = eg ∙ ap (λ (k : Loans). guard_of rows flags k 0 0 0) el

    pub guard_refused : {w : Refusal} (r : Test) → g ≡ Err w → IsErrAnd r (λ x. x ≡ w) → r ≡ write_test rows flags vertices coordinates
    unfolding write_test
    guard_refused r d q = stops e r after d q

    module _ {x : ⊤} (t : g ≡ Ok x) where
      guard_passed : after ≡ write_test rows flags vertices coordinates
      unfolding write_test
      guard_passed = goes_on e after t

      pub flag_refused : get_or flags 0 0 ≢ 0 → Err (BadImage 7) ≡ write_test rows flags vertices coordinates
      unfolding unless
      flag_refused h =
          sym (ap (λ (b : Bool). unless b 7 (unless (finite_from vertices coordinates 1 (darts rows - 1)) 8 pass)) (ne_eqb (get_or flags 0 0) 0 h))
          ∙ guard_passed

      module _ (h : get_or flags 0 0 ≡ 0) where
        null_fine : unless (finite_from vertices coordinates 1 (darts rows - 1)) 8 pass ≡ write_test rows flags vertices coordinates
        unfolding unless
        null_fine =
            sym (ap (λ (b : Bool). unless b 7 (unless (finite_from vertices coordinates 1 (darts rows - 1)) 8 pass)) (eq-eqb (get_or flags 0 0) 0 h))
            ∙ guard_passed

        pub point_refused : finite_from vertices coordinates 1 (darts rows - 1) ≡ false → Err (BadImage 8) ≡ write_test rows flags vertices coordinates
        unfolding unless
        point_refused f = sym (ap (λ (b : Bool). unless b 8 pass) f) ∙ null_fine

        pub test_passes : finite_from vertices coordinates 1 (darts rows - 1) ≡ true → pass ≡ write_test rows flags vertices coordinates
        unfolding unless
        test_passes f = sym (ap (λ (b : Bool). unless b 8 pass) f) ∙ null_fine

      pub guard_facts : (1 ≤ darts rows) × (darts rows ≤ 1048576) × (darts rows ≤ length flags) × (darts rows ≤ length vertices)
          × (3 * darts rows ≤ length coordinates)
      guard_facts =
          let r : Ready rows flags (reader_loans (length vertices) (length coordinates)) 0 0 0 = ready rows flags _ 0 0 0 (ap is_ok (sym e ∙ t)) in
          (r.map.formed.sized.some, r.map.formed.sized.few, r.map.flagged, r.lent.vertices, r.lent.coordinates)

  -- ---- where it passes

  pub writable : is_ok (write_test rows flags vertices coordinates) ≡ true → Writable rows flags vertices coordinates
  unfolding write_test unless
  writable t =
      let r : Ready rows flags (reader_loans (length vertices) (length coordinates)) 0 0 0 = ready rows flags _ 0 0 0 (first_done guarded after t) in
      let s : is_ok after ≡ true = then_done guarded after t in
      let p = parts (eqb (get_or flags 0 0) 0) (finite_from vertices coordinates 1 (darts rows - 1)) s in
      record {
        map = r.map;
        mark_room = r.lent.vertices;
        coordinate_room = r.lent.coordinates;
        null = eqb-true (get_or flags 0 0) 0 p.0;
        finite = p.1;
      }
    where
      parts : (a b : Bool) → is_ok (cond a (cond b pass (Err (BadImage 8))) (Err (BadImage 7))) ≡ true → (a ≡ true) × (b ≡ true)
      parts true true q = (refl, refl)
      parts true false q = absurd (true≢false (sym q))
      parts false b q = absurd (true≢false (sym q))

  pub passes : Writable rows flags vertices coordinates → write_test rows flags vertices coordinates ≡ pass
  passes w =
      let s = w.map.formed.sized.some in
      let f = w.map.formed.sized.few in
      let g : guarded ≡ pass =
      (guard_iff rows flags (reader_loans (length vertices) (length coordinates)) 0 0 0).1
      (record {
        map = w.map;
        lent = record {
          marks = omega arith;
          queue = omega arith;
          output = omega arith;
          vertices = w.mark_room;
          coordinates = w.coordinate_room;
        };
        left = record { allowed = omega arith; below = omega arith };
        right = record { allowed = omega arith; below = omega arith };
        used_left = λ h. absurd (omega arith);
        used_right = λ h. absurd (omega arith);
      }) in
      sym (test_passes refl refl g w.null w.finite)

  pub write_iff : (is_ok (write_test rows flags vertices coordinates) ≡ true) ↔ Writable rows flags vertices coordinates
  write_iff = (writable, λ w. ap is_ok (passes w))

  pub writes : Writable rows flags vertices coordinates → (bytes : List ℕ) →
      write_image rows flags vertices coordinates bytes ≡ written (image_of rows flags vertices coordinates) bytes
  unfolding write_image
  writes w bytes = ap (λ (t : Test). behind t bytes (written (image_of rows flags vertices coordinates) bytes)) (passes w)

-- ---- the image

module _ (rows flags vertices : List ℕ) (coordinates : List Float) (w : Writable rows flags vertices coordinates) where
  abbrev n : ℕ
  n = darts rows

  abbrev v : ℕ
  v = length (points vertices (n - 1))

  pub rows_length : length (words rows) ≡ 16 * n
  rows_length = let a = each_length (stored 4) 4 (stored_length 4) rows in let b = w.map.formed.sized.whole in omega arith

  pub flags_length : length (stored_each bit (take n flags)) ≡ n
  flags_length =
      let a = each_length bit 1 (λ (x : ℕ). refl) (take n flags) in
      let b = length-take-le n flags w.map.flagged in
      omega arith

  pub header_length : length (words (header_words form1 n v)) ≡ 28
  header_length = each_length (stored 4) 4 (stored_length 4) (header_words form1 n v)

  pub image_length : length (image_of rows flags vertices coordinates) ≡ total_bytes form1 n v
  unfolding image_of
  image_length =
      let r = words rows in
      let f = stored_each bit (take n flags) in
      let p = stored_each (record_bytes coordinates) (points vertices (n - 1)) in
      let a = length-append (words (header_words form1 n v)) (r ++ (f ++ p)) in
      let b = length-append r (f ++ p) in
      let c = length-append f p in
      let h = header_length in
      let i = rows_length in
      let j = flags_length in
      let k = records_length vertices coordinates (n - 1) in
      omega arith

  pub image_laid : (l₀ l₁ l₂ l₃ l₄ : List ℕ) (u x y : ℕ) → u ≡ v → x ≡ flag_offset form1 n → y ≡ vertex_offset form1 n →
      l₁ ≡ sets l₀ 0 (words (header_words form1 n u)) →
      l₂ ≡ sets l₁ 28 (words rows) → l₃ ≡ sets l₂ x (stored_each bit (take n flags)) →
      l₄ ≡ sets l₃ y (stored_each (record_bytes coordinates) (points vertices (n - 1))) → l₄ ≡ sets l₀ 0 (image_of rows flags vertices coordinates)
  unfolding image_of
  image_laid l₀ l₁ l₂ l₃ l₄ u x y c e g q =
      let h = header_length in
      let i = rows_length in
      let j = flags_length in
      four_parts l₀ l₁ l₂ l₃ l₄ 0 28 x y (words (header_words form1 n v)) (words rows) (stored_each bit (take n flags))
      (stored_each (record_bytes coordinates) (points vertices (n - 1))) (omega arith) (omega arith) (omega arith)
      (q ∙ ap (λ (k : ℕ). sets l₀ 0 (words (header_words form1 n k))) c)

  pub sizes : (1 ≤ n) × (n ≤ 1048576) × (length rows ≡ 4 * n) × (v < n)
  sizes =
      let s = w.map.formed.sized in
      let a = s.some in
      let b = points_few vertices (n - 1) in
      (a, s.few, s.whole, omega arith)

  pub total_is : (t u : ℕ) → t ≡ total_bytes form1 n u → u ≡ v → t ≡ length (image_of rows flags vertices coordinates)
  total_is t u e g = e ∙ ap (total_bytes form1 n) g ∙ sym image_length

  -- each block fits into bytes that are as many as the image's
  pub fits : (room : ℕ) → length (image_of rows flags vertices coordinates) ≤ room →
      (28 ≤ room) × (28 + 4 * length rows ≤ room) × (28 + 16 * n + n ≤ room) × (28 + 16 * n + n + 28 * v ≤ room)
  fits room h =
      let i = image_length in
      let s = sizes.2 in
      (omega arith, omega arith, omega arith, omega arith)

-- ---- the room

module _ (image bytes : List ℕ) (total : ℕ) (e : total ≡ length image) where
  pub room_short : length bytes < total → outcome (Err (ImageRoom total)) bytes ≡ written image bytes
  unfolding written
  room_short h =
      let b : ltb (length bytes) (length image) ≡ true = lt-ltb (length bytes) (length image) (omega arith) in
      ap (λ (k : ℕ). outcome (Err (ImageRoom k)) bytes) e
      ∙ sym (ap (λ (c : Bool). cond c (outcome (Err (ImageRoom (length image))) bytes) (outcome (done 0 (length image)) (sets bytes 0 image))) b)

  pub room_enough : total ≤ length bytes → (new : List ℕ) → new ≡ sets bytes 0 image → outcome (done 0 total) new ≡ written image bytes
  unfolding written
  room_enough h new g =
      let b : ltb (length bytes) (length image) ≡ false = le-ltb (length bytes) (length image) (omega arith) in
      ap (λ (k : ℕ). outcome (done 0 k) new) e ∙ ap (λ (l : List ℕ). outcome (done 0 (length image)) l) g
      ∙ sym (ap (λ (c : Bool). cond c (outcome (Err (ImageRoom (length image))) bytes) (outcome (done 0 (length image)) (sets bytes 0 image))) b)
