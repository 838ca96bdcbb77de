-- What the writer makes of what was read. Assumes nothing.
--   writable      a map that was read is writable
--   points_is     its slots are those that the records name
--   image_is      its image are the bytes that were read
use Prim.Native.Nat.{ℕ, zero, suc, ◌+◌, ◌*◌, ◌-◌, ◌/◌, ◌%◌, ◌<◌, ◌≤◌}
use native.Mathlib.Omega.{arith}
use native.Mathlib.Decide.{dec_lt}
use mathlib.Core.Path.{◌≡◌, refl, sym, ap, ◌∙◌, subst}
use mathlib.Core.Logic.{◌≢◌, ⊎_elim, by_cases}
use mathlib.Core.List.{List}
use mathlib.Core.Bool.{Bool, true, cond}
use lib.ListN.{length, get_or, drop, length-append}
use lib.Seq.{ext_get_or}
use lib.Ieee.{Float, nan, binary64, to_bits}
use lib.Ieee.Scale.{finite}
use borrow.Author.Tests.{eq-eqb, ne_eqb}
use Rattle.map_betas.specs.Betas.{darts}
use Rattle.map_betas.specs.Maps.{Map}
use Rattle.image_words.specs.Lists.{listed}
use Rattle.image_words.specs.Words.{word32, word64, coordinate_at}
use Rattle.image_words.proofs.Filled.{listed_length, listed_get}
use Rattle.image_form.specs.Form.{form1, header_words, header_word, darts_of, vertices_of, rows_of, flag_at, record_at, record_dart, record_coordinate}
use Rattle.image_form.specs.Form.{flag_offset, total_bytes, flags_of}
use Rattle.image_form.proofs.StoredLaws.{rows_darts, flags_length, flag_is}
use Rattle.image_fill.specs.Content.{slots_of}
use Rattle.image_reader.specs.Reads.{Read, read_image, Accepted}
use Rattle.image_reader.proofs.Written.{slot_marks, slot_coordinates, flags_are, vertices_are, coordinates_are, flags_say, vertex_says, no_vertex_says}
use Rattle.image_store.specs.Stores.{stored, number_at, coordinate, Bytes}
use Rattle.image_store.proofs.Trips.{stored_number, number_below, word_is, long_is, bits_finite}
use Rattle.image_blocks.specs.Image.{bit_of, points, point_finite, record_bytes, image_of}
use Rattle.image_blocks.proofs.PointLaws.{point_none, point_whole, finite_all}
use Rattle.image_writer.specs.Writes.{Writable}
use Rattle.image_writer.proofs.WriteLaws.{image_length}
use Rattle.image_trips.proofs.Flagged.{other_flags}
use Rattle.image_trips.proofs.Slots.{find, points_listed}
use Rattle.image_trips.proofs.Image.{dart_byte, coordinate_byte, header_byte, row_byte, flag_byte, record_byte}

bit_same : (x : ℕ) → x ≤ 1 → bit_of x ≡ x
bit_same zero h = ap (λ (b : Bool). cond b 0 1) (eq-eqb 0 0 refl)
bit_same (suc zero) h = ap (λ (b : Bool). cond b 0 1) (ne_eqb 1 0 (λ (e : 1 ≡ 0). omega arith))
bit_same (suc (suc x)) h = absurd (omega arith)

module _ (bytes flags vertices : List ℕ) (coordinates : List Float) (rows : List ℕ) (a : Accepted 1048576 bytes flags vertices coordinates rows) where
  abbrev n : ℕ
  n = darts_of bytes

  abbrev v : ℕ
  v = vertices_of bytes

  abbrev after : Read
  after = read_image bytes flags vertices coordinates rows

  abbrev R : List ℕ
  R = rows_of bytes n

  abbrev fs : List ℕ
  fs = after.loans.flags

  abbrev ms : List ℕ
  ms = after.loans.vertices

  abbrev cs : List Float
  cs = after.loans.coordinates

  -- the dart of record j
  abbrev dart : ℕ → ℕ
  dart j = record_dart bytes (record_at n j)

  enough : 1048576 ≤ 1048576
  enough = omega arith

  darts_are : darts R ≡ n
  darts_are = rows_darts bytes n

  flags_long : n ≤ length fs
  flags_long =
      let l = ap length (flags_are 1048576 bytes flags vertices coordinates rows enough a) in
      let m = length-append (flags_of bytes n) (drop n flags) in
      let k = flags_length bytes n in
      omega arith

  marks_long : n ≤ length ms
  marks_long =
      let l = ap length (vertices_are 1048576 bytes flags vertices coordinates rows enough a) in
      let m = length-append (slots_of bytes n v).marks (drop n vertices) in
      let k = slot_marks bytes n v in
      omega arith

  coordinates_long : 3 * n ≤ length cs
  coordinates_long =
      let l = ap length (coordinates_are 1048576 bytes flags vertices coordinates rows enough a) in
      let m = length-append (slots_of bytes n v).coordinates (drop (3 * n) coordinates) in
      let k = slot_coordinates bytes n v in
      omega arith

  -- ---- the slots

  named : (j : ℕ) → j < v → get_or ms (dart j) 0 ≢ 0
  named j h e =
      let m = (vertex_says 1048576 bytes flags vertices coordinates rows enough a j h).marked in
      omega arith

  other : (d : ℕ) → d < n → ((j : ℕ) → j < v → dart j ≢ d) → get_or ms d 0 ≡ 0
  other d h none = (no_vertex_says 1048576 bytes flags vertices coordinates rows enough a d h none).marked

  point_is : (j c : ℕ) → j < v → c < 3 → get_or cs (3 * dart j + c) nan ≡ record_coordinate bytes (record_at n j) c
  point_is j c h k = (vertex_says 1048576 bytes flags vertices coordinates rows enough a j h).placed c k

  points_fine : (d : ℕ) → d < n → point_finite ms cs d ≡ true
  points_fine d h = ⊎_elim some none (find dart v d)
    where
      some : (j : ℕ) × (j < v) × (dart j ≡ d) → point_finite ms cs d ≡ true
      some r =
          ap (point_finite ms cs) (sym r.2)
          ∙ point_whole ms cs (dart r.0) (named r.0 r.1) (λ c k.
          ap finite (point_is r.0 c r.1 k) ∙ (a.image.vertices.sound r.0 r.1).finite c k)

      none : ((j : ℕ) → j < v → dart j ≢ d) → point_finite ms cs d ≡ true
      none q = sym (point_none ms cs d (other d h q))

  -- the flags that were read are the image's, with further places behind them
  map_read : Map R fs
  map_read =
      let e = darts_are in
      let l = flags_long in
      other_flags R (flags_of bytes n) fs a.map (omega arith) (λ d h z.
      flags_say 1048576 bytes flags vertices coordinates rows enough a d (omega arith) ∙ flag_is bytes n d (omega arith) ∙ z)

  pub writable : Writable R fs ms cs
  writable =
      let e = darts_are in
      let s = a.image.header.some in
      let m = marks_long in
      let k = coordinates_long in
      record {
        map = map_read;
        mark_room = omega arith;
        coordinate_room = omega arith;
        null = flags_say 1048576 bytes flags vertices coordinates rows enough a 0 (omega arith) ∙ a.image.flags.null;
        finite = finite_all ms cs (darts R - 1) 1 (λ d i j. points_fine d (omega arith));
      }

  points_is : points ms (darts R - 1) ≡ listed dart v
  points_is =
      ap (λ (m : ℕ). points ms (m - 1)) darts_are
      ∙ points_listed ms dart v n a.image.header.some a.image.vertices.real a.image.vertices.ascend
      (λ j h. (a.image.vertices.sound j h).below) named other

  abbrev count : ℕ
  count = length (points ms (darts R - 1))

  count_is : count ≡ v
  count_is = ap length points_is ∙ listed_length dart v

  -- ---- byte by byte

  module _ (b : Bytes bytes) where
    header_word_lem : (k : ℕ) → k < 7 → get_or (header_words form1 (darts R) count) k 0 ≡ header_word bytes k
    header_word_lem zero h = sym a.image.header.form
    header_word_lem (suc zero) h =
        let e = darts_are in
        let u = count_is in
        let f = a.image.header.fits in
        let t : total_bytes form1 (darts R) count ≡ length bytes = omega arith in
        t ∙ sym a.image.header.total
    header_word_lem (suc (suc zero)) h = darts_are
    header_word_lem (suc (suc (suc zero))) h = sym a.image.header.rows_start
    header_word_lem (suc (suc (suc (suc zero)))) h =
        let e = darts_are in
        let f = a.image.header.flags_start in
        let t : flag_offset form1 (darts R) ≡ flag_offset form1 n = omega arith in
        t ∙ sym f
    header_word_lem (suc (suc (suc (suc (suc zero))))) h = count_is
    header_word_lem (suc (suc (suc (suc (suc (suc zero)))))) h =
        let e = darts_are in
        let f = a.image.header.vertices_start in
        let t : flag_offset form1 (darts R) + darts R ≡ flag_offset form1 n + n = omega arith in
        t ∙ sym f
    header_word_lem (suc (suc (suc (suc (suc (suc (suc k))))))) h = absurd (omega arith)

    -- byte i of a word that was read at a place
    word_byte : (x at i : ℕ) → x ≡ word32 bytes at → i < 4 → get_or (stored 4 x) i 0 ≡ get_or bytes (at + i) 0
    word_byte x at i e h = ap (λ (y : ℕ). get_or (stored 4 y) i 0) (e ∙ word_is bytes at) ∙ stored_number 4 bytes at i b h

    coordinate_back : (p : Float) (at i : ℕ) → p ≡ coordinate_at bytes at → finite p ≡ true → i < 8 → get_or (coordinate p) i 0 ≡ get_or bytes (at + i) 0
    unfolding coordinate_at
    coordinate_back p at i e f h =
        let l = number_below 8 bytes at b in
        let q : word64 bytes at ≡ number_at 8 bytes at = long_is bytes at in
        let s : word64 bytes at < 18446744073709551616 = rw q l in
        let t : to_bits binary64 p ≡ number_at 8 bytes at =
        ap (to_bits binary64) e ∙ bits_finite (word64 bytes at) s (ap finite (sym e) ∙ f) ∙ q in
        ap (λ (y : ℕ). get_or (stored 8 y) i 0) t ∙ stored_number 8 bytes at i b h

    w : Writable R fs ms cs
    w = writable

    in_header : (q : ℕ) → q < 28 → get_or (image_of R fs ms cs) q 0 ≡ get_or bytes q 0
    in_header q h =
        let e : q ≡ 4 * (q / 4) + q % 4 = omega arith in
        ap (λ (k : ℕ). get_or (image_of R fs ms cs) k 0) e ∙ header_byte R fs ms cs w (q / 4) (q % 4) (omega arith) (omega arith)
        ∙ word_byte (get_or (header_words form1 (darts R) count) (q / 4) 0) (4 * (q / 4)) (q % 4) (header_word_lem (q / 4) (omega arith)) (omega arith)
        ∙ ap (λ (k : ℕ). get_or bytes k 0) (sym e)

    in_rows : (q : ℕ) → q < 16 * n → get_or (image_of R fs ms cs) (28 + q) 0 ≡ get_or bytes (28 + q) 0
    in_rows q h =
        let d = darts_are in
        let e : 28 + q ≡ 28 + 4 * (q / 4) + q % 4 = omega arith in
        ap (λ (k : ℕ). get_or (image_of R fs ms cs) k 0) e ∙ row_byte R fs ms cs w (q / 4) (q % 4) (omega arith) (omega arith)
        ∙ word_byte (get_or R (q / 4) 0) (28 + 4 * (q / 4)) (q % 4)
        (listed_get (λ (k : ℕ). word32 bytes (28 + 4 * k)) 0 (4 * n) (q / 4) (omega arith)) (omega arith)
        ∙ ap (λ (k : ℕ). get_or bytes k 0) (sym e)

    in_flags : (d : ℕ) → d < n → get_or (image_of R fs ms cs) (28 + 16 * n + d) 0 ≡ get_or bytes (28 + 16 * n + d) 0
    in_flags d h =
        let e = darts_are in
        ap (λ (m : ℕ). get_or (image_of R fs ms cs) (28 + 16 * m + d) 0) (sym e) ∙ flag_byte R fs ms cs w d (omega arith)
        ∙ ap bit_of (flags_say 1048576 bytes flags vertices coordinates rows enough a d h) ∙ bit_same (flag_at bytes n d) (a.image.flags.each d h)

    record_there : (j i : ℕ) → j < v → i < 28 → get_or (image_of R fs ms cs) (record_at n j + i) 0 ≡ get_or (record_bytes cs (dart j)) i 0
    record_there j i h k =
        let e = darts_are in
        let u = count_is in
        let p : get_or (points ms (darts R - 1)) j 0 ≡ dart j = ap (λ (l : List ℕ). get_or l j 0) points_is ∙ listed_get dart 0 v j h in
        ap (λ (m : ℕ). get_or (image_of R fs ms cs) (28 + 16 * m + m + 28 * j + i) 0) (sym e) ∙ record_byte R fs ms cs w j i (omega arith) k
        ∙ ap (λ (d : ℕ). get_or (record_bytes cs d) i 0) p

    in_record : (j i : ℕ) → j < v → i < 28 → get_or (image_of R fs ms cs) (record_at n j + i) 0 ≡ get_or bytes (record_at n j + i) 0
    in_record j i h k = record_there j i h k ∙ by_cases (dec_lt i 4) first later
      where
        first : i < 4 → get_or (record_bytes cs (dart j)) i 0 ≡ get_or bytes (record_at n j + i) 0
        first l = dart_byte cs (dart j) i l ∙ word_byte (dart j) (record_at n j) i refl l

        later : (i < 4 → ⊥) → get_or (record_bytes cs (dart j)) i 0 ≡ get_or bytes (record_at n j + i) 0
        later l =
            let c : (i - 4) / 8 < 3 = omega arith in
            let e : i ≡ 4 + 8 * ((i - 4) / 8) + (i - 4) % 8 = omega arith in
            let s = point_is j ((i - 4) / 8) h c in
            let g : record_at n j + (4 + 8 * ((i - 4) / 8)) + (i - 4) % 8 ≡ record_at n j + i = omega arith in
            ap (λ (q : ℕ). get_or (record_bytes cs (dart j)) q 0) e ∙ coordinate_byte cs (dart j) ((i - 4) / 8) ((i - 4) % 8) c (omega arith)
            ∙ coordinate_back (get_or cs (3 * dart j + (i - 4) / 8) nan) (record_at n j + (4 + 8 * ((i - 4) / 8))) ((i - 4) % 8) s
            (ap finite s ∙ (a.image.vertices.sound j h).finite ((i - 4) / 8) c) (omega arith)
            ∙ ap (λ (q : ℕ). get_or bytes q 0) g

    image_long : length (image_of R fs ms cs) ≡ length bytes
    image_long =
        let l = image_length R fs ms cs w in
        let e = darts_are in
        let u = count_is in
        let f = a.image.header.fits in
        omega arith

    pub image_is : image_of R fs ms cs ≡ bytes
    image_is = ext_get_or 0 (image_of R fs ms cs) bytes image_long each
      where
        each : (q : ℕ) → q < length (image_of R fs ms cs) → get_or (image_of R fs ms cs) q 0 ≡ get_or bytes q 0
        each q h =
            let l = image_long in
            let f = a.image.header.fits in
            by_cases (dec_lt q 28) (in_header q) (λ (p : q < 28 → ⊥).
            by_cases (dec_lt q (28 + 16 * n))
            (λ (r : q < 28 + 16 * n).
            let e : 28 + (q - 28) ≡ q = omega arith in
            subst (λ (k : ℕ). get_or (image_of R fs ms cs) k 0 ≡ get_or bytes k 0) e (in_rows (q - 28) (omega arith)))
            (λ (r : q < 28 + 16 * n → ⊥).
            by_cases (dec_lt q (28 + 16 * n + n))
            (λ (s : q < 28 + 16 * n + n).
            let e : 28 + 16 * n + (q - (28 + 16 * n)) ≡ q = omega arith in
            subst (λ (k : ℕ). get_or (image_of R fs ms cs) k 0 ≡ get_or bytes k 0) e (in_flags (q - (28 + 16 * n)) (omega arith)))
            (λ (s : q < 28 + 16 * n + n → ⊥).
            let o = q - (28 + 16 * n + n) in
            let e : record_at n (o / 28) + o % 28 ≡ q = omega arith in
            subst (λ (k : ℕ). get_or (image_of R fs ms cs) k 0 ≡ get_or bytes k 0) e (in_record (o / 28) (o % 28) (omega arith) (omega arith)))))
