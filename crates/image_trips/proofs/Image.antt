-- What stands where in the bytes of an image. Assumes nothing.
--   word_of, long_of      what is read where the bytes are those of a number
--   dart_byte, coordinate_byte   the bytes of a record
--   header_byte, row_byte, flag_byte, record_byte   the bytes of an image, block by block
--   header_says_lem, row_says, flag_says, dart_says, coordinate_says   what the reader reads there
use Prim.Native.Nat.{ℕ, zero, suc, ◌+◌, ◌*◌, ◌-◌, ◌<◌}
use native.Mathlib.Omega.{arith}
use mathlib.Core.Path.{◌≡◌, refl, sym, ap, ◌∙◌, subst}
use mathlib.Core.List.{List, ◌++◌}
use lib.ListN.{length, get_or, take, get_or-append}
use lib.Seq.{get_or-append-add, get_or-take, length-take-le}
use lib.Ieee.{Float, nan, binary64, of_bits, to_bits}
use lib.Ieee.Bits.{to_bits-lt, of_bits-to_bits}
use Rattle.map_betas.specs.Betas.{darts}
use Rattle.image_words.specs.Words.{word32, word64, coordinate_at}
use Rattle.image_form.specs.Form.{form1, header_words, header_word, flag_at, record_at, record_dart, record_coordinate}
use Rattle.image_store.specs.Stores.{stored, number_at, stored_each, words, coordinate}
use Rattle.image_store.proofs.Stored.{stored_length, each_get}
use Rattle.image_store.proofs.Trips.{number_alike, number_stored, word_is, long_is}
use Rattle.image_blocks.specs.Image.{bit_of, bit, points, record_bytes, image_of}
use Rattle.image_blocks.proofs.PointLaws.{record_length}
use Rattle.image_writer.specs.Writes.{Writable}
use Rattle.image_writer.proofs.WriteLaws.{header_length, rows_length, flags_length, sizes}
use Rattle.image_trips.specs.Trips.{Doubles}

-- ---- numbers

shifted : (l m : List ℕ) (at k : ℕ) → ((i : ℕ) → i < k → get_or l (at + i) 0 ≡ get_or m i 0) → number_at k l at ≡ number_at k m 0
shifted l m at k h = number_alike k l m at 0 (λ i j. let z : i ≡ 0 + i = omega arith in h i j ∙ ap (λ (n : ℕ). get_or m n 0) z)

pub word_of : (l : List ℕ) (at x : ℕ) → x < 4294967296 → ((i : ℕ) → i < 4 → get_or l (at + i) 0 ≡ get_or (stored 4 x) i 0) → word32 l at ≡ x
word_of l at x b h = word_is l at ∙ shifted l (stored 4 x) at 4 h ∙ number_stored 4 x b

long_of : (l : List ℕ) (at x : ℕ) → x < 18446744073709551616 → ((i : ℕ) → i < 8 → get_or l (at + i) 0 ≡ get_or (stored 8 x) i 0) → word64 l at ≡ x
long_of l at x b h = long_is l at ∙ shifted l (stored 8 x) at 8 h ∙ number_stored 8 x b

-- ---- two parts, one behind another

left : (a b : List ℕ) (q : ℕ) → q < length a → get_or (a ++ b) q 0 ≡ get_or a q 0
left a b q h = get_or-append a b 0 q h

right : (a b : List ℕ) (k q : ℕ) → length a ≡ k → get_or (a ++ b) (k + q) 0 ≡ get_or b q 0
right a b k q e = ap (λ (j : ℕ). get_or (a ++ b) (j + q) 0) (sym e) ∙ get_or-append-add a b q 0

-- ---- a record

module _ (coordinates : List Float) (d : ℕ) where
  abbrev x : List ℕ
  x = coordinate (get_or coordinates (3 * d) nan)

  abbrev y : List ℕ
  y = coordinate (get_or coordinates (3 * d + 1) nan)

  abbrev z : List ℕ
  z = coordinate (get_or coordinates (3 * d + 2) nan)

  pub dart_byte : (i : ℕ) → i < 4 → get_or (record_bytes coordinates d) i 0 ≡ get_or (stored 4 d) i 0
  unfolding record_bytes
  dart_byte i h = let l = stored_length 4 d in left (stored 4 d) (x ++ (y ++ z)) i (omega arith)

  pub coordinate_byte : (j i : ℕ) → j < 3 → i < 8 →
      get_or (record_bytes coordinates d) (4 + 8 * j + i) 0 ≡ get_or (coordinate (get_or coordinates (3 * d + j) nan)) i 0
  unfolding record_bytes
  coordinate_byte zero i h k =
      let a : 4 + 8 * 0 + i ≡ 4 + i = omega arith in
      let b : 3 * d ≡ 3 * d + 0 = omega arith in
      let l = stored_length 8 (to_bits binary64 (get_or coordinates (3 * d) nan)) in
      ap (λ (q : ℕ). get_or (stored 4 d ++ (x ++ (y ++ z))) q 0) a ∙ right (stored 4 d) (x ++ (y ++ z)) 4 i (stored_length 4 d)
      ∙ left x (y ++ z) i (omega arith) ∙ ap (λ (q : ℕ). get_or (coordinate (get_or coordinates q nan)) i 0) b
  coordinate_byte (suc zero) i h k =
      let a : 4 + 8 * 1 + i ≡ 4 + (8 + i) = omega arith in
      let l = stored_length 8 (to_bits binary64 (get_or coordinates (3 * d + 1) nan)) in
      ap (λ (q : ℕ). get_or (stored 4 d ++ (x ++ (y ++ z))) q 0) a ∙ right (stored 4 d) (x ++ (y ++ z)) 4 (8 + i) (stored_length 4 d)
      ∙ right x (y ++ z) 8 i (stored_length 8 _) ∙ left y z i (omega arith)
  coordinate_byte (suc (suc zero)) i h k =
      let a : 4 + 8 * 2 + i ≡ 4 + (8 + (8 + i)) = omega arith in
      ap (λ (q : ℕ). get_or (stored 4 d ++ (x ++ (y ++ z))) q 0) a ∙ right (stored 4 d) (x ++ (y ++ z)) 4 (8 + (8 + i)) (stored_length 4 d)
      ∙ right x (y ++ z) 8 (8 + i) (stored_length 8 _) ∙ right y z 8 i (stored_length 8 _)
  coordinate_byte (suc (suc (suc j))) i h k = absurd (omega arith)

-- ---- an image

module _ (rows flags vertices : List ℕ) (coordinates : List Float) (w : Writable rows flags vertices coordinates) where
  abbrev n : ℕ
  n = darts rows

  abbrev ps : List ℕ
  ps = points vertices (n - 1)

  abbrev v : ℕ
  v = length ps

  abbrev image : List ℕ
  image = image_of rows flags vertices coordinates

  abbrev H : List ℕ
  H = words (header_words form1 n v)

  abbrev R : List ℕ
  R = words rows

  abbrev F : List ℕ
  F = stored_each bit (take n flags)

  abbrev P : List ℕ
  P = stored_each (record_bytes coordinates) ps

  pub header_byte : (k i : ℕ) → k < 7 → i < 4 → get_or image (4 * k + i) 0 ≡ get_or (stored 4 (get_or (header_words form1 n v) k 0)) i 0
  unfolding image_of
  header_byte k i h j =
      let l = header_length rows flags vertices coordinates w in
      left H (R ++ (F ++ P)) (4 * k + i) (omega arith) ∙ each_get (stored 4) 4 (stored_length 4) 0 (header_words form1 n v) k i h j

  pub row_byte : (k i : ℕ) → k < 4 * n → i < 4 → get_or image (28 + 4 * k + i) 0 ≡ get_or (stored 4 (get_or rows k 0)) i 0
  unfolding image_of
  row_byte k i h j =
      let l = rows_length rows flags vertices coordinates w in
      let s = (sizes rows flags vertices coordinates w).2 in
      let a : 28 + 4 * k + i ≡ 28 + (4 * k + i) = omega arith in
      ap (λ (q : ℕ). get_or (H ++ (R ++ (F ++ P))) q 0) a ∙ right H (R ++ (F ++ P)) 28 (4 * k + i) (header_length rows flags vertices coordinates w)
      ∙ left R (F ++ P) (4 * k + i) (omega arith) ∙ each_get (stored 4) 4 (stored_length 4) 0 rows k i (omega arith) j

  pub flag_byte : (d : ℕ) → d < n → get_or image (28 + 16 * n + d) 0 ≡ bit_of (get_or flags d 0)
  unfolding image_of
  flag_byte d h =
      let l = flags_length rows flags vertices coordinates w in
      let t = length-take-le n flags w.map.flagged in
      let a : 28 + 16 * n + d ≡ 28 + (16 * n + d) = omega arith in
      let b : d ≡ 1 * d + 0 = omega arith in
      ap (λ (q : ℕ). get_or (H ++ (R ++ (F ++ P))) q 0) a ∙ right H (R ++ (F ++ P)) 28 (16 * n + d) (header_length rows flags vertices coordinates w)
      ∙ right R (F ++ P) (16 * n) d (rows_length rows flags vertices coordinates w) ∙ left F P d (omega arith)
      ∙ ap (λ (q : ℕ). get_or F q 0) b ∙ each_get bit 1 (λ (q : ℕ). refl) 0 (take n flags) d 0 (omega arith) (omega arith)
      ∙ ap bit_of (get_or-take n flags d 0 h)

  pub record_byte : (j i : ℕ) → j < v → i < 28 → get_or image (28 + 16 * n + n + 28 * j + i) 0 ≡ get_or (record_bytes coordinates (get_or ps j 0)) i 0
  unfolding image_of
  record_byte j i h k =
      let a : 28 + 16 * n + n + 28 * j + i ≡ 28 + (16 * n + (n + (28 * j + i))) = omega arith in
      ap (λ (q : ℕ). get_or (H ++ (R ++ (F ++ P))) q 0) a
      ∙ right H (R ++ (F ++ P)) 28 (16 * n + (n + (28 * j + i))) (header_length rows flags vertices coordinates w)
      ∙ right R (F ++ P) (16 * n) (n + (28 * j + i)) (rows_length rows flags vertices coordinates w)
      ∙ right F P n (28 * j + i) (flags_length rows flags vertices coordinates w)
      ∙ each_get (record_bytes coordinates) 28 (record_length coordinates) 0 ps j i h k

  -- ---- as the reader reads it

  pub header_says_lem : (k : ℕ) → k < 7 → get_or (header_words form1 n v) k 0 < 4294967296 → header_word image k ≡ get_or (header_words form1 n v) k 0
  header_says_lem k h b = word_of image (4 * k) (get_or (header_words form1 n v) k 0) b (λ i j. header_byte k i h j)

  pub row_says : (k : ℕ) → k < 4 * n → word32 image (28 + 4 * k) ≡ get_or rows k 0
  row_says k h =
      let a : 4 * 0 + k ≡ k = omega arith in
      let s = (sizes rows flags vertices coordinates w).1 in
      let b : get_or rows k 0 < n = subst (λ (q : ℕ). get_or rows q 0 < n) a (w.map.formed.below k 0) in
      word_of image (28 + 4 * k) (get_or rows k 0) (omega arith) (λ i j. row_byte k i h j)

  pub flag_says : (d : ℕ) → d < n → flag_at image n d ≡ bit_of (get_or flags d 0)
  flag_says d h = flag_byte d h

  pub dart_says : (j : ℕ) → j < v → get_or ps j 0 < n → record_dart image (record_at n j) ≡ get_or ps j 0
  dart_says j h b =
      let s = (sizes rows flags vertices coordinates w).1 in
      word_of image (record_at n j) (get_or ps j 0) (omega arith) (λ i k. record_byte j i h (omega arith) ∙ dart_byte coordinates (get_or ps j 0) i k)

  pub coordinate_says : Doubles coordinates → (j c : ℕ) → j < v → c < 3 →
      record_coordinate image (record_at n j) c ≡ get_or coordinates (3 * get_or ps j 0 + c) nan
  unfolding coordinate_at
  coordinate_says f j c h k =
      let p = get_or coordinates (3 * get_or ps j 0 + c) nan in
      let b = to_bits-lt binary64 p (f (3 * get_or ps j 0 + c)) in
      ap (of_bits binary64)
      (long_of image (record_at n j + (4 + 8 * c)) (to_bits binary64 p) b (λ i l.
      let a : record_at n j + (4 + 8 * c) + i ≡ 28 + 16 * n + n + 28 * j + (4 + 8 * c + i) = omega arith in
      ap (λ (q : ℕ). get_or image q 0) a ∙ record_byte j (4 + 8 * c + i) h (omega arith) ∙ coordinate_byte coordinates (get_or ps j 0) c i k l))
      ∙ of_bits-to_bits binary64 p (f (3 * get_or ps j 0 + c))
