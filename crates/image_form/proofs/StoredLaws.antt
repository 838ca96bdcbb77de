-- The images and the flags of an image's darts: a word of the bytes is an image of the rows (`stored_is`), a byte is a flag (`flag_is`), so that the map
-- test over the bytes has the cases of the map test over rows and flags. Assumes nothing.
--   rows_length, rows_darts   the rows are those of n darts
--   stored_is                 the word of dart d and beta i is its image
--   stored_far, stored_null, stored_dart0, stored_fixed, stored_back   each case of a breach
--   flags_length, flag_is     the flags are those of n darts, and the byte of dart d is its flag
--   clean_free                the null dart, where its images break no rule, has none
--   stored_used, stored_bound   the cases of a dart that is unused and linked
use Prim.Native.Nat.{ℕ, ◌+◌, ◌*◌, ◌<◌, ◌≤◌}
use native.Mathlib.Omega.{arith}
use native.Mathlib.Decide.{ℕ_discrete}
use mathlib.Core.Path.{◌≡◌, sym, ap, ◌∙◌}
use mathlib.Core.Logic.{◌≢◌, by_cases}
use mathlib.Core.List.{List}
use mathlib.Core.Bool.{true, false, not}
use lib.ListN.{length, get_or}
use lib.Dec.{eqb}
use Rattle.image_words.specs.Words.{word32}
use Rattle.image_words.proofs.Filled.{listed_length, listed_get}
use Rattle.map_betas.specs.Betas.{beta, darts, opp}
use Rattle.map_betas.specs.Maps.{Sized, breaks, breach_at, free_at, bound, Free}
use Rattle.map_betas.proofs.BetaLaws.{opp_lt}
use Rattle.map_betas.proofs.MapLaws.{breaks_far, breaks_null, breaks_dart0, breaks_fixed, breaks_back, breach_clean, null_kept}
use Rattle.map_betas.proofs.FreeLaws.{yes_free, used_zero, unused_flag, bound_used, bound_unused, bound_free}
use Rattle.image_form.specs.Form.{form1, flag_offset, rows_of, flag_at, flags_of}

module _ (bytes : List ℕ) (n : ℕ) where
  pub rows_length : length (rows_of bytes n) ≡ 4 * n
  rows_length = listed_length (λ (k : ℕ). word32 bytes (28 + 4 * k)) (4 * n)

  pub rows_darts : darts (rows_of bytes n) ≡ n
  rows_darts = let l = rows_length in omega arith

  pub rows_sized : 1 ≤ n → n ≤ 1048576 → Sized (rows_of bytes n)
  rows_sized a b = let l = rows_length in record { whole = omega arith; some = omega arith; few = omega arith }

  pub stored_is : (i d : ℕ) → i < 4 → d < n → word32 bytes (28 + 16 * d + 4 * i) ≡ beta (rows_of bytes n) i d
  stored_is i d hi hd =
      let p : 28 + 16 * d + 4 * i ≡ 28 + 4 * (4 * d + i) = omega arith in
      ap (word32 bytes) p ∙ sym (listed_get (λ (k : ℕ). word32 bytes (28 + 4 * k)) 0 (4 * n) (4 * d + i) (omega arith))

-- x is what the code reads
module _ (bytes : List ℕ) (n i d x : ℕ) (e : x ≡ word32 bytes (28 + 16 * d + 4 * i)) (hi : i < 4) (hd : d < n) where
  is : x ≡ beta (rows_of bytes n) i d
  is = e ∙ stored_is bytes n i d hi hd

  pub stored_far : n ≤ x → true ≡ breaks (rows_of bytes n) i d
  stored_far h = let l = rows_darts bytes n in let b = is in sym (breaks_far (rows_of bytes n) i d (omega arith))

  pub stored_null : x < n → x ≡ 0 → false ≡ breaks (rows_of bytes n) i d
  stored_null h z = let l = rows_darts bytes n in let b = is in sym (breaks_null (rows_of bytes n) i d (omega arith) (omega arith))

  module _ (h : x < n) (m : x ≢ 0) where
    pub stored_dart0 : d ≡ 0 → true ≡ breaks (rows_of bytes n) i d
    stored_dart0 z = let l = rows_darts bytes n in let b = is in sym (breaks_dart0 (rows_of bytes n) i d (omega arith) (omega arith) z)

    pub stored_fixed : d ≢ 0 → 2 ≤ i → x ≡ d → true ≡ breaks (rows_of bytes n) i d
    stored_fixed z t f =
        let l = rows_darts bytes n in
        let b = is in
        sym (breaks_fixed (rows_of bytes n) i d (omega arith) (omega arith) z t (omega arith))

    pub stored_back : (j y : ℕ) → j ≡ opp i → y ≡ word32 bytes (28 + 16 * x + 4 * j) → d ≢ 0 → (2 ≤ i → x ≢ d) →
        not (eqb y d) ≡ breaks (rows_of bytes n) i d
    stored_back j y ej ey z f =
        let l = rows_darts bytes n in
        let t = opp_lt i hi in
        let jt : j < 4 = omega arith in
        breaks_back (rows_of bytes n) i d j x y ej is (ey ∙ stored_is bytes n j x jt h) (omega arith) m z f

-- the flags

module _ (bytes : List ℕ) (n : ℕ) where
  pub flags_length : length (flags_of bytes n) ≡ n
  flags_length = listed_length (λ (k : ℕ). get_or bytes (flag_offset form1 n + k) 0) n

  pub flag_is : (d : ℕ) → d < n → flag_at bytes n d ≡ get_or (flags_of bytes n) d 0
  flag_is d h = sym (listed_get (λ (k : ℕ). get_or bytes (flag_offset form1 n + k) 0) 0 n d h)

pub clean_free : (rows : List ℕ) → Sized rows → 4 ≤ breach_at rows 0 → Free rows 0
clean_free rows s h i l = null_kept rows s i (breach_clean rows 0 h i l)

-- `at` is where the code reads the flag
module _ (bytes : List ℕ) (n d at : ℕ) (e : at ≡ flag_offset form1 n + d) (h : d < n) where
  flag_at_lem : get_or bytes at 0 ≡ get_or (flags_of bytes n) d 0
  flag_at_lem = ap (λ (k : ℕ). get_or bytes k 0) e ∙ flag_is bytes n d h

  pub stored_used : get_or bytes at 0 ≡ 0 → false ≡ bound (rows_of bytes n) (flags_of bytes n) d
  stored_used z = sym (bound_used (rows_of bytes n) (flags_of bytes n) d (used_zero (flags_of bytes n) d (sym flag_at_lem ∙ z)))

  -- of the null dart the flag says nothing: its images break no rule, and so it has none
  pub stored_bound : n ≤ 1048576 → 4 ≤ breach_at (rows_of bytes n) d → get_or bytes at 0 ≢ 0 →
      not (free_at (rows_of bytes n) d) ≡ bound (rows_of bytes n) (flags_of bytes n) d
  stored_bound few c m =
      let rows : List ℕ = rows_of bytes n in
      let f = flag_at_lem in
      by_cases (ℕ_discrete d 0)
      (λ (z : d ≡ 0).
      let none : Free rows d = rw z (clean_free rows (rows_sized bytes n (omega arith) few) (rw z at c)) in
      ap not (yes_free rows d none) ∙ sym (bound_free rows (flags_of bytes n) d none))
      (λ (z : d ≢ 0). bound_unused rows (flags_of bytes n) d (unused_flag (flags_of bytes n) d z (omega arith)))
