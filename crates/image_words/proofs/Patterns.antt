-- Which patterns of 64 bits are finite coordinates: those whose digits below the sign are less than 0x7ff0_0000_0000_0000. Assumes nothing.
--   finite_test   what the code tests is that the coordinate is finite
--   no_nan        the pattern of a finite coordinate is no NaN's
use mathlib.Core.Path.{◌≡◌, refl, sym, ◌∙◌}
use mathlib.Core.Logic.{by_cases}
use mathlib.Core.Bool.{Bool, true, false, not, cond, true≢false}
use Prim.Native.Nat.{ℕ, zero, suc, ◌+◌, ◌/◌, ◌%◌, ◌≤◌, ◌<◌}
use native.Mathlib.Omega.{arith}
use native.Mathlib.Decide.{dec_lt}
use lib.Dec.{T, eqb, ltb, leb}
use lib.Ieee.{nan, inf, binary64, odd, of_fields, of_bits, nan_bits}
use lib.Ieee.Scale.{finite}
use lib.Ieee.Bits.{nan_bits_above}
use borrow.Author.Tests.{eq-eqb, ne_eqb, lt-ltb, le-ltb}

odd_finite : (d : ℕ) (s : Bool) (q k l : ℕ) → finite (odd d s q k l) ≡ true
unfolding odd
odd_finite d s zero k l = refl
odd_finite d s (suc q) k l = refl

fields_yes : (s : Bool) (x t : ℕ) → x < 2047 → finite (of_fields binary64 s x t) ≡ true
unfolding of_fields
fields_yes s zero t h = odd_finite 53 s t 0 1074
fields_yes s (suc x) t h = rw (ne_eqb (suc x) 2047 (λ (e : suc x ≡ 2047). omega arith)) (odd_finite 53 s (4503599627370496 + t) x 1074)

top_no : (b : Bool) (s : Bool) → finite (cond b (inf s) nan) ≡ false
top_no true s = refl
top_no false s = refl

fields_no : (s : Bool) (x t : ℕ) → x ≡ 2047 → finite (of_fields binary64 s x t) ≡ false
unfolding of_fields
fields_no s zero t h = let z : ⊥ = omega arith in absurd z
fields_no s (suc x) t h = rw (eq-eqb (suc x) 2047 h) (top_no (eqb t 0) s)

module _ (n : ℕ) where
  finite_yes : n % 0x8000_0000_0000_0000 < 0x7ff0_0000_0000_0000 → finite (of_bits binary64 n) ≡ true
  unfolding of_bits
  finite_yes h = fields_yes (leb 0x8000_0000_0000_0000 n) (n % 0x8000_0000_0000_0000 / 4503599627370496) (n % 4503599627370496) (omega arith)

  finite_no : 0x7ff0_0000_0000_0000 ≤ n % 0x8000_0000_0000_0000 → finite (of_bits binary64 n) ≡ false
  unfolding of_bits
  finite_no h = fields_no (leb 0x8000_0000_0000_0000 n) (n % 0x8000_0000_0000_0000 / 4503599627370496) (n % 4503599627370496) (omega arith)

  pub finite_test : ltb (n % 0x8000_0000_0000_0000) 0x7ff0_0000_0000_0000 ≡ finite (of_bits binary64 n)
  finite_test =
      by_cases (dec_lt (n % 0x8000_0000_0000_0000) 0x7ff0_0000_0000_0000)
      (λ (h : n % 0x8000_0000_0000_0000 < 0x7ff0_0000_0000_0000). lt-ltb (n % 0x8000_0000_0000_0000) 0x7ff0_0000_0000_0000 h ∙ sym (finite_yes h))
      (λ (h : n % 0x8000_0000_0000_0000 < 0x7ff0_0000_0000_0000 → ⊥). le-ltb (n % 0x8000_0000_0000_0000) 0x7ff0_0000_0000_0000 (omega arith)
      ∙ sym (finite_no (omega arith)))

  below : finite (of_bits binary64 n) ≡ true → n % 0x8000_0000_0000_0000 < 0x7ff0_0000_0000_0000
  below f =
      by_cases (dec_lt (n % 0x8000_0000_0000_0000) 0x7ff0_0000_0000_0000) (λ h. h)
      (λ (h : n % 0x8000_0000_0000_0000 < 0x7ff0_0000_0000_0000 → ⊥). absurd (true≢false (sym f ∙ finite_no (omega arith))))

  pub no_nan : finite (of_bits binary64 n) ≡ true → T (not (nan_bits binary64 n))
  no_nan f =
      let h = below f in
      rw (nan_bits_above binary64 n, le-ltb 0x7ff0_0000_0000_0000 (n % 0x8000_0000_0000_0000) (omega arith)) tt
