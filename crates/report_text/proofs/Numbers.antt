-- What the digits of a number are worth, and how many there are. Assumes nothing.
--   decimal_value    a number's decimal digits are worth the number
--   decimal_length   a number below 10 ^ (k + 1) has at most k + 1 digits
--   vertices_line    a line of the triangle's report, computed
--   numbers          numbers, computed
use Prim.Native.Nat.{ℕ, zero, suc, ◌+◌, ◌-◌, ◌*◌, ◌/◌, ◌%◌, ◌<◌, ◌≤◌}
use native.Mathlib.Omega.{arith}
use native.Mathlib.Decide.{dec_lt}
use mathlib.Core.Path.{◌≡◌, refl, sym, ap, ◌∙◌}
use mathlib.Core.Logic.{by_cases}
use mathlib.Core.List.{List, [], ◌∷◌, ◌++◌}
use lib.ListN.{length, length-append}
use borrow.Author.Tests.{lt-ltb, le-ltb}
use Rattle.report_text.specs.Texts.{digits, decimal, items_of, line_of}
use Rattle.report_text.proofs.TextLaws.{ten, more_digits}

-- the number that is read from digits, the number v before them
abbrev pub worth : ℕ → List ℕ → ℕ
worth v [] = v
worth v (d ∷ l) = worth (10 * v + (d - 48)) l

worth_last : (v : ℕ) (l : List ℕ) (d : ℕ) → worth v (l ++ (d ∷ [])) ≡ 10 * worth v l + (d - 48)
worth_last v [] d = refl
worth_last v (e ∷ l) d = worth_last (10 * v + (e - 48)) l d

digits_value : (f x : ℕ) → x < ten f → worth 0 (digits f x) ≡ x
unfolding digits
digits_value zero x h = omega arith
digits_value (suc f) x h =
    let next : worth 0 (digits f (x / 10)) ≡ x / 10 = digits_value f (x / 10) (omega arith) in
    by_cases (dec_lt x 10)
    (λ (l : x < 10). simp (lt-ltb x 10 l) (omega arith))
    (λ (l : x < 10 → ⊥).
    simp (le-ltb x 10 (omega arith)) (worth_last 0 (digits f (x / 10)) (48 + x % 10) ∙ let n = next in omega arith))

pub decimal_value : (x : ℕ) → x < 18446744073709551616 → worth 0 (decimal x) ≡ x
decimal_value x h = digits_value 19 x (omega arith)

digits_length : (f x : ℕ) → length (digits f x) ≤ suc f
unfolding digits
digits_length zero x = omega arith
digits_length (suc f) x =
    let next : length (digits f (x / 10)) ≤ suc f = digits_length f (x / 10) in
    by_cases (dec_lt x 10)
    (λ (l : x < 10). simp (lt-ltb x 10 l) (omega arith))
    (λ (l : x < 10 → ⊥). simp (le-ltb x 10 (omega arith), length-append) (omega arith))

more_room : (k f x : ℕ) → x < ten f → x < ten (k + f)
more_room zero f x h = let p : 0 + f ≡ f = omega arith in rw p h
more_room (suc k) f x h =
    let p : suc k + f ≡ suc (k + f) = omega arith in
    let n = more_room k f x h in
    rw p (omega arith)

-- fewer digits are enough for a smaller number
fewer : (k f x : ℕ) → x < ten f → digits (k + f) x ≡ digits f x
fewer zero f x h = let p : 0 + f ≡ f = omega arith in ap (λ (j : ℕ). digits j x) p
fewer (suc k) f x h =
    let p : suc k + f ≡ suc (k + f) = omega arith in
    ap (λ (j : ℕ). digits j x) p ∙ more_digits (k + f) x (more_room k f x h) ∙ fewer k f x h

pub decimal_length : (k f x : ℕ) → k + f ≡ 19 → x < ten f → length (decimal x) ≤ suc f
decimal_length k f x e h =
    let p : decimal x ≡ digits f x = ap (λ (j : ℕ). digits j x) (sym e) ∙ fewer k f x h in
    let l = digits_length f x in
    rw p l

-- the line that names vertices 1, 2 and 3
vertices_line : line_of (118 ∷ 101 ∷ 114 ∷ 116 ∷ 105 ∷ 99 ∷ 101 ∷ 115 ∷ []) (1 ∷ 2 ∷ 3 ∷ 9 ∷ []) 3 ≡
    118 ∷ 101 ∷ 114 ∷ 116 ∷ 105 ∷ 99 ∷ 101 ∷ 115 ∷ 32 ∷ 51 ∷ 58 ∷ 32 ∷ 49 ∷ 32 ∷ 50 ∷ 32 ∷ 51 ∷ 10 ∷ []
unfolding line_of items_of digits
vertices_line = refl

-- the least and the greatest number of 64 bits, and one with a zero inside
numbers : (decimal 0 ≡ 48 ∷ []) × (decimal 1048576 ≡ 49 ∷ 48 ∷ 52 ∷ 56 ∷ 53 ∷ 55 ∷ 54 ∷ []) × (length (decimal 18446744073709551615) ≡ 20)
unfolding digits
numbers = (refl, refl, refl)
