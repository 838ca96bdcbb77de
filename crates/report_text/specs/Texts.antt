-- Text in a buffer.
--   digits f x          x in decimal, with at most f + 1 digits
--   decimal x           a number of 64 bits in decimal
--   laid out at text    the buffer `out` with `text` written from `at` on
--   Put, lay            the place behind it, and the buffer
--   items_of list k      the first k numbers of a list, each after one space
--   line_of name list k  a line of a report
use Rattle.std.specs.Prelude.{ℕ, zero, suc, ◌+◌, ◌/◌, ◌%◌, List, [], ◌∷◌, ◌++◌, cond, length, get_or, take, drop, ltb}

unfoldable pub digits : ℕ → ℕ → List ℕ
digits zero x = (48 + x) ∷ []
digits (suc f) x = let more = digits f (x / 10) in cond (ltb x 10) ((48 + x) ∷ []) (more ++ ((48 + x % 10) ∷ []))

-- 20 digits are enough below 2 ^ 64
abbrev pub decimal : ℕ → List ℕ
decimal x = digits 19 x

unfoldable pub laid : List ℕ → ℕ → List ℕ → List ℕ
laid out at text = (take at out ++ text) ++ drop (at + length text) out

pub record Put : Type 0 where
  pub next : ℕ
  pub out : List ℕ

abbrev pub put : ℕ → List ℕ → Put
put next out = record { next = next; out = out }

unfoldable pub lay : List ℕ → ℕ → List ℕ → Put
lay out at text = put (at + length text) (laid out at text)

unfoldable pub items_of : List ℕ → ℕ → List ℕ
items_of list zero = []
items_of list (suc k) = (items_of list k ++ (32 ∷ [])) ++ decimal (get_or list k 0)

-- a line of k identifiers: name, k, a colon, and a space before each (scope: report)
unfoldable pub line_of : List ℕ → List ℕ → ℕ → List ℕ
line_of name list k = ((((name ++ (32 ∷ [])) ++ decimal k) ++ (58 ∷ [])) ++ items_of list k) ++ (10 ∷ [])
