-- Numbers as little-endian bytes, over any width.
--   stored k x         the k bytes of x, the lowest first
--   number_at k l at    the number of the k bytes from `at` on
--   stored_each f xs    what f stores of each of xs, one behind another
--   words xs           four bytes of each
--   coordinate x       the eight bytes of a double
--   Bytes l            each of l is a byte: true of every lent slice of bytes
use Rattle.std.specs.Prelude.{ℕ, zero, suc, ◌+◌, ◌*◌, ◌/◌, ◌%◌, ◌<◌, List, [], ◌∷◌, ◌++◌, get_or, Float}
use Rattle.std.specs.Float.{binary64}
use Rattle.std.specs.Float.Ieee.{to_bits}

-- the lowest byte, then those of what is above it
unfoldable pub stored : ℕ → ℕ → List ℕ
stored zero x = []
stored (suc k) x = (x % 256) ∷ stored k (x / 256)

-- the lowest byte, and 256 times what is above it
unfoldable pub number_at : ℕ → List ℕ → ℕ → ℕ
number_at zero l at = 0
number_at (suc k) l at = get_or l at 0 + 256 * number_at k l (suc at)

unfoldable pub stored_each : {A : Type 0} → (A → List ℕ) → List A → List ℕ
stored_each f [] = []
stored_each f (x ∷ xs) = f x ++ stored_each f xs

abbrev pub words : List ℕ → List ℕ
words xs = stored_each (stored 4) xs

-- the pattern of its bits, so that a negative zero keeps its sign
abbrev pub coordinate : Float → List ℕ
coordinate x = stored 8 (to_bits binary64 x)

abbrev pub Bytes : List ℕ → Type 0
Bytes l = (i : ℕ) → get_or l i 0 < 256
