-- Numbers in little-endian bytes.
--   word32 bytes at         the word of the four bytes from `at` on
--   word64 bytes at         the double word of the eight bytes from `at` on
--   coordinate_at bytes at   the f64 of these eight bytes
--   words_at bytes at n      n words, one behind another
--   bytes_at bytes at n      n bytes
use Rattle.std.specs.Prelude.{ℕ, ◌+◌, ◌*◌, List, get_or, Float}
use Rattle.std.specs.Float.{binary64}
use Rattle.std.specs.Float.Ieee.{of_bits}
use Rattle.image_words.specs.Lists.{listed}

-- four bytes as a number, the lowest first
unfoldable pub word32 : List ℕ → ℕ → ℕ
word32 bytes at =
    get_or bytes at 0 + 256 * get_or bytes (at + 1) 0 + 65536 * get_or bytes (at + 2) 0 + 16777216 * get_or bytes (at + 3) 0

unfoldable pub word64 : List ℕ → ℕ → ℕ
word64 bytes at = word32 bytes at + 4294967296 * word32 bytes (at + 4)

unfoldable pub coordinate_at : List ℕ → ℕ → Float
coordinate_at bytes at = of_bits binary64 (word64 bytes at)

abbrev pub words_at : List ℕ → ℕ → ℕ → List ℕ
words_at bytes at n = listed (λ (k : ℕ). word32 bytes (at + 4 * k)) n

abbrev pub bytes_at : List ℕ → ℕ → ℕ → List ℕ
bytes_at bytes at n = listed (λ (k : ℕ). get_or bytes (at + k) 0) n
