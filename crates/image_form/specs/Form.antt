-- The stored image, form 1: where each thing stands in its bytes, and which bytes are one.
--   Form, form1                what a form fixes: its number, and the bytes that it keeps of a dart's images
--   row_offset, flag_offset, vertex_offset, total_bytes   where its blocks start, and where the last ends
--   header_words f n v          what the header of n darts and v records says
--   header_word bytes k         word k of the header
--   darts_of, vertices_of        n and v: words 2 and 5
--   header_says f bytes k       what word k has to be
--   rows_of bytes n             the images of n darts, as rows
--   flag_at bytes n d           the flag of dart d
--   flags_of bytes n            the flags of n darts
--   record_at n k               where vertex record k starts
--   record_dart, record_coordinate   the dart of the record at a place, and its coordinate 0, 1 or 2
--   Header, Flags, Sound, Vertices, IsImage   the rules as laws; the crate `image_reader` has that its reader accepts exactly where they hold
use Rattle.std.specs.Prelude.{ℕ, ◌+◌, ◌*◌, ◌<◌, ◌≤◌, ◌≡◌, List, [], ◌∷◌, true, length, get_or, Float}
use Rattle.std.specs.Float.Ieee.Scale.{finite}
use Rattle.image_words.specs.Words.{word32, coordinate_at, words_at, bytes_at}

pub record Form : Type 0 where
  pub number : ℕ
  pub row_bytes : ℕ

-- four images of four bytes for each dart (scope: form 1)
abbrev pub form1 : Form
form1 = record { number = 1; row_bytes = 16 }

-- where rows, flags and records begin, and how many bytes there are in all (scope: form 1)
abbrev pub row_offset : ℕ
row_offset = 28

abbrev pub flag_offset : Form → ℕ → ℕ
flag_offset f n = row_offset + f.row_bytes * n

abbrev pub vertex_offset : Form → ℕ → ℕ
vertex_offset f n = flag_offset f n + n

abbrev pub total_bytes : Form → ℕ → ℕ → ℕ
total_bytes f n v = vertex_offset f n + 28 * v

-- the seven words (scope: form 1): form, bytes in all, n, where the rows and the flags are, v, where the records are
abbrev pub header_words : Form → ℕ → ℕ → List ℕ
header_words f n v = f.number ∷ total_bytes f n v ∷ n ∷ row_offset ∷ flag_offset f n ∷ v ∷ vertex_offset f n ∷ []

-- word k of the seven
abbrev pub header_word : List ℕ → ℕ → ℕ
header_word bytes k = word32 bytes (4 * k)

abbrev pub darts_of : List ℕ → ℕ
darts_of bytes = header_word bytes 2

abbrev pub vertices_of : List ℕ → ℕ
vertices_of bytes = header_word bytes 5

-- what word k has to be, by the n and the v that the header says
abbrev pub header_says : Form → List ℕ → ℕ → ℕ
header_says f bytes k = get_or (header_words f (darts_of bytes) (vertices_of bytes)) k 0

-- the blocks behind the header: the rows, then the flags, then the records
abbrev pub rows_of : List ℕ → ℕ → List ℕ
rows_of bytes n = words_at bytes row_offset (4 * n)

abbrev pub flag_at : List ℕ → ℕ → ℕ → ℕ
flag_at bytes n d = get_or bytes (flag_offset form1 n + d) 0

abbrev pub flags_of : List ℕ → ℕ → List ℕ
flags_of bytes n = bytes_at bytes (flag_offset form1 n) n

abbrev pub record_at : ℕ → ℕ → ℕ
record_at n k = vertex_offset form1 n + 28 * k

abbrev pub record_dart : List ℕ → ℕ → ℕ
record_dart bytes at = word32 bytes at

abbrev pub record_coordinate : List ℕ → ℕ → ℕ → Float
record_coordinate bytes at j = coordinate_at bytes (at + (4 + 8 * j))

-- the header of an image of at most `most` darts
pub record Header (f : Form) (most : ℕ) (bytes : List ℕ) : Type 0 where
  pub whole : 28 ≤ length bytes
  pub form : header_word bytes 0 ≡ header_says f bytes 0
  pub total : header_word bytes 1 ≡ length bytes
  pub some : 1 ≤ darts_of bytes
  pub few : darts_of bytes ≤ most
  pub rows_start : header_word bytes 3 ≡ header_says f bytes 3
  pub flags_start : header_word bytes 4 ≡ header_says f bytes 4
  pub vertex_count : vertices_of bytes < darts_of bytes
  pub fits : length bytes ≡ header_says f bytes 1
  pub vertices_start : header_word bytes 6 ≡ header_says f bytes 6

-- each flag is 0 or 1, and dart 0 is in use
pub record Flags (bytes : List ℕ) (n : ℕ) : Type 0 where
  pub null : flag_at bytes n 0 ≡ 0
  pub each : (d : ℕ) → d < n → flag_at bytes n d ≤ 1

-- a record of a dart below n, whose numbers are finite
pub record Sound (bytes : List ℕ) (n at : ℕ) : Type 0 where
  pub below : record_dart bytes at < n
  pub finite : (j : ℕ) → j < 3 → finite (record_coordinate bytes at j) ≡ true

-- records of real darts, ascending
pub record Vertices (bytes : List ℕ) (n v : ℕ) : Type 0 where
  pub real : (k : ℕ) → k < v → 1 ≤ record_dart bytes (record_at n k)
  pub ascend : (j k : ℕ) → j < k → k < v → record_dart bytes (record_at n j) < record_dart bytes (record_at n k)
  pub sound : (k : ℕ) → k < v → Sound bytes n (record_at n k)

pub record IsImage (most : ℕ) (bytes : List ℕ) : Type 0 where
  pub header : Header form1 most bytes
  pub flags : Flags bytes (darts_of bytes)
  pub vertices : Vertices bytes (darts_of bytes) (vertices_of bytes)
