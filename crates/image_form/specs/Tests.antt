-- What refuses an image by itself, each test as the reader makes it.
--   unless good k more     BadImage k, unless `good`: then `more`
--   start_test, layout_test  the header's words 0 and 1; words 2 to 6
--   header_test most bytes  refuses the first header word that is wrong, for an image of at most `most` darts
--   bits_only k bytes at    whether k bytes are 0 or 1
--   flags_test, vertices_test   BadImage 7 and 8
--   record_good bytes n at last   whether the record at a place is one whose dart comes behind `last`
--   records_good k bytes n at last   whether k records are, each behind the one before it
use Rattle.std.specs.Prelude.{ℕ, zero, suc, ◌+◌, List, Bool, true, cond, ◌&&◌, length, get_or, ltb, leb, eqb, Err}
use Rattle.std.specs.Float.Ieee.Scale.{finite}
use Rattle.map_betas.specs.declared.error.Refusal.TheVariants.{BadImage}
use Rattle.map_betas.specs.Answers.{pass, Test}
use Rattle.image_form.specs.Form.{form1, flag_offset, vertex_offset}
use Rattle.image_form.specs.Form.{header_word, header_says, darts_of, vertices_of, flag_at, record_dart, record_coordinate}
use Rattle.std.specs.Result.{result_and}

unfoldable pub unless : Bool → ℕ → Test → Test
unless good k more = cond good more (Err (BadImage k))

-- words 0 and 1 (scope: reader): the form where its four bytes are there, then whether the bytes are as many as they say
unfoldable pub start_test : List ℕ → Test
start_test bytes =
    unless (leb 4 (length bytes)) 1
    (unless (eqb (header_word bytes 0) (header_says form1 bytes 0)) 0
    (unless (leb 28 (length bytes)) 1
    (unless (eqb (header_word bytes 1) (length bytes)) 1 pass)))

-- words 2 to 6: how many darts and records there are, and where their blocks begin
unfoldable pub layout_test : ℕ → List ℕ → Test
layout_test most bytes =
    unless (leb 1 (darts_of bytes)) 2
    (unless (leb (darts_of bytes) most) 2
    (unless (eqb (header_word bytes 3) (header_says form1 bytes 3)) 3
    (unless (eqb (header_word bytes 4) (header_says form1 bytes 4)) 4
    (unless (ltb (vertices_of bytes) (darts_of bytes)) 5
    (unless (eqb (length bytes) (header_says form1 bytes 1)) 5
    (unless (eqb (header_word bytes 6) (header_says form1 bytes 6)) 6 pass))))))

abbrev pub header_test : ℕ → List ℕ → Test
header_test most bytes = result_and (start_test bytes) (layout_test most bytes)

unfoldable pub bits_only : ℕ → List ℕ → ℕ → Bool
bits_only zero bytes at = true
bits_only (suc k) bytes at = let more = bits_only k bytes (at + 1) in leb (get_or bytes at 0) 1 && more

-- 12 (7): the flag of dart 0 first, then that each is 0 or 1
unfoldable pub flags_test : List ℕ → ℕ → Test
flags_test bytes n = unless (eqb (flag_at bytes n 0) 0) 7 (unless (bits_only n bytes (flag_offset form1 n)) 7 pass)

-- a record whose dart is behind the last one's and below n, with three numbers that are finite
unfoldable pub record_good : List ℕ → ℕ → ℕ → ℕ → Bool
record_good bytes n at last =
    ltb last (record_dart bytes at)
    && (ltb (record_dart bytes at) n
    && (finite (record_coordinate bytes at 0)
    && (finite (record_coordinate bytes at 1) && finite (record_coordinate bytes at 2))))

unfoldable pub records_good : ℕ → List ℕ → ℕ → ℕ → ℕ → Bool
records_good zero bytes n at last = true
records_good (suc k) bytes n at last =
    let more = records_good k bytes n (at + 28) (record_dart bytes at) in record_good bytes n at last && more

-- no dart comes before 1
unfoldable pub vertices_test : List ℕ → ℕ → ℕ → Test
vertices_test bytes n v = unless (records_good v bytes n (vertex_offset form1 n) 0) 8 pass
