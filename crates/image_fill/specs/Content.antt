-- What an image says, as the reader hands it on.
--   Slots               the vertex slots: a mark for each dart, and three coordinates
--   over s m c          the slots s with further places behind them
--   empty_slots n        no vertex at all
--   put_record, put_records   the slots with one record, with k records put in
--   slots_of bytes n v   the slots of n darts after v records
use Rattle.std.specs.Prelude.{ℕ, zero, suc, ◌+◌, ◌*◌, List, ◌++◌, set, Float}
use Rattle.std.specs.Float.{binary64}
use Rattle.std.specs.Float.Ieee.{of_bits}
use Rattle.image_words.specs.Lists.{listed}
use Rattle.image_form.specs.Form.{form1, vertex_offset, record_dart, record_coordinate}

pub record Slots : Type 0 where
  pub marks : List ℕ
  pub coordinates : List Float

abbrev pub slots : List ℕ → List Float → Slots
slots marks coordinates = record { marks = marks; coordinates = coordinates }

-- slots with further places behind them
abbrev pub over : Slots → List ℕ → List Float → Slots
over s marks coordinates = slots (s.marks ++ marks) (s.coordinates ++ coordinates)

-- what stands in the coordinates of a slot without a point
abbrev pub plus_zero : Float
plus_zero = of_bits binary64 0

abbrev pub no_marks : ℕ → List ℕ
no_marks n = listed (λ (k : ℕ). 0) n

abbrev pub no_coordinates : ℕ → List Float
no_coordinates n = listed (λ (k : ℕ). plus_zero) (3 * n)

abbrev pub empty_slots : ℕ → Slots
empty_slots n = slots (no_marks n) (no_coordinates n)

abbrev pub put_point : List Float → ℕ → Float → Float → Float → List Float
put_point coordinates d x y z = set (set (set coordinates (3 * d) x) (3 * d + 1) y) (3 * d + 2) z

-- a record's slot: mark 1, and its three coordinates
unfoldable pub put_record : List ℕ → ℕ → Slots → Slots
put_record bytes at s =
    slots (set s.marks (record_dart bytes at) 1)
    (put_point s.coordinates (record_dart bytes at) (record_coordinate bytes at 0) (record_coordinate bytes at 1) (record_coordinate bytes at 2))

unfoldable pub put_records : ℕ → List ℕ → ℕ → Slots → Slots
put_records zero bytes at s = s
put_records (suc k) bytes at s = put_records k bytes (at + 28) (put_record bytes at s)

unfoldable pub slots_of : List ℕ → ℕ → ℕ → Slots
slots_of bytes n v = put_records v bytes (vertex_offset form1 n) (empty_slots n)
