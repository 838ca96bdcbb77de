-- The bytes of an image of form 1: its header, its rows, its flags and its records, one behind another.
--   bit_of x                    0 or 1: a flag as it is stored, a mark as it is counted
--   bit x                      its one byte
--   holds marks d              whether slot d holds a point
--   points marks k             the darts from 1 to k whose slots hold points, ascending
--   point_finite, finite_from    whether the point of slot d, the points of k slots from d on, are finite
--   record_bytes coordinates d  the record of dart d
--   point_bytes marks coordinates d   the same, and nothing where slot d holds no point
--   image_of                    the image
use Rattle.std.specs.Prelude.{ℕ, zero, suc, ◌+◌, ◌*◌, ◌-◌, List, [], ◌∷◌, ◌++◌, Bool, true, cond, not, ◌&&◌, length, get_or, take, eqb, Float}
use Rattle.std.specs.Float.{nan}
use Rattle.std.specs.Float.Ieee.Scale.{finite}
use Rattle.map_betas.specs.Betas.{darts}
use Rattle.image_form.specs.Form.{form1, header_words}
use Rattle.image_store.specs.Stores.{stored, stored_each, words, coordinate}

-- a flag that is not 0 is stored as 1 (scope: writer)
abbrev pub bit_of : ℕ → ℕ
bit_of x = cond (eqb x 0) 0 1

abbrev pub bit : ℕ → List ℕ
bit x = bit_of x ∷ []

abbrev pub holds : List ℕ → ℕ → Bool
holds marks d = not (eqb (get_or marks d 0) 0)

-- slot 0 is none of them
unfoldable pub points : List ℕ → ℕ → List ℕ
points marks zero = []
points marks (suc k) = points marks k ++ cond (holds marks (suc k)) (suc k ∷ []) []

-- the coordinates of a slot without a point are not looked at
unfoldable pub point_finite : List ℕ → List Float → ℕ → Bool
point_finite marks coordinates d =
    cond (holds marks d)
    (finite (get_or coordinates (3 * d) nan) && (finite (get_or coordinates (3 * d + 1) nan) && finite (get_or coordinates (3 * d + 2) nan)))
    true

unfoldable pub finite_from : List ℕ → List Float → ℕ → ℕ → Bool
finite_from marks coordinates d zero = true
finite_from marks coordinates d (suc k) =
    let more = finite_from marks coordinates (suc d) k in point_finite marks coordinates d && more

-- the dart, then the three coordinates, as `record_dart` and `record_coordinate` read them
unfoldable pub record_bytes : List Float → ℕ → List ℕ
record_bytes coordinates d =
    stored 4 d
    ++ (coordinate (get_or coordinates (3 * d) nan) ++ (coordinate (get_or coordinates (3 * d + 1) nan) ++ coordinate (get_or coordinates (3 * d + 2) nan)))

unfoldable pub point_bytes : List ℕ → List Float → ℕ → List ℕ
point_bytes marks coordinates d = cond (holds marks d) (record_bytes coordinates d) []

-- scope: form 1
unfoldable pub image_of : List ℕ → List ℕ → List ℕ → List Float → List ℕ
image_of rows flags marks coordinates =
    words (header_words form1 (darts rows) (length (points marks (darts rows - 1))))
    ++ (words rows ++ (stored_each bit (take (darts rows) flags) ++ stored_each (record_bytes coordinates) (points marks (darts rows - 1))))
