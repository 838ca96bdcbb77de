-- What is given back where an image is written and read.
--   Doubles l          each of l is a double: true of every lent slice of doubles
--   GivenBack          a map, its flags and its vertices in loans, as they were before they were written
use Rattle.std.specs.Prelude.{ℕ, ◌+◌, ◌*◌, ◌<◌, ◌≤◌, ◌≡◌, ◌≢◌, List, get_or, take, T, Float}
use Rattle.std.specs.Float.{nan, binary64}
use Rattle.std.specs.Float.Ieee.{fits}
use Rattle.map_betas.specs.Betas.{darts}
use Rattle.image_blocks.specs.Image.{bit_of}
use Rattle.image_reader.specs.Reads.{Loaded}

abbrev pub Doubles : List Float → Type 0
Doubles l = (i : ℕ) → T (fits binary64 (get_or l i nan))

-- Rows, flags and marks as 0 or 1, and every point of a slot from 1 up. Slot 0 was never stored, and holds nothing.
pub record GivenBack (rows flags vertices : List ℕ) (coordinates : List Float) (after : Loaded) : Type 0 where
  pub same_rows : take (4 * darts rows) after.rows ≡ rows
  pub same_flags : (d : ℕ) → d < darts rows → get_or after.flags d 0 ≡ bit_of (get_or flags d 0)
  pub same_marks : (d : ℕ) → 1 ≤ d → d < darts rows → get_or after.vertices d 0 ≡ bit_of (get_or vertices d 0)
  pub same_points : (d : ℕ) → 1 ≤ d → d < darts rows → get_or vertices d 0 ≢ 0 → (j : ℕ) → j < 3 →
      get_or after.coordinates (3 * d + j) nan ≡ get_or coordinates (3 * d + j) nan
  pub no_null : get_or after.vertices 0 0 ≡ 0
