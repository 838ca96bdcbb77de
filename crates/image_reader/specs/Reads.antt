-- What a reading answers and leaves.
--   Loaded        the four loans
--   Read          an answer and the four loans
--   wrote         what a reading that is done leaves: the image's content, and the rest of each loan as it was
--   read_within    the reading of an image of at most `most` darts
--   read_image     the reading of an image of any number of darts that a map may have
--   Accepted      what holds of an image and its loans exactly where it is read (`proofs/Accepted.antt`)
use Rattle.std.specs.Prelude.{ℕ, ◌*◌, ◌≤◌, List, ◌++◌, length, drop, Float}
use Rattle.map_betas.specs.Answers.{Outcome, outcome, behind, Answer, Test, done}
use Rattle.map_betas.specs.Maps.{Map}
use Rattle.image_form.specs.Form.{darts_of, vertices_of, rows_of, flags_of, IsImage}
use Rattle.map_betas.specs.Guards.{reader_loans}
use Rattle.image_reader.specs.Tests.{image_test}
use Rattle.image_fill.specs.Content.{slots_of}

pub record Loaded : Type 0 where
  pub flags : List ℕ
  pub vertices : List ℕ
  pub coordinates : List Float
  pub rows : List ℕ

abbrev pub loaded : List ℕ → List ℕ → List Float → List ℕ → Loaded
loaded flags vertices coordinates rows = record { flags = flags; vertices = vertices; coordinates = coordinates; rows = rows }

abbrev pub Read : Type 0
Read = Outcome Loaded

abbrev pub read_out : Answer → List ℕ → List ℕ → List Float → List ℕ → Read
read_out a flags vertices coordinates rows = outcome a (loaded flags vertices coordinates rows)

-- scope: reader. What an image of n darts and v records leaves in the loans, whose places beyond n stay as they were.
unfoldable pub wrote : List ℕ → ℕ → ℕ → List ℕ → List ℕ → List Float → List ℕ → Read
wrote bytes n v flags vertices coordinates rows =
    read_out (done 0 n) (flags_of bytes n ++ drop n flags) ((slots_of bytes n v).marks ++ drop n vertices)
    ((slots_of bytes n v).coordinates ++ drop (3 * n) coordinates)
    (rows_of bytes n ++ drop (4 * n) rows)

abbrev pub test_of : ℕ → List ℕ → List ℕ → List ℕ → List Float → List ℕ → Test
test_of most bytes flags vertices coordinates rows =
    image_test most bytes (length flags) (reader_loans (length vertices) (length coordinates)) (length rows)

-- scope: reader. A refusal of any test leaves every loan.
unfoldable pub read_within : ℕ → List ℕ → List ℕ → List ℕ → List Float → List ℕ → Read
read_within most bytes flags vertices coordinates rows =
    behind (test_of most bytes flags vertices coordinates rows) (loaded flags vertices coordinates rows)
    (wrote bytes (darts_of bytes) (vertices_of bytes) flags vertices coordinates rows)

-- the call reads images of as many darts as a map may have (scope: rows)
abbrev pub read_image : List ℕ → List ℕ → List ℕ → List Float → List ℕ → Read
read_image = read_within 1048576

pub record Accepted (most : ℕ) (bytes flags vertices : List ℕ) (coordinates : List Float) (rows : List ℕ) : Type 0 where
  pub image : IsImage most bytes
  pub map : Map (rows_of bytes (darts_of bytes)) (flags_of bytes (darts_of bytes))
  pub flag_room : darts_of bytes ≤ length flags
  pub mark_room : darts_of bytes ≤ length vertices
  pub coordinate_room : 3 * darts_of bytes ≤ length coordinates
  pub row_room : 4 * darts_of bytes ≤ length rows
