-- What refuses a call before its work, in this order: 1, 2, 3, 4 (scope: order).
--   enough             the length that a loan counts as which a call has not
--   no_loans, scratch_of  the loans of a call that has none; that has marks and queue
--   orbit_loans, list_loans, vertex_loans, reader_loans   the loans of an orbit call, a list call, a 2-sew, the reader and the writer
--   counted_as          what a loan counts as that is not measured in darts
--   command_loans       the loans of a list of commands
--   loan_test n flags loans   refuses the first loan that is too short for n darts; flags, which every call has, stands at its number
--   no_dart n flags least d   whether a call does not take d
--   dart_test n flags least a b   refuses the first dart that a call does not take
--   map_guard           the tests of size, loans and map
--   guard_of            all tests of a call on a map
--   check_map           the tests of a call that has rows and flags alone
--   Lent, Dart, Ready  what holds once they have passed (`proofs/GuardLaws.antt`)
use Rattle.std.specs.Prelude.{ℕ, ◌*◌, ◌<◌, ◌≤◌, ◌≡◌, List, Bool, false, cond, ◌&&◌, ◌||◌, ltb, leb, length, Err}
use Rattle.map_betas.specs.declared.error.Loan.TheVariants.{Marks, Queue, Output, Flags, Vertices, Coordinates}
use Rattle.map_betas.specs.declared.error.Refusal.TheVariants.{ShortLoan, BadDart}
use Rattle.map_betas.specs.declared.loans.Loans.{Loans}
use Rattle.map_betas.specs.Betas.{darts}
use Rattle.map_betas.specs.Answers.{Answer, nothing, pass, Test}
use Rattle.map_betas.specs.Maps.{size_test, unused, map_test, Map}
use Rattle.std.specs.Result.{result_and}

-- three coordinates for each of 1,048,576 darts: no map asks for more
abbrev pub enough : ℕ
enough = 3145728

abbrev pub no_loans : Loans
no_loans =
    record { marks = enough; queue = enough; output = enough; vertices = enough; coordinates = enough }

-- the loans of identifiers, and of those sews and unsews that look at no vertex (scope: loans)
abbrev pub scratch_of : ℕ → ℕ → Loans
scratch_of marks queue =
    record { marks = marks; queue = queue; output = enough; vertices = enough; coordinates = enough }

-- the loans of an orbit, whose output is its queue
abbrev pub orbit_loans : ℕ → ℕ → Loans
orbit_loans marks output =
    record { marks = marks; queue = enough; output = output; vertices = enough; coordinates = enough }

abbrev pub list_loans : ℕ → ℕ → ℕ → Loans
list_loans marks queue output =
    record { marks = marks; queue = queue; output = output; vertices = enough; coordinates = enough }

-- the 2-sew looks at the vertices too
abbrev pub vertex_loans : ℕ → ℕ → ℕ → ℕ → Loans
vertex_loans marks queue vertices coordinates =
    record { marks = marks; queue = queue; output = enough; vertices = vertices; coordinates = coordinates }

-- the loans that the reader and the writer have, by their lengths; rows, the reader's own, is the seventh
abbrev pub reader_loans : ℕ → ℕ → Loans
reader_loans vertices coordinates =
    record { marks = enough; queue = enough; output = enough; vertices = vertices; coordinates = coordinates }

-- a loan that is not measured in darts is long enough for any map, or counts as none
abbrev pub counted_as : ℕ → ℕ → ℕ
counted_as lent needed = cond (leb needed lent) enough 0

-- the loans of a list of commands: its output has places for each command and not for each dart (scope: commands)
abbrev pub command_loans : ℕ → ℕ → ℕ → ℕ → ℕ → ℕ → Loans
command_loans marks queue output needed vertices coordinates =
    record { marks = marks; queue = queue; output = counted_as output needed; vertices = vertices; coordinates = coordinates }

-- the first loan that is too short, in the order of their numbers (scope: loans); flags is the length of that loan
unfoldable pub loan_test : ℕ → ℕ → Loans → Test
loan_test n flags loans =
    cond (ltb loans.marks n) (Err (ShortLoan Marks))
    (cond (ltb loans.queue n) (Err (ShortLoan Queue))
    (cond (ltb loans.output n) (Err (ShortLoan Output))
    (cond (ltb flags n) (Err (ShortLoan Flags))
    (cond (ltb loans.vertices n) (Err (ShortLoan Vertices))
    (cond (ltb loans.coordinates (3 * n)) (Err (ShortLoan Coordinates)) pass)))))

-- a dart that is below the least that the call takes, 0, or 1 where the null dart is refused; that is none of the map's; or that is unused,
-- where the null dart is refused (scope: darts)
unfoldable pub no_dart : ℕ → List ℕ → ℕ → ℕ → Bool
no_dart n flags least d = ltb d least || (leb n d || (leb 1 least && unused flags d))

-- refusal 4 says which of the two darts it was: the first that is bad, whichever way it is bad
abbrev pub dart_test : ℕ → List ℕ → ℕ → ℕ → ℕ → Test
dart_test n flags least a b =
    cond (no_dart n flags least a) (Err (BadDart 1)) (cond (no_dart n flags least b) (Err (BadDart 2)) pass)

-- refusals 1, 2 and 3
unfoldable pub map_guard : List ℕ → List ℕ → Loans → Test
map_guard rows flags loans =
    result_and (size_test rows) (result_and (loan_test (darts rows) (length flags) loans) (map_test rows flags))

unfoldable pub guard_of : List ℕ → List ℕ → Loans → ℕ → ℕ → ℕ → Test
guard_of rows flags loans least a b = result_and (map_guard rows flags loans) (dart_test (darts rows) flags least a b)

-- whether rows and flags are a map
abbrev pub check_map : List ℕ → List ℕ → Answer
check_map rows flags = result_and (map_guard rows flags no_loans) nothing

pub record Lent (n : ℕ) (loans : Loans) : Type 0 where
  pub marks : n ≤ loans.marks
  pub queue : n ≤ loans.queue
  pub output : n ≤ loans.output
  pub vertices : n ≤ loans.vertices
  pub coordinates : 3 * n ≤ loans.coordinates

pub record Dart (n least d : ℕ) : Type 0 where
  pub allowed : least ≤ d
  pub below : d < n

-- `least` is 1 where the null dart is refused: there both darts are in use
pub record Ready (rows flags : List ℕ) (loans : Loans) (least a b : ℕ) : Type 0 where
  pub map : Map rows flags
  pub lent : Lent (darts rows) loans
  pub left : Dart (darts rows) least a
  pub right : Dart (darts rows) least b
  pub used_left : 1 ≤ least → unused flags a ≡ false
  pub used_right : 1 ≤ least → unused flags b ≡ false
