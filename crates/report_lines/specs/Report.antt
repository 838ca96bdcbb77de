-- The text that the report program prints, byte for byte.
--   value_of x            a number after one space
--   refused_word, ..      the words of the report
--   told_line, refused_line   the line of a refusal: its number and its three values
--   used_up_to flags k     how many of the darts 1 to k are not unused
--   head_line n used      the line of the darts
--   class_line name class rows flags   the line of a class of cells
--   map_text rows flags   the five lines of a map
--   most                 the most darts that the report takes
--   answer_of bytes       how an image of at most `most` darts passes the reader's tests, its loans long enough
--   tested_text           a text, or the line of the refusal that stands in its place
--   image_text bytes      the text of an image: five lines, or one that says what refuses it
--   report_of more bytes  the whole report; `more` says that the input has more than 46,080 bytes
--   lists_over            an output with the four lists in its first places, each over the one before it
--   ReportLoans, leaves, report_leaves   what the report leaves in its other loans
use Rattle.std.specs.Prelude.{ℕ, zero, suc, ◌+◌, ◌-◌, List, [], ◌∷◌, ◌++◌, Bool, cond, not, ◌&&◌, length, get_or, Float, eqb, Ok, Err, is_ok}
use Rattle.map_betas.specs.declared.error.Refusal.TheVariants.{BadImage}
use Rattle.map_betas.specs.declared.error.Refusal.{Refusal}
use Rattle.map_betas.specs.declared.error.Told.{Told}
use Rattle.map_betas.specs.Answers.{refusal_of, Test}
use Rattle.map_betas.specs.Betas.{darts}
use Rattle.image_form.specs.Form.{darts_of, vertices_of, rows_of, flags_of}
use Rattle.image_form.specs.Tests.{header_test}
use Rattle.image_reader.specs.Tests.{blocks_test}
use Rattle.image_reader.specs.Reads.{wrote}
use Rattle.cell_steps.specs.Calls.{wiped, headed}
use Rattle.cell_steps.specs.declared.cells.Class.{Class}
use Rattle.cell_steps.specs.declared.cells.Class.TheVariants.{Vertex, Edge, Face, Volume}
use Rattle.cell_names.specs.Cells.{list_of}
use Rattle.report_text.specs.Texts.{decimal, line_of}
use Rattle.std.specs.Result.{result_and}

unfoldable pub value_of : ℕ → List ℕ
value_of x = (32 ∷ []) ++ decimal x

-- the words of the report: refused, darts, used (with a space before it), vertices, edges, faces, volumes
abbrev pub refused_word : List ℕ
refused_word = 114 ∷ 101 ∷ 102 ∷ 117 ∷ 115 ∷ 101 ∷ 100 ∷ []

abbrev pub darts_word : List ℕ
darts_word = 100 ∷ 97 ∷ 114 ∷ 116 ∷ 115 ∷ []

abbrev pub used_word : List ℕ
used_word = 32 ∷ 117 ∷ 115 ∷ 101 ∷ 100 ∷ []

abbrev pub vertices_word : List ℕ
vertices_word = 118 ∷ 101 ∷ 114 ∷ 116 ∷ 105 ∷ 99 ∷ 101 ∷ 115 ∷ []

abbrev pub edges_word : List ℕ
edges_word = 101 ∷ 100 ∷ 103 ∷ 101 ∷ 115 ∷ []

abbrev pub faces_word : List ℕ
faces_word = 102 ∷ 97 ∷ 99 ∷ 101 ∷ 115 ∷ []

abbrev pub volumes_word : List ℕ
volumes_word = 118 ∷ 111 ∷ 108 ∷ 117 ∷ 109 ∷ 101 ∷ 115 ∷ []

-- scope: report. A refusal's line: its word, its number, its three values.
unfoldable pub told_line : Told → List ℕ
told_line t =
    ((((refused_word ++ value_of t.number) ++ value_of t.first) ++ value_of t.second) ++ value_of t.third) ++ (10 ∷ [])

abbrev pub refused_line : Refusal → List ℕ
refused_line w = told_line (refusal_of w)

-- a flag that is not 0 means unused
unfoldable pub used_up_to : List ℕ → ℕ → ℕ
used_up_to flags zero = 0
used_up_to flags (suc k) = used_up_to flags k + cond (eqb (get_or flags (k + 1) 0) 0) 1 0

-- the first line: n, and how many real darts are in use
unfoldable pub head_line : ℕ → ℕ → List ℕ
head_line n used = (((darts_word ++ value_of n) ++ used_word) ++ value_of used) ++ (10 ∷ [])

-- the line of a class of cells: its list, behind the list's length
unfoldable pub class_line : List ℕ → Class → List ℕ → List ℕ → List ℕ
class_line name class rows flags = line_of name (list_of class rows flags) (length (list_of class rows flags))

unfoldable pub map_text : List ℕ → List ℕ → List ℕ
map_text rows flags =
    (((head_line (darts rows) (used_up_to flags (darts rows - 1)) ++ class_line vertices_word Vertex rows flags)
    ++ class_line edges_word Edge rows flags)
    ++ class_line faces_word Face rows flags)
    ++ class_line volumes_word Volume rows flags

-- the most darts that the program has room for
abbrev pub most : ℕ
most = 1024

unfoldable pub answer_of : List ℕ → Test
answer_of bytes = result_and (header_test most bytes) (blocks_test bytes (darts_of bytes) (vertices_of bytes))

-- what passes has a text; what does not, the line of its refusal
abbrev pub tested_text : Test → List ℕ → List ℕ
tested_text (Ok x) text = text
tested_text (Err w) text = refused_line w

unfoldable pub image_text : List ℕ → List ℕ
image_text bytes =
    let n = darts_of bytes in
    tested_text (answer_of bytes) (map_text (rows_of bytes n) (flags_of bytes n))

-- scope: report. Input that is longer than the program's buffer is refused before it is looked at.
unfoldable pub report_of : Bool → List ℕ → List ℕ
report_of more bytes = cond more (refused_line (BadImage 2)) (image_text bytes)

-- ---- what the report leaves in its other loans

-- the lists of the four classes, each over the one before it
unfoldable pub lists_over : List ℕ → List ℕ → List ℕ → List ℕ
lists_over rows flags out =
    headed (list_of Volume rows flags) (headed (list_of Face rows flags) (headed (list_of Edge rows flags) (headed (list_of Vertex rows flags) out)))

pub record ReportLoans : Type 0 where
  pub flags : List ℕ
  pub vertices : List ℕ
  pub coordinates : List Float
  pub rows : List ℕ
  pub marks : List ℕ
  pub queue : List ℕ
  pub output : List ℕ

abbrev pub leaves : List ℕ → List ℕ → List Float → List ℕ → List ℕ → List ℕ → List ℕ → ReportLoans
leaves flags vertices coordinates rows marks queue output =
    record { flags = flags; vertices = vertices; coordinates = coordinates; rows = rows; marks = marks; queue = queue; output = output }

-- an image that is read leaves what the reader writes, scratch at 0 on its first n places, and the lists; any other leaves all as it was
unfoldable pub report_leaves : Bool → List ℕ → List ℕ → List ℕ → List Float → List ℕ → List ℕ → List ℕ → List ℕ → ReportLoans
report_leaves more bytes flags vertices coordinates rows marks queue output =
    let n = darts_of bytes in
    let read = wrote bytes n (vertices_of bytes) flags vertices coordinates rows in
    cond (not more && is_ok (answer_of bytes))
    (leaves read.loans.flags read.loans.vertices read.loans.coordinates read.loans.rows (wiped n marks) (wiped n queue)
    (lists_over (rows_of bytes n) (flags_of bytes n) output))
    (leaves flags vertices coordinates rows marks queue output)
