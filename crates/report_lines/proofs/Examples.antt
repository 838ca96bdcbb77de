-- Reports, computed: the closed triangle, an input that is too long, and one that is too short. Assumes nothing.
--   triangle_report   the triangle's five lines
--   long_report       12 (2), whatever the bytes are
--   short_report      12 (1) of no bytes at all
use Prim.Native.Nat.{ℕ}
use mathlib.Core.Path.{◌≡◌, refl}
use mathlib.Core.Bool.{true, false}
use mathlib.Core.List.{List, [], ◌∷◌}
use Rattle.map_betas.specs.Maps.{bad_size, breaks, breach_at, free_at, unused, bound, first_breach, map_test}
use Rattle.cell_steps.specs.Steps.{image}
use Rattle.cell_steps.specs.Search.{mem, add, visit, search, orbit}
use Rattle.cell_steps.specs.Idents.{least_from, least, ident}
use Rattle.cell_lists.specs.CellLists.{cells_from, cells_by}
use Rattle.cell_faces.specs.Faces.{fresh, insert, lower, turn, leg, forward, backward, face_walk, face_id}
use Rattle.image_words.specs.Lists.{listed}
use Rattle.image_words.specs.Words.{word32}
use Rattle.image_form.specs.Tests.{unless, start_test, layout_test, bits_only, flags_test, records_good, vertices_test}
use Rattle.image_reader.specs.Tests.{blocks_test}
use Rattle.report_text.specs.Texts.{digits, items_of, line_of}
use Rattle.report_lines.specs.Report.{value_of, told_line, used_up_to, head_line, class_line, map_text, answer_of, image_text, report_of}

-- the image of the closed triangle 1, 2, 3 without vertices: n is 4, and 96 bytes in all
triangle : List ℕ
triangle =
    1 ∷ 0 ∷ 0 ∷ 0 ∷ 96 ∷ 0 ∷ 0 ∷ 0 ∷ 4 ∷ 0 ∷ 0 ∷ 0 ∷ 28 ∷ 0 ∷ 0 ∷ 0 ∷ 92 ∷ 0 ∷ 0 ∷ 0 ∷ 0 ∷ 0 ∷ 0 ∷ 0 ∷ 96 ∷ 0 ∷ 0 ∷ 0 ∷
    0 ∷ 0 ∷ 0 ∷ 0 ∷ 0 ∷ 0 ∷ 0 ∷ 0 ∷ 0 ∷ 0 ∷ 0 ∷ 0 ∷ 0 ∷ 0 ∷ 0 ∷ 0 ∷ 3 ∷ 0 ∷ 0 ∷ 0 ∷ 2 ∷ 0 ∷ 0 ∷ 0 ∷ 0 ∷ 0 ∷ 0 ∷ 0 ∷
    0 ∷ 0 ∷ 0 ∷ 0 ∷ 1 ∷ 0 ∷ 0 ∷ 0 ∷ 3 ∷ 0 ∷ 0 ∷ 0 ∷ 0 ∷ 0 ∷ 0 ∷ 0 ∷ 0 ∷ 0 ∷ 0 ∷ 0 ∷ 2 ∷ 0 ∷ 0 ∷ 0 ∷ 1 ∷ 0 ∷ 0 ∷ 0 ∷
    0 ∷ 0 ∷ 0 ∷ 0 ∷ 0 ∷ 0 ∷ 0 ∷ 0 ∷ 0 ∷ 0 ∷ 0 ∷ 0 ∷ []

triangle_report : report_of false triangle ≡
    100 ∷ 97 ∷ 114 ∷ 116 ∷ 115 ∷ 32 ∷ 52 ∷ 32 ∷ 117 ∷ 115 ∷ 101 ∷ 100 ∷ 32 ∷ 51 ∷ 10 ∷ 118 ∷ 101 ∷ 114 ∷ 116 ∷ 105 ∷ 99 ∷ 101 ∷ 115 ∷ 32 ∷ 51 ∷ 58 ∷ 32 ∷ 49 ∷
    32 ∷ 50 ∷ 32 ∷ 51 ∷ 10 ∷ 101 ∷ 100 ∷ 103 ∷ 101 ∷ 115 ∷ 32 ∷ 51 ∷ 58 ∷ 32 ∷ 49 ∷ 32 ∷ 50 ∷ 32 ∷ 51 ∷ 10 ∷ 102 ∷ 97 ∷ 99 ∷ 101 ∷ 115 ∷ 32 ∷ 49 ∷ 58 ∷
    32 ∷ 49 ∷ 10 ∷ 118 ∷ 111 ∷ 108 ∷ 117 ∷ 109 ∷ 101 ∷ 115 ∷ 32 ∷ 49 ∷ 58 ∷ 32 ∷ 49 ∷ 10 ∷ []
unfolding triangle bad_size breaks breach_at free_at unused bound first_breach map_test image mem add visit search orbit least_from least ident cells_from cells_by
    fresh insert lower turn leg forward backward face_walk face_id listed word32 unless start_test layout_test bits_only flags_test records_good vertices_test
    blocks_test digits items_of line_of value_of told_line used_up_to head_line class_line map_text answer_of image_text report_of
triangle_report = refl

long_report : (bytes : List ℕ) → report_of true bytes ≡ 114 ∷ 101 ∷ 102 ∷ 117 ∷ 115 ∷ 101 ∷ 100 ∷ 32 ∷ 49 ∷ 50 ∷ 32 ∷ 50 ∷ 32 ∷ 48 ∷ 32 ∷ 48 ∷ 10 ∷ []
unfolding digits value_of told_line report_of
long_report bytes = refl

short_report : report_of false [] ≡ 114 ∷ 101 ∷ 102 ∷ 117 ∷ 115 ∷ 101 ∷ 100 ∷ 32 ∷ 49 ∷ 50 ∷ 32 ∷ 49 ∷ 32 ∷ 48 ∷ 32 ∷ 48 ∷ 10 ∷ []
unfolding unless start_test digits value_of told_line answer_of image_text report_of
short_report = refl
