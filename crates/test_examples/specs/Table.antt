-- The worked examples, all of them (scope: examples), as one table; `proofs/Agree.antt` has the one claim over it.
--   Shown             what a line shows: an answer, the rows and the plan that a call leaves
--   of_link, of_id, of_sew   what a link, an identifier, and a sew or unsew show
--   seen f lines      lines of another crate, as shown by f
--   named             the identifier of a class, and what it answers: a name, and a size
--   face_lines         the open chain 1, 2, and the maps that tell the walk of `face_id` from its variants
--   cell_lines         sizes: the null dart, and the cells after two 2-sews of which a plan does not tell
--   table             the lines of links, identifiers, sews and unsews
use Rattle.std.specs.Prelude.{ℕ, List, [], ◌∷◌, ◌++◌, Ok}
use Rattle.map_betas.specs.Answers.{Outcome, Answer, done}
use Rattle.link_glue.specs.Examples.{Line, line, row, free, pair, in_use, lines as linkLines}
use Rattle.cell_steps.specs.declared.cells.Class.{Class}
use Rattle.cell_steps.specs.declared.cells.Class.TheVariants.{Vertex, Edge, Face, Volume}
use Rattle.cell_names.specs.Calls.{id_call}
use Rattle.sew_ground.specs.Calls.{SewLoans}
use Rattle.sew_pairs.specs.Examples.{zeros3, zeros4, lines as unsewLines}
use Rattle.test_examples.specs.Sews.{bent_sewn, hinged_sewn, lines as sewLines}

pub record Shown : Type 0 where
  pub answer : Answer
  pub rows : List ℕ
  pub plan : List ℕ

abbrev pub shown : Answer → List ℕ → List ℕ → Shown
shown a rows plan = record { answer = a; rows = rows; plan = plan }

abbrev pub of_link : Outcome (List ℕ) → Shown
of_link o = shown o.answer o.loans []

abbrev pub of_id : List ℕ → Outcome (List ℕ × List ℕ) → Shown
of_id rows l = shown l.answer rows []

abbrev pub of_sew : Outcome SewLoans → Shown
of_sew l = shown l.answer l.loans.0 l.loans.3

unfoldable pub seen : {A : Type 0} → (A → Shown) → List (Line A) → List (Line Shown)
seen f [] = []
seen f (l ∷ ls) = line (f l.call) (f l.says) ∷ seen f ls

abbrev pub named : Class → List ℕ → List ℕ → ℕ → ℕ → ℕ → Line Shown
named class rows zeros d x k = line (of_id rows (id_call rows zeros zeros (in_use rows) class d)) (shown (done x k) rows [])

-- the face of d, and what the document says
abbrev pub face : List ℕ → List ℕ → ℕ → ℕ → Line Shown
face rows zeros d says = named Face rows zeros d says 0

-- n = 4, b1(3) = 2, b1(2) = 1, b3(2) = 3
abbrev pub crossed : List ℕ
crossed = free ++ row 2 0 0 0 ++ row 3 1 0 3 ++ row 0 2 0 2

-- n = 5, b1(3) = 2, b1(2) = 1, b1(4) = 4, b3(3) = 4
abbrev pub loop_start : List ℕ
loop_start = free ++ row 2 0 0 0 ++ row 3 1 0 0 ++ row 0 2 0 4 ++ row 4 4 0 3

-- n = 5, b1(1) = 2, b1(2) = 3, b1(4) = 4, b3(3) = 4
abbrev pub loop_end : List ℕ
loop_end = free ++ row 0 2 0 0 ++ row 1 3 0 0 ++ row 2 0 0 4 ++ row 4 4 0 3

unfoldable pub face_lines : List (Line Shown)
face_lines =
    face pair zeros3 2 2
    ∷ face pair zeros3 1 1
    ∷ face crossed zeros4 3 1
    ∷ face loop_start (0 ∷ zeros4) 4 1
    ∷ face loop_end (0 ∷ zeros4) 4 1
    ∷ []

unfoldable pub cell_lines : List (Line Shown)
cell_lines =
    named Vertex hinged_sewn zeros4 0 0 0
    ∷ named Edge hinged_sewn zeros4 3 1 3
    ∷ named Vertex hinged_sewn zeros4 3 1 3
    -- the last entry of its plan says 2
    ∷ named Vertex bent_sewn zeros4 3 1 3
    ∷ named Volume bent_sewn zeros4 2 1 3
    ∷ []

unfoldable pub table : List (Line Shown)
table = seen of_link linkLines ++ (face_lines ++ (cell_lines ++ (seen of_sew sewLines ++ seen of_sew unsewLines)))
