-- A list of commands, made one after another.
--   Step        what one command does: of its operation, its darts, the rows and what is left of the plan
--   Made        what a list has made: its answers, the entries in all, rows and plan
--   before      what one command has made, before what the rest makes
--   made        a list of commands, three numbers each
--   Turn, turn_of   where a list stands behind one command: entries so far, rows, output and plan
--   filled      where it stands behind its last
use Rattle.std.specs.Prelude.{ℕ, ◌+◌, ◌*◌, List, [], ◌∷◌, ◌++◌, get_or, take, drop}
use Rattle.cell_steps.specs.Calls.{headed}
use Rattle.sew_plan.specs.Plan.{width}
use Rattle.sew_ground.specs.Sewn.{Sewn}
use Rattle.sew_answers.specs.Words.{answer_words, count_of, answered}

abbrev pub Step : Type 0
Step = ℕ → ℕ → ℕ → List ℕ → List ℕ → Sewn

pub record Made : Type 0 where
  pub answers : List ℕ
  pub entries : ℕ
  pub rows : List ℕ
  pub plan : List ℕ

abbrev pub makes : List ℕ → ℕ → List ℕ → List ℕ → Made
makes answers entries rows plan = record { answers = answers; entries = entries; rows = rows; plan = plan }

-- answers and plan of what came first stand before those of the rest
abbrev pub before : List ℕ → ℕ → List ℕ → Made → Made
before answers entries plan rest = makes (answers ++ rest.answers) (entries + rest.entries) rest.rows (plan ++ rest.plan)

-- what is left of a plan once a command has written its entries, and what it has written
abbrev pub left_of : Sewn → List ℕ
left_of s = drop (width * count_of s.answer) s.plan

abbrev pub written_by : Sewn → List ℕ
written_by s = take (width * count_of s.answer) s.plan

-- scope: commands. Each command is made on the rows that the one before it has left, and is lent what that one has left of the plan.
unfoldable pub made : Step → List ℕ → List ℕ → List ℕ → Made
made step [] rows plan = makes [] 0 rows plan
made step (a ∷ []) rows plan = makes [] 0 rows plan
made step (a ∷ b ∷ []) rows plan = makes [] 0 rows plan
made step (operation ∷ ld ∷ rd ∷ list) rows plan =
    let s = step operation ld rd rows plan in
    before (answer_words s.answer) (count_of s.answer) (written_by s) (made step list s.rows (left_of s))

-- ---- how the code goes through a list: command number k, the entries written before it standing in the plan

pub record Turn : Type 0 where
  pub written : ℕ
  pub rows : List ℕ
  pub output : List ℕ
  pub plan : List ℕ

abbrev pub turn : ℕ → List ℕ → List ℕ → List ℕ → Turn
turn written rows output plan = record { written = written; rows = rows; output = output; plan = plan }

-- command number k of a list
abbrev pub nth : Step → List ℕ → ℕ → List ℕ → List ℕ → Sewn
nth step list k rows plan = step (get_or list (3 * k) 0) (get_or list (3 * k + 1) 0) (get_or list (3 * k + 2) 0) rows plan

-- its answer behind the answers before it, its plan behind the plan before it
abbrev pub after_turn : ℕ → ℕ → List ℕ → List ℕ → Sewn → Turn
after_turn k written output plan s =
    turn (written + count_of s.answer) s.rows (answered output k s.answer) (take (width * written) plan ++ s.plan)

unfoldable pub turn_of : Step → List ℕ → ℕ → ℕ → List ℕ → List ℕ → List ℕ → Turn
turn_of step list k written rows output plan = after_turn k written output plan (nth step list k rows (drop (width * written) plan))

-- the whole list: its answers from the output's start, whose other places stay as they were
abbrev pub filled : List ℕ → Made → Turn
filled output m = turn m.entries m.rows (headed m.answers output) m.plan
