-- The call of a list of commands, for any rows, loans and list.
--   CommandLoans   what is left of rows, marks, queue, output and plan
--   commands_lent   the tests of size and loans
--   whole          whether a list is whole commands
--   list_done       a list that is made: scratch is 0 on its first n places
--   list_tested     the call behind the tests of size and loans
--   commands       the call
--   Able           where it is done (`proofs/Demand.antt`)
use Rattle.std.specs.Prelude.{ℕ, ◌*◌, ◌/◌, ◌%◌, ◌≤◌, ◌≡◌, Bool, cond, List, eqb, Float, length, Err}
use Rattle.map_betas.specs.declared.error.Refusal.TheVariants.{BadCommand}
use Rattle.map_betas.specs.declared.loans.Loans.{Loans}
use Rattle.map_betas.specs.Betas.{darts}
use Rattle.map_betas.specs.Answers.{Outcome, outcome, behind, done, Test}
use Rattle.map_betas.specs.Maps.{size_test, map_test, Map}
use Rattle.map_betas.specs.Guards.{command_loans, loan_test}
use Rattle.cell_steps.specs.Calls.{wiped}
use Rattle.sew_answers.specs.Words.{answer_width}
use Rattle.sew_commands.specs.Commands.{lending, LongEnough, called}
use Rattle.sew_commands.specs.Lists.{Turn, filled, made}
use Rattle.std.specs.Result.{result_and}

abbrev pub CommandLoans : Type 0
CommandLoans = List ℕ × List ℕ × List ℕ × List ℕ × List ℕ

-- an answer takes five places of the output, and there has to be room for as many as the list has whole commands
abbrev pub loans_for : List ℕ → List ℕ → List ℕ → List ℕ → List Float → List ℕ → Loans
loans_for marks queue output vertices coordinates list =
    command_loans (length marks) (length queue) (length output / answer_width) (length list / 3) (length vertices) (length coordinates)

unfoldable pub commands_lent : List ℕ → List ℕ → Loans → Test
commands_lent rows flags loans = result_and (size_test rows) (loan_test (darts rows) (length flags) loans)

abbrev pub whole : List ℕ → Bool
whole list = eqb (length list % 3) 0

-- the rows, answers and plan of a list, and scratch that is 0 on its first n places whatever the commands were (scope: scratch)
abbrev pub list_done : ℕ → List ℕ → List ℕ → Turn → Outcome CommandLoans
list_done n marks queue t = outcome (done 0 t.written) (t.rows, wiped n marks, wiped n queue, t.output, t.plan)

-- behind the tests of size and loans: a list of whole commands, then the map (scope: commands). 13 is none of the refusals that leave scratch as it was.
unfoldable pub list_tested : List ℕ → List ℕ → List ℕ → List ℕ → List ℕ → List ℕ → List Float → List ℕ → List ℕ → Outcome CommandLoans
list_tested rows marks queue output flags vertices coordinates plan list =
    cond (whole list)
    (behind (map_test rows flags) (rows, marks, queue, output, plan)
    (list_done (darts rows) marks queue (filled output (made (called (lending marks queue flags vertices coordinates)) list rows plan))))
    (outcome (Err (BadCommand 0)) (rows, wiped (darts rows) marks, wiped (darts rows) queue, output, plan))

-- refusals in the order 1, 2, 13, 3
unfoldable pub commands : List ℕ → List ℕ → List ℕ → List ℕ → List ℕ → List ℕ → List Float → List ℕ → List ℕ → Outcome CommandLoans
commands rows marks queue output flags vertices coordinates plan list =
    behind (commands_lent rows flags (loans_for marks queue output vertices coordinates list)) (rows, marks, queue, output, plan)
    (list_tested rows marks queue output flags vertices coordinates plan list)

-- a map, loans that are long enough, room for every answer, and whole commands
pub record Able (rows marks queue output flags vertices : List ℕ) (coordinates : List Float) (list : List ℕ) : Type 0 where
  pub map : Map rows flags
  pub lent : LongEnough (darts rows) (lending marks queue flags vertices coordinates)
  pub room : answer_width * (length list / 3) ≤ length output
  pub whole : length list % 3 ≡ 0
