-- `lists::make_all` meets its contract: command by command, what is made so far and what the rest makes are what the list makes. Assumes nothing.
use mathlib.Core.Path.{◌≡◌}
use Rattle.sew_commands.specs.Commands.{run}
use Rattle.sew_commands.specs.Lists.{turn}
use Rattle.sew_commands.proofs.TurnLaws.{Making}
use Rattle.sew_lists.proofs.lists.make_all.Given as goal

abbrev pub invariant-loop-k : goal.invariant-loop-k
invariant-loop-k l =
    Making (run l.flags l.vertices l.coordinates) l.list l.initial.rows l.initial.output l.initial.plan l.k (turn l.written l.rows l.output l.plan)
    × (l.marks ≡ l.initial.marks) × (l.queue ≡ l.initial.queue)
