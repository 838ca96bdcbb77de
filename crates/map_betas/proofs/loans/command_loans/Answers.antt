-- `loans::command_loans` meets its contract: its output is what `counted_as` gives. Assumes nothing.
use Prim.Native.Nat.{ℕ}
use mathlib.Core.Path.{◌≡◌}
use Rattle.map_betas.specs.declared.loans.Loans.{Loans}
use Rattle.map_betas.specs.Guards.{counted_as, command_loans}
use Rattle.map_betas.proofs.loans.command_loans.Goals as goal

as_loans : (marks queue output needed vertices coordinates k : ℕ) → k ≡ counted_as output needed →
    ◌≡◌ {A = Loans} (record { marks = marks; queue = queue; output = k; vertices = vertices; coordinates = coordinates })
    (command_loans marks queue output needed vertices coordinates)
as_loans marks queue output needed vertices coordinates k e = rw e

pub returns : goal.returns
returns c =
    let a = c.args in
    as_loans a.marks a.queue a.output a.needed a.vertices a.coordinates _ c.counted_as.ensures
