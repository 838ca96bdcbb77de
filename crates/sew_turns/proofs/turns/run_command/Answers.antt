-- `turns::run_command` meets its contract, by what the number stands for. Assumes nothing.
use mathlib.Core.Path.{refl, ap}
use Prim.Native.Nat.{ℕ}
use mathlib.Core.List.{List}
use Rattle.std.specs.Prelude.{Ok}
use Rattle.map_betas.specs.Answers.{Outcome}
use Rattle.sew_commands.specs.declared.commands.Command.TheVariants.{Links, Sews}
use Rattle.sew_commands.specs.Commands.{on_rows}
use Rattle.sew_ground.proofs.OneLaws.{handed_on}
use Rattle.sew_commands.proofs.CommandLaws.{run_is}
use Rattle.sew_turns.proofs.turns.run_command.Goals as goal

pub returns-in_err-command-clause-plan_after : goal.returns-in_err-command-clause-plan_after
returns-in_err-command-clause-plan_after c =
    let a = c.args in
    rw (handed_on _ c.in_err-command.was c.from_residual.ensures.1)
    (run_is a.flags.now a.vertices.now a.coordinates.now a.operation a.ld a.rd a.rows.now a.plan.now _ _ _ c.in_err-command.ensures refl refl)

pub returns-in-Links-clause-plan_after : goal.returns-in-Links-clause-plan_after
returns-in-Links-clause-plan_after c =
    let a = c.args in
    run_is a.flags.now a.vertices.now a.coordinates.now a.operation a.ld a.rd a.rows.now a.plan.now _ (Ok (Links c.in-Links.link)) _
    c.in_ok-command.ensures (ap Ok c.in-Links.is) (ap (λ (o : Outcome (List ℕ)). on_rows o a.plan.now) c.join.ensures)

pub returns-in-Sews-clause-plan_after : goal.returns-in-Sews-clause-plan_after
returns-in-Sews-clause-plan_after c =
    let a = c.args in
    let e = c.sew.ensures.plan_after in
    run_is a.flags.now a.vertices.now a.coordinates.now a.operation a.ld a.rd a.rows.now a.plan.now _ (Ok (Sews c.in-Sews.o)) _
    c.in_ok-command.ensures (ap Ok c.in-Sews.is) e
