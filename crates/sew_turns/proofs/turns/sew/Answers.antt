-- `turns::sew` meets its contract: refused by the test of the darts, or run. Assumes nothing.
use mathlib.Core.Path.{sym, ap, ◌∙◌}
use Rattle.map_betas.specs.Betas.{darts}
use Rattle.map_betas.proofs.GuardLaws.{are_darts}
use Rattle.sew_commands.proofs.CommandLaws.{slots_are, tested_refused, tested_done}
use Rattle.std.specs.Prelude.{is_ok}
use Rattle.sew_turns.proofs.turns.sew.Goals as goal

pub returns-in_err-dart_test-clause-plan_after : goal.returns-in_err-dart_test-clause-plan_after
returns-in_err-dart_test-clause-plan_after c =
    let a = c.args in
    tested_refused a.operation a.flags.now a.vertices.now a.coordinates.now a.ld a.rd a.rows.now a.plan.now _
    c.sew_second-second.ensures c.dart_test.ensures _ c.in_err-dart_test.was c.from_residual.ensures.1

pub run-requires : goal.run-requires
run-requires c =
    let a = c.args in
    let ds = are_darts (darts a.rows.now) a.flags.now 1 a.ld c.sew_second-second.result
    (ap is_ok (sym c.dart_test.ensures ∙ c.in_ok-dart_test.was)) in
    (c.requires.0, ds.0.0, ds.1.0, c.requires.1, slots_are a.operation _ _ _ c.requires.2 c.requires.3)

pub returns-clause-plan_after : goal.returns-clause-plan_after
returns-clause-plan_after c =
    let a = c.args in
    let e = c.run.ensures.plan_after in
    tested_done a.operation a.flags.now a.vertices.now a.coordinates.now a.ld a.rd a.rows.now a.plan.now _
    c.sew_second-second.ensures c.dart_test.ensures _ c.in_ok-dart_test.was e
