-- `commands::commands` meets its contract: refused for size or a loan, or handed on. Assumes nothing.
use mathlib.Core.Path.{◌≡◌, sym, ap, ◌∙◌}
use Rattle.map_betas.proofs.AnswerLaws.{behind_refused, behind_done}
use Rattle.sew_commands.specs.Calls.{loans_for, commands_lent, commands}
use Rattle.sew_commands.proofs.CallLaws.{lent_done}
use Rattle.sew_list_calls.proofs.commands.commands.Goals as goal
use Rattle.sew_list_calls.proofs.commands.commands.Goals.{After-lent_test}
use Rattle.std.specs.Prelude.{is_ok}

-- what the code has tested is what the definition tests
tested : (c : After-lent_test) →
    let a = c.args in
    c.lent_test.result ≡ commands_lent a.rows.now a.flags.now (loans_for a.marks.now a.queue.now a.output.now a.vertices.now
    a.coordinates.now a.list.now)
tested c =
    let a = c.args in
    c.lent_test.ensures ∙ ap (commands_lent a.rows.now a.flags.now) c.command_loans-loans.ensures

pub returns-in_err-lent_test : goal.returns-in_err-lent_test
unfolding commands
returns-in_err-lent_test c =
    behind_refused (tested (goal.at.returns-in_err-lent_test c).After-lent_test) _ _ _ c.in_err-lent_test.was c.from_residual.ensures.1

pub commands_lent-requires : goal.commands_lent-requires
commands_lent-requires c =
    let a = c.args in
    lent_done a.rows.now a.flags.now (loans_for a.marks.now a.queue.now a.output.now a.vertices.now a.coordinates.now a.list.now)
    (ap is_ok (sym (tested (goal.at.commands_lent-requires c).After-lent_test) ∙ c.in_ok-lent_test.was))

pub returns : goal.returns
unfolding commands
returns c = c.commands_lent.ensures ∙ behind_done (tested (goal.at.returns c).After-lent_test) _ _ c.in_ok-lent_test.was
