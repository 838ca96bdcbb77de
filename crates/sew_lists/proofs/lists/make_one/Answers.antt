-- `lists::make_one` meets its contract: one command on the plan's rest, its answer, and its count. Assumes nothing.
use native.Mathlib.Omega.{arith}
use Prim.Native.Nat.{ℕ, ◌*◌, ◌-◌}
use mathlib.Core.Path.{◌≡◌, ap, ◌∙◌}
use lib.ListN.{length, length-drop}
use borrow.Rule.Slice.PartMut.{mid_of}
use Rattle.sew_plan.specs.Plan.{width}
use Rattle.sew_commands.specs.Commands.{run}
use Rattle.sew_commands.proofs.TurnLaws.{rest_is, turn_is, answer_fits, answer_room}
use Rattle.sew_lists.proofs.lists.make_one.Goals as goal

pub put_answer-requires : goal.put_answer-requires
put_answer-requires c =
    let a = c.args in
    let e = c.run_command-a.ensures in
    (c.requires.5, answer_fits a.flags.now a.vertices.now a.coordinates.now _ _ _ a.rows.now _ c.requires.0 _ _ _ e.plan_after)

pub overflow_add-result : goal.overflow_add-result
overflow_add-result c =
    let a = c.args in
    let e = c.run_command-a.ensures in
    let p : ℕ = width * a.written in
    let r = answer_room a.flags.now a.vertices.now a.coordinates.now _ _ _ a.rows.now (mid_of p (length a.plan.now - p) a.plan.now)
    c.requires.0 _ _ _ e.plan_after in
    let l : length (mid_of p (length a.plan.now - p) a.plan.now) ≡ length a.plan.now - p =
    ap length (rest_is a.plan.now p c.requires.6) ∙ length-drop p a.plan.now in
    omega (arith, r, l, c.count_of.ensures, c.requires.6)

pub returns-clause-plan_after : goal.returns-clause-plan_after
returns-clause-plan_after c =
    let a = c.args in
    let e = c.run_command-a.ensures in turn_is (run a.flags.now a.vertices.now a.coordinates.now) a.list.now a.rows.now a.output.now a.plan.now a.k a.written
    c.requires.6 _ _ _ _ _ e.plan_after c.put_answer.ensures c.count_of.ensures
