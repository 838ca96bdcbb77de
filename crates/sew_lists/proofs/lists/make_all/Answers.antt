-- `lists::make_all` meets its contract: command by command, what is made so far and what the rest makes are what the list makes. Assumes nothing.
use native.Mathlib.Omega.{arith}
use mathlib.Core.Path.{◌∙◌}
use Rattle.sew_commands.proofs.TurnLaws.{making_turn, making_ends}
use Rattle.sew_lists.proofs.lists.make_all.Goals as goal

pub loop-k-preserved : goal.loop-k-preserved
loop-k-preserved c =
    let a = c.args in
    let l = c.loop-k in
    let m = l.invariant.0 in
    let more = c.loop-k-test.true in
    let out = m.output_long in
    let e = c.make_one-written.ensures in (
      making_turn a.flags.now a.vertices.now a.coordinates.now a.list.now a.rows.now a.output.now a.plan.now l.k
          l.written l.rows l.output l.plan m (omega (arith, more)) (omega (arith, more, out, c.requires.4)) _ e.plan_after,
      e.marks_unchanged.0 ∙ l.invariant.1,
      e.marks_unchanged.1 ∙ l.invariant.2,
    )

pub returns-clause-plan_after : goal.returns-clause-plan_after
returns-clause-plan_after c =
    let a = c.args in
    let l = c.loop-k in
    let over = c.loop-k-test.false in
    let in_List = l.auto.k-end in
    let out = l.invariant.0.output_long in making_ends a.flags.now a.vertices.now a.coordinates.now a.list.now a.rows.now a.output.now a.plan.now l.k
    l.written l.rows l.output l.plan l.invariant.0 (omega (arith, over, in_List)) (omega (arith, in_List, out, c.requires.4))
