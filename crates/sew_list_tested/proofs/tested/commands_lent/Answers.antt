-- `tested::commands_lent` meets its contract: no whole commands, no map, or made. Assumes nothing.
use borrow.Author.Rules.{rules}
use mathlib.Core.Path.{sym, ap, ◌∙◌}
use Rattle.map_betas.proofs.Formed.{map_done}
use Rattle.sew_commands.proofs.CallLaws.{lent_long, lent_room, list_broken, list_no_map, list_all}
use Rattle.std.specs.Prelude.{is_ok}
use Rattle.sew_list_tested.proofs.tested.commands_lent.Goals as goal

pub returns-then-list-ne0 : goal.returns-then-list-ne0
returns-then-list-ne0 c =
    let a = c.args in
    list_broken a.rows.now a.marks.now a.queue.now a.output.now a.flags.now a.vertices.now a.coordinates.now a.plan.now
    a.list.now c.if-list-ne0.true _ _ (search rules) (search rules)

pub returns-in_err-map_test : goal.returns-in_err-map_test
returns-in_err-map_test c =
    let a = c.args in
    list_no_map a.rows.now a.marks.now a.queue.now a.output.now a.flags.now a.vertices.now a.coordinates.now a.plan.now
    a.list.now c.if-list-ne0.false c.map_test.ensures _ c.in_err-map_test.was c.from_residual.ensures.1

pub make_wiped-requires : goal.make_wiped-requires
make_wiped-requires c =
    let a = c.args in
    let pre = c.requires in
    let long = lent_long a.rows.now a.marks.now a.queue.now a.output.now a.flags.now a.vertices.now a.coordinates.now a.list.now
    pre.0 pre.2 in (
      (map_done a.rows.now a.flags.now pre.0 pre.1 (ap is_ok (sym c.map_test.ensures ∙ c.in_ok-map_test.was))).formed,
      long.marks,
      long.queue,
      long.vertices,
      long.coordinates,
      lent_room a.rows.now a.marks.now a.queue.now a.output.now a.flags.now a.vertices.now a.coordinates.now
          a.list.now pre.0 pre.2,
      pre.1,
    )

pub returns : goal.returns
returns c =
    let a = c.args in
    let pre = c.requires in
    list_all a.rows.now a.marks.now a.queue.now a.output.now a.flags.now a.vertices.now a.coordinates.now a.plan.now
    a.list.now c.if-list-ne0.false c.map_test.ensures _ c.in_ok-map_test.was
    (map_done a.rows.now a.flags.now pre.0 pre.1 (ap is_ok (sym c.map_test.ensures ∙ c.in_ok-map_test.was)))
    (lent_long a.rows.now a.marks.now a.queue.now a.output.now a.flags.now a.vertices.now a.coordinates.now a.list.now
    pre.0 pre.2)
    c.make_wiped.ensures
