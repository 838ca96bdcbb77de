-- `items::put_items` meets its contract: the items, one behind the other. Assumes nothing.
use native.Mathlib.Omega.{arith}
use Rattle.std.proofs.Common.{◌∙◌}
use Rattle.sew_ground.specs.Entries.{written_all}
use Rattle.sew_ground.proofs.EntryLaws.{item_put, item_none, items_done}
use Rattle.sew_ground.proofs.items.put_items.Goals as goal
use Rattle.sew_ground.proofs.items.put_items.Goals.{in-Some, in_default}

pub loop-item-preserved : goal.loop-item-preserved
loop-item-preserved c =
    let l = c.loop-item in
    let i = l.invariant in
    let items = c.args.items.now in
    let more = c.loop-item-test.true in
    elim c.match-item.branch [
      | in-Some w ↦
          let p = item_put l.plan l.next items l.item-index more _ _ i.number i.plan _ _ _ w.in-Some.is
          (w.plan-is ∙ w.write_entry.ensures) w.next-is in
          record { number = p.0; plan = p.1 }
      | in_default w ↦
          let p = item_none l.plan l.next items l.item-index more _ _ i.number i.plan _ _ w.in_default.is
          w.plan-is w.next-is in
          record { number = p.0; plan = p.1 }
    ]

pub returns : goal.returns
unfolding written_all
returns c =
    let e = items_done c.args.items.now c.loop-item.item-index c.loop-item-test.false in
    let i = c.loop-item.invariant in
    let j = rw e at i in
    (omega arith, j.plan)
