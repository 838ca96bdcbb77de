-- `edges::join_edge` meets its contract: one arm of an edge that is round, and both of one that is open. Assumes nothing.
use mathlib.Core.Path.{refl}
use mathlib.Core.List.Memᴰ
use Rattle.cell_steps.proofs.ScratchLaws.{scratch_same}
use Rattle.cell_joins.proofs.EdgeLaws.{first_new, second_new, joined_round, joined_open}
use Rattle.cell_joins.proofs.edges.join_edge.Goals as goal

pub follow_arm-first-requires : goal.follow_arm-first-requires
follow_arm-first-requires c =
    let a = c.args in
    (c.requires.0, c.requires.1, c.requires.2, Memᴰ.head refl, first_new a.rows.list.now a.d a.queue.now a.k c.requires.3)

pub returns-then-first-ne0 : goal.returns-then-first-ne0
returns-then-first-ne0 c =
    let a = c.follow_arm-first.ensures in
    joined_round c.args.rows.list.now c.args.d c.args.queue.now c.args.k c.requires.3 _ _ _ a.0 _ a.1 c.if-first-ne0.true

pub follow_arm-second-requires : goal.follow_arm-second-requires
follow_arm-second-requires c =
    let a = c.follow_arm-first in (
      scratch_same _ c.args.marks.now c.args.queue.now _ _ c.requires.0 a.auto.marks a.auto.queue,
      a.ensures.0.queue,
      c.requires.2,
      Memᴰ.tail (Memᴰ.head refl),
      second_new c.args.rows.list.now c.args.d c.args.queue.now c.args.k c.requires.3 _ _ _ a.ensures.0 _
          a.ensures.1 c.if-first-ne0.false,
    )

pub returns : goal.returns
returns c =
    let a = c.follow_arm-first.ensures in
    joined_open c.args.rows.list.now c.args.d c.args.queue.now c.args.k c.requires.3 _ _ _ a.0 _ a.1
    c.if-first-ne0.false _ _ _ c.follow_arm-second.ensures.0
