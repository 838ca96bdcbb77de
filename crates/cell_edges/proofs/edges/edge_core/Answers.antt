-- `edges::edge_core` meets its contract: one arm of an edge that is round, and both of one that is open. Assumes nothing.
use mathlib.Core.Path.{refl}
use mathlib.Core.List.Memᴰ
use native.Mathlib.Omega.{arith}
use Rattle.cell_edges.proofs.CoreLaws.{round_cell, open_cell, arm_few}
use Rattle.cell_edges.proofs.edges.edge_core.Goals as goal

pub walk_arm-first-requires : goal.walk_arm-first-requires
walk_arm-first-requires c = (c.requires.0, Memᴰ.head refl, c.args.rows.formed.sized.some)

pub returns-then-first-ne0 : goal.returns-then-first-ne0
returns-then-first-ne0 c =
    let a = c.walk_arm-first.ensures in
    round_cell c.args.rows.list.now c.args.rows.formed _ c.requires.0 c.requires.1 _ _ _ a.0 a.1 a.2 (omega (arith, c.if-first-ne0.true))

pub walk_arm-second-requires : goal.walk_arm-second-requires
walk_arm-second-requires c =
    let few = arm_few c.args.rows.list.now c.args.rows.formed _ c.requires.0 c.requires.1 in
    (c.requires.0, Memᴰ.tail (Memᴰ.head refl), omega (arith, c.walk_arm-first.ensures.1))

pub returns : goal.returns
returns c =
    let a = c.walk_arm-first.ensures in
    let b = c.walk_arm-second.ensures in
    open_cell c.args.rows.list.now c.args.rows.formed _ c.requires.0 c.requires.1 _ _ _ _ _ a.0 a.1 a.2
    (omega (arith, c.if-first-ne0.false)) b.0 b.1
