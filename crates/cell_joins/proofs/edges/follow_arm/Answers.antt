-- `edges::follow_arm` meets its contract, by the invariant `Following`. Assumes nothing.
use mathlib.Core.Path.{refl, ◌∙◌}
use mathlib.Core.Logic.{inl, inr}
use native.Mathlib.Omega.{arith}
use Rattle.cell_edges.proofs.ArmLaws.{edge_less}
use Rattle.cell_joins.proofs.EdgeLaws.{following_on, following_new, following_turn, following_ends}
use Rattle.cell_joins.proofs.edges.follow_arm.Goals as goal
use Rattle.cell_joins.proofs.edges.follow_arm.Goals.{then-x-eq0-via-then-x-eq0, then-x-eq0-via-else-x-eq0+then-x-d}

pub beta-x-requires : goal.beta-x-requires
beta-x-requires c =
    let v = c.loop-x.invariant.along in
    omega (arith, v.below, c.args.rows.formed.sized.whole, edge_less v.by_edge)

pub returns-then-x-eq0 : goal.returns-then-x-eq0
returns-then-x-eq0 c =
    following_ends c.args.rows.list.now c.args.rows.formed _ _ c.requires.2 c.requires.3 _ _ _ _ _ _ _ _ _ c.loop-x.invariant
    c.beta-x.ensures (elim c.then-x-eq0.branch [
      | then-x-eq0-via-then-x-eq0 t ↦ inl t.if-x-eq0.true
      | then-x-eq0-via-else-x-eq0+then-x-d t ↦ inr t.if-x-d.true
    ])

pub put-requires : goal.put-requires
put-requires c =
    let v = c.loop-x.invariant in
    let n = v.marks_n ∙ c.requires.0.marks_n in (
      v.held,
      rw c.beta-x.ensures (omega (arith, c.args.rows.formed.below c.loop-x.by c.loop-x.x)),
      omega (arith, v.queue_same, c.requires.0.queue_n),
      following_new c.args.rows.list.now c.args.rows.formed _ _ c.requires.2 c.requires.3 _ _ _ _ _ _ _ _ _ v c.beta-x.ensures
          c.if-x-eq0.false c.if-x-d.false c.requires.4,
    )

pub overflow_sub-by : goal.overflow_sub-by
overflow_sub-by c = omega (arith, edge_less c.loop-x.invariant.along.by_edge)

pub loop-x-smaller : goal.loop-x-smaller
loop-x-smaller c =
    let h =
    following_on c.args.rows.list.now c.args.rows.formed _ _ c.requires.2 c.requires.3 _ _ _ _ _ _ _ _ _ c.loop-x.invariant
    c.beta-x.ensures c.if-x-eq0.false c.if-x-d.false in
    omega arith

pub loop-x-preserved : goal.loop-x-preserved
loop-x-preserved c =
    following_turn c.args.rows.list.now c.args.rows.formed _ _ c.requires.2 c.requires.3 _ _ _ _ _ _ _ _ _ c.loop-x.invariant
    c.beta-x.ensures c.if-x-eq0.false c.if-x-d.false _ _ c.put.auto.marks c.put.auto.out
    c.put.ensures _ refl
