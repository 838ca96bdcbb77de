-- `edges::walk_arm` meets its contract, by the invariant `Going`. Assumes nothing.
use mathlib.Core.Path.{refl}
use mathlib.Core.Logic.{inl, inr}
use native.Mathlib.Omega.{arith}
use Rattle.cell_edges.proofs.ArmLaws.{edge_less}
use Rattle.cell_edges.proofs.CoreLaws.{going_starts, going_on, going_turn, going_ends}
use Rattle.cell_edges.proofs.edges.walk_arm.Goals as goal
use Rattle.cell_edges.proofs.edges.walk_arm.Goals.{then-x-eq0-via-then-x-eq0, then-x-eq0-via-else-x-eq0+then-x-d}

pub loop-x-init : goal.loop-x-init
loop-x-init c = going_starts c.args.rows.list.now c.args.rows.formed _ _ _ _ c.requires.0 c.requires.1

pub beta-x-requires : goal.beta-x-requires
beta-x-requires c =
    let v = c.loop-x.invariant.along in
    omega (arith, v.below, c.args.rows.formed.sized.whole, edge_less v.by_edge)

pub returns-then-x-eq0 : goal.returns-then-x-eq0
returns-then-x-eq0 c =
    going_ends c.args.rows.list.now c.args.rows.formed _ _ _ _ c.requires.0 c.requires.1 _ _ _ _ _ c.loop-x.invariant c.beta-x.ensures
    (elim c.then-x-eq0.branch [
      | then-x-eq0-via-then-x-eq0 t ↦ inl t.if-x-eq0.true
      | then-x-eq0-via-else-x-eq0+then-x-d t ↦ inr t.if-x-d.true
    ])

pub overflow_sub-by : goal.overflow_sub-by
overflow_sub-by c = omega (arith, edge_less c.loop-x.invariant.along.by_edge)

pub loop-x-smaller : goal.loop-x-smaller
loop-x-smaller c =
    let h =
    going_on c.args.rows.list.now c.args.rows.formed _ _ _ _ c.requires.0 c.requires.1 _ _ _ _ _ c.loop-x.invariant c.beta-x.ensures
    c.if-x-eq0.false c.if-x-d.false in
    omega arith

pub loop-x-preserved : goal.loop-x-preserved
loop-x-preserved c =
    going_turn c.args.rows.list.now c.args.rows.formed _ _ _ _ c.requires.0 c.requires.1 _ _ _ _ _ c.loop-x.invariant c.beta-x.ensures
    c.if-x-eq0.false c.if-x-d.false _ _ (omega (arith, c.min.ensures)) refl
