-- `walk::walk_leg` meets its contract. The loop's invariant: the walk from where it stands, with enough steps allowed, ends as the whole walk does.
-- The measure is how many places of the rows a step can still change. Assumes nothing.
use native.Mathlib.Omega.{arith}
use Prim.Native.Nat.{suc, ◌-◌}
use mathlib.Core.Path.{refl, sym, ◌∙◌}
use lib.ListN.{length}
use Rattle.link_walk.proofs.StepLaws.{changeable_le}
use Rattle.link_walk.proofs.WalkLaws.{walk_refuse, walk_next}
use Rattle.link_walk.proofs.UndoLaws.{turn}
use Rattle.link_walk.proofs.walk.walk_leg.Goals as goal

pub loop-pair-init : goal.loop-pair-init
loop-pair-init g c =
    let z = changeable_le g.S.Step.parting c.args.rows.now in
    (c.requires.0, refl, c.requires.3, c.requires.4, omega arith, (suc (length c.args.rows.now), omega arith, refl))

pub returns-in-Err : goal.returns-in-Err
returns-in-Err g c =
    let v = c.loop-pair.invariant in
    walk_refuse _ _ _ _ _ _ _ _ _ (omega (arith, v.5.1)) c.loop-pair-test.true c.if-pair-stop.true _ _ c.in-Err.ensures refl ∙ v.5.2

pub loop-pair-smaller : goal.loop-pair-smaller
loop-pair-smaller g c =
    let v = c.loop-pair.invariant in
    (turn _ _ _ _ _ _ _ _ v.0 v.2 v.3 c.loop-pair-test.true c.in_default.ensures refl).2

pub loop-pair-preserved : goal.loop-pair-preserved
loop-pair-preserved g c =
    let v = c.loop-pair.invariant in
    let n = c.next-pair.ensures in
    let t = turn _ _ _ _ _ _ _ _ v.0 v.2 v.3 c.loop-pair-test.true c.in_default.ensures refl in (
      t.0,
      t.1 ∙ v.1,
      rw n.l (t.0.below _ _),
      rw n.r (t.0.below _ _),
      omega (arith, v.4, t.2),
      (
        v.5.0 - 1,
        omega (arith, v.5.1, t.2),
        sym (walk_next _ _ _ _ _ _ _ _ _ (omega (arith, v.5.1)) c.loop-pair-test.true c.if-pair-stop.true _ _ c.in_default.ensures _
            _ refl n.l n.r)
            ∙ v.5.2,
      ),
    )
