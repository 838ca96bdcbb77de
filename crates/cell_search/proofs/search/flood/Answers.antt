-- `search::flood` meets its contract, by the invariant `Flooding`. Assumes nothing.
use Prim.Native.Nat.{◌<◌}
use native.Mathlib.Omega.{arith}
use Rattle.cell_steps.proofs.TurnLaws.{flooding_turn, flooding_ends, dart_below, count_n}
use Rattle.cell_steps.proofs.ScratchLaws.{scratch_same}
use Rattle.cell_search.proofs.search.flood.Goals as goal

pub visit-count-requires : goal.visit-count-requires
visit-count-requires c =
    let l = c.loop-k in (
      scratch_same _ c.args.marks.now c.args.out.now _ _ c.requires.0 l.invariant.marks_n l.invariant.out_n,
      l.invariant.queue,
      dart_below _ _ c.args.marks.now c.args.out.now _ _ c.requires.0.marks_n _ _ _ _ l.invariant c.loop-k-test.true,
    )

pub loop-k-smaller : goal.loop-k-smaller
loop-k-smaller c =
    let l = c.loop-k in
    let n = count_n _ _ c.args.marks.now c.args.out.now _ _ c.requires.0.marks_n _ _ _ _ l.invariant in
    let t : l.k < l.count = c.loop-k-test.true in
    omega arith

pub loop-k-preserved : goal.loop-k-preserved
loop-k-preserved c =
    let l = c.loop-k in
    let v = c.visit-count in
    flooding_turn _ _ c.args.marks.now c.args.out.now _ _ c.requires.0.marks_n _ _ _ _ l.invariant _ _ _ c.loop-k-test.true
    v.auto.marks v.auto.out v.ensures

pub returns : goal.returns
returns c = flooding_ends _ _ c.args.marks.now c.args.out.now _ _ c.requires.0.marks_n _ _ _ _ c.loop-k.invariant c.loop-k-test.false
