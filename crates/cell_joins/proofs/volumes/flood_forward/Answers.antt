-- `volumes::flood_forward` meets its contract, by the invariant `Flooding`. Assumes nothing.
use Prim.Native.Nat.{◌<◌}
use native.Mathlib.Omega.{arith}
use mathlib.Core.Path.{refl, sym, ◌∙◌}
use mathlib.Core.Logic.{inl, inr}
use lib.ListN.{get_or}
use Rattle.map_betas.specs.Betas.{darts}
use Rattle.cell_steps.specs.Steps.{volume_linear}
use Rattle.cell_steps.proofs.SearchLaws.{ext_in, visit_ext}
use Rattle.cell_steps.proofs.TurnLaws.{flooding_starts, flooding_turn, flooding_ends, dart_below, count_n}
use Rattle.cell_steps.proofs.ScratchLaws.{scratch_same}
use Rattle.cell_joins.proofs.VolumeLaws.{ahead_starts, ahead_visit, ahead_ends}
use Rattle.cell_joins.proofs.volumes.flood_forward.Goals as goal
use Rattle.cell_joins.proofs.volumes.flood_forward.Goals.{then-beta-eq0, else-beta-eq0}

pub loop-k-init : goal.loop-k-init
loop-k-init c = (
  flooding_starts _ _ _ _ _ _ c.requires.0.marks_n c.requires.2
      c.requires.1,
  ahead_starts _ _ _ _ refl,
  c.requires.3,
  omega arith,
)

-- the dart at k is below the number of darts
pub beta-requires : goal.beta-requires
beta-requires c =
    let below : get_or c.loop-k.queue c.loop-k.k 0 < darts c.args.rows.list.now = dart_below _ _ c.args.marks.now c.args.queue.now _ _ c.requires.0.marks_n _ _ _ _ c.loop-k.invariant.0 c.loop-k-test.true in
    omega (arith, c.args.rows.formed.sized.whole)

pub visit_forward-count-requires : goal.visit_forward-count-requires
visit_forward-count-requires c =
    let below : get_or c.loop-k.queue c.loop-k.k 0 < darts c.args.rows.list.now = dart_below _ _ c.args.marks.now c.args.queue.now _ _ c.requires.0.marks_n _ _ _ _ c.loop-k.invariant.0 c.loop-k-test.true in
    let l = c.loop-k in (
      scratch_same _ c.args.marks.now c.args.queue.now _ _ c.requires.0 l.invariant.0.marks_n l.invariant.0.out_n,
      l.invariant.0.queue,
      below,
      l.invariant.2,
    )

pub loop-k-smaller : goal.loop-k-smaller
loop-k-smaller c =
    let l = c.loop-k in
    let n = count_n _ _ c.args.marks.now c.args.queue.now _ _ c.requires.0.marks_n _ _ _ _ l.invariant.0 in
    let t : l.k < l.count = c.loop-k-test.true in
    omega arith

pub loop-k-preserved : goal.loop-k-preserved
loop-k-preserved c =
    let l = c.loop-k in
    let v = c.visit_forward-count in (
      flooding_turn _ _ c.args.marks.now c.args.queue.now _ _ c.requires.0.marks_n _ _ _ _ l.invariant.0 _ _ _
          c.loop-k-test.true v.auto.marks v.auto.queue v.ensures,
      ahead_visit _ _ _ _ _ l.invariant.3 c.loop-k-test.true l.invariant.0.queue.room _ _ _ v.ensures _ _ l.invariant.1
          (elim c.if-beta-eq0.branch [
            | then-beta-eq0 p ↦ inl (sym c.beta.ensures ∙ p.if-beta-eq0.true, p.ends-is)
            | else-beta-eq0 p ↦ inr (λ z. p.if-beta-eq0.false (c.beta.ensures ∙ z), p.ends-is)
          ]),
      rw v.ensures.front (ext_in (visit_ext _ _ volume_linear _) l.invariant.2),
      omega (arith, l.invariant.3),
    )

pub returns : goal.returns
returns c = (
  flooding_ends _ _ c.args.marks.now c.args.queue.now _ _ c.requires.0.marks_n _ _ _ _ c.loop-k.invariant.0 c.loop-k-test.false,
  ahead_ends _ _ _ _ _ _ c.loop-k.invariant.0.upto c.loop-k-test.false c.loop-k.invariant.1,
)
