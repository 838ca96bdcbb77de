-- `list_by` meets its contract, by the invariant `Listing`. Assumes nothing.
use mathlib.Core.Path.{◌≡◌, ap, ◌∙◌}
use Prim.Native.Nat.{ℕ, ◌≤◌}
use native.Mathlib.Omega.{arith}
use lib.ListN.{length, set, drop, replicate, length-set}
use mathlib.Core.List.{◌++◌}
use Rattle.std.proofs.Common.{rules}
use Rattle.map_betas.specs.Betas.{darts}
use Rattle.cell_steps.specs.Calls.{wiped}
use Rattle.cell_steps.proofs.QueueLaws.{queue_n}
use Rattle.cell_steps.proofs.ScratchLaws.{scratch_same}
use Rattle.cell_lists.proofs.ListingLaws.{begun, listing_starts, listing_closed, listing_turn, listing_ends, marks_same, queue_wiped}
use Rattle.cell_lists.proofs.list_by.Goals as goal

pub loop-d-init : goal.loop-d-init
loop-d-init c =
    let g = begun c.args.marks.now c.args.queue.now c.requires.2 (omega (arith, c.requires.0.marks_n, c.args.rows.formed.below 0 0))
    (omega (arith, c.requires.0.marks_n, c.requires.0.queue_n)) in
    listing_starts _ _ _ _ _ _ c.args.rows.formed.below c.requires.1 (length-set c.args.marks.now 0 1 ∙ c.requires.0.marks_n) g.0 g.1

pub grow-more-requires : goal.grow-more-requires
grow-more-requires c =
    let l = c.loop-d in (
      scratch_same _ c.args.marks.now c.args.queue.now _ _ c.requires.0 (l.invariant.marks_n ∙ length-set c.args.marks.now 0 1)
          (l.invariant.queue_same ∙ length-set c.args.queue.now 0 0),
      l.invariant.held,
      l.invariant.some,
      omega (arith, c.loop-d-test.true, c.requires.0.marks_n),
      listing_closed _ _ c.args.flags.now (set c.args.marks.now 0 1) (set c.args.queue.now 0 0) c.args.output.now
          c.args.rows.formed.below c.requires.1 (length-set c.args.marks.now 0 1 ∙ c.requires.0.marks_n) _ _ _ _ _ _ l.invariant
          (omega (arith, c.loop-d-test.true, c.requires.0.marks_n)),
      l.invariant.null_there,
    )

pub loop-d-preserved : goal.loop-d-preserved
loop-d-preserved c =
    let l = c.loop-d in
    let g = c.grow-more in
    let p = c.put_own-count in
    listing_turn _ _ c.args.flags.now (set c.args.marks.now 0 1) (set c.args.queue.now 0 0) c.args.output.now
    c.args.rows.formed.below c.requires.1 (length-set c.args.marks.now 0 1 ∙ c.requires.0.marks_n) _ _ _ _ _ _ l.invariant _ _ _ _ _
    (omega (arith, c.loop-d-test.true, c.requires.0.marks_n))
    g.auto.marks g.auto.queue p.auto.output g.ensures p.ensures

pub returns : goal.returns
returns c =
    let l = c.loop-d in
    let n : ℕ = length c.args.marks.now in
    let e : n ≡ darts c.args.rows.list.now = c.requires.0.marks_n in
    let f : l.found ≤ n = omega (arith, queue_n l.marks l.queue l.found l.invariant.held, l.invariant.marks_n, length-set c.args.marks.now 0 1) in
    let zeros : c.fill.new.self ≡ replicate (length l.marks) 0 = search rules in
    let behind : c.fill-2.new.self ++ drop n l.queue ≡ wiped n l.queue = search rules in (
      marks_same c.args.marks.now l.marks _ c.requires.2 (l.invariant.marks_n ∙ length-set c.args.marks.now 0 1) zeros,
      queue_wiped n l.found c.args.queue.now l.queue _ (omega (arith, c.requires.0.marks_n, c.args.rows.formed.below 0 0)) f l.invariant.behind
          behind ∙ ap (λ (k : ℕ). wiped k c.args.queue.now) e,
      listing_ends _ _ c.args.flags.now (set c.args.marks.now 0 1) (set c.args.queue.now 0 0) c.args.output.now
          c.args.rows.formed.below c.requires.1 (length-set c.args.marks.now 0 1 ∙ c.requires.0.marks_n) _ _ _ _ _ _ l.invariant
          (omega (arith, c.loop-d-test.false, c.requires.0.marks_n)) (omega (arith, l.invariant.few, l.invariant.upto, l.invariant.out_n, c.requires.3)),
    )
