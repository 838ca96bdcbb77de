-- `list::faces_core` meets its contract, by the invariant `Keeping`. Assumes nothing.
use mathlib.Core.Path.{◌≡◌}
use mathlib.Core.List.{◌++◌}
use lib.ListN.{length, drop, replicate}
use Rattle.std.proofs.Common.{rules}
use Rattle.cell_steps.specs.Calls.{wiped}
use native.Mathlib.Omega.{arith}
use Rattle.cell_faces.proofs.KeepingLaws.{keeping_starts, keeping_turn, keeping_ends, keeping_marks, keeping_queue}
use Rattle.cell_face_lists.proofs.list.faces_core.Goals as goal

pub loop-d-init : goal.loop-d-init
loop-d-init c = keeping_starts c.args.rows.list.now c.args.rows.formed c.args.flags.now c.args.marks.now c.args.queue.now c.args.output.now c.requires.3

pub loop-d-preserved : goal.loop-d-preserved
loop-d-preserved c =
    let l = c.loop-d in
    let f = c.test_dart-s in
    let k = c.put_own-count in
    keeping_turn c.args.rows.list.now c.args.rows.formed c.args.flags.now c.args.marks.now c.args.queue.now c.args.output.now _ _ _ _ _ _
    l.invariant _ _ _ _ _ _
    (omega (arith, c.loop-d-test.true, c.requires.0.marks_n)) f.auto.marks f.auto.queue k.auto.output f.ensures k.ensures

pub returns : goal.returns
returns c =
    let l = c.loop-d in
    let n = length c.args.marks.now in
    let zeros : c.fill.new.self ≡ replicate (length l.marks) 0 = search rules in
    let behind : c.fill-2.new.self ++ drop n l.queue ≡ wiped n l.queue = search rules in (
      keeping_marks c.args.rows.list.now c.args.rows.formed c.args.flags.now c.args.marks.now c.args.queue.now c.args.output.now
          _ _ _ _ _ _ l.invariant _ c.requires.3 zeros,
      keeping_queue c.args.rows.list.now c.args.rows.formed c.args.flags.now c.args.marks.now c.args.queue.now c.args.output.now
          _ _ _ _ _ _ l.invariant _ _ c.requires.0.marks_n behind,
      keeping_ends c.args.rows.list.now c.args.rows.formed c.args.flags.now c.args.marks.now c.args.queue.now c.args.output.now
          _ _ _ _ _ _ l.invariant
          (omega (arith, c.loop-d-test.false, c.requires.0.marks_n)) (omega (arith, l.invariant.few, l.invariant.upto, l.invariant.out_n, c.requires.1)),
    )
