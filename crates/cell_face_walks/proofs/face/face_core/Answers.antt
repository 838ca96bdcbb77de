-- `face::face_core` meets its contract: the walk with nothing marked before, and scratch set back. Assumes nothing.
use mathlib.Core.Path.{◌≡◌, ap, ◌∙◌}
use mathlib.Core.List.{List, ◌++◌}
use Prim.Native.Nat.{ℕ, ◌≤◌}
use native.Mathlib.Omega.{arith}
use lib.ListN.{length, drop, replicate}
use Rattle.std.proofs.Common.{rules}
use Rattle.cell_steps.specs.Calls.{wiped}
use Rattle.cell_steps.proofs.QueueLaws.{queue_none, cleared_all}
use Rattle.cell_steps.proofs.ScratchLaws.{zero_split}
use Rattle.cell_faces.specs.Faces.{face_id}
use Rattle.cell_face_walks.proofs.face.face_core.Goals as goal

pub walk-w-requires : goal.walk-w-requires
walk-w-requires c = (c.requires.0, c.requires.1, queue_none _ _ c.requires.2)

pub returns : goal.returns
unfolding face_id
returns c =
    let w = c.walk-w in
    let k = c.clear in
    let g = w.ensures.grown in
    let f : w.result.k ≤ length c.args.queue.now = omega (arith, g.queue.room, w.auto.queue) in
    let zeros : c.fill.new.self ++ drop w.result.k w.new.queue ≡ wiped w.result.k w.new.queue = search rules in (
      cleared_all c.args.marks.now w.new.marks w.new.queue k.new.marks w.result.k c.requires.2 w.auto.marks k.auto.marks g.queue
          k.ensures,
      zeros ∙ ap (λ (t : List ℕ). replicate w.result.k 0 ++ t) g.back
          ∙ zero_split c.args.queue.now w.result.k c.requires.3 f,
      w.ensures.low_is,
    )
