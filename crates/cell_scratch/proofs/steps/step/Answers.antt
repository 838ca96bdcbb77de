-- `steps::step` meets its contract: an image, and a push. Assumes nothing.
use native.Mathlib.Omega.{arith}
use Prim.Native.Nat.{◌<◌}
use Rattle.map_betas.specs.Betas.{darts}
use Rattle.cell_steps.proofs.OrbitLaws.{image_below}
use Rattle.cell_scratch.proofs.steps.step.Goals as goal

pub push-requires : goal.push-requires
push-requires c =
    let x : c.image-x.result < darts c.args.rows.list.now = rw c.image-x.ensures
    (image_below _ c.args.rows.formed.below _ _) in
    (c.requires.1, omega (arith, c.requires.0.marks_n), omega (arith, c.requires.0.marks_n, c.requires.0.queue_n))
