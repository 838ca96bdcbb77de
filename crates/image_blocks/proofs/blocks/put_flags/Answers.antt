-- `blocks::put_flags` meets its contract. The loop's invariant: the flags so far are laid. Assumes nothing.
use mathlib.Core.Path.{refl, ap}
use native.Mathlib.Omega.{arith}
use lib.ListN.{take, set}
use Rattle.image_store.proofs.Stored.{each_none, each_step}
use Rattle.image_blocks.specs.Image.{bit}
use Rattle.image_blocks.proofs.blocks.put_flags.Goals as goal

pub loop-flag-init : goal.loop-flag-init
loop-flag-init c = (omega arith, each_none bit c.args.bytes.now c.args.from (take c.args.n c.args.flags.now))

pub loop-flag-preserved : goal.loop-flag-preserved
loop-flag-preserved c = (
  omega arith,
  each_step bit 1 (λ x. refl) 0 (take c.args.n c.args.flags.now) c.loop-flag.flag-index c.args.bytes.now c.loop-flag.bytes _ c.args.from c.loop-flag.at
      (omega arith) (omega arith) c.loop-flag.invariant.1 (ap (λ b. set c.loop-flag.bytes c.loop-flag.at b) c.bit_of.ensures.0),
)
