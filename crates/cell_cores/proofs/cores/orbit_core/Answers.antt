-- `cores::orbit_core` meets its contract: a queue of d alone is flooded, and its marks are cleared. Assumes nothing.
use mathlib.Core.Path.{◌∙◌}
use Prim.Native.Nat.{zero-le}
use native.Mathlib.Omega.{arith}
use lib.ListN.{length-set}
use Rattle.cell_steps.proofs.QueueLaws.{cleared_all}
use Rattle.cell_steps.proofs.TurnLaws.{seeded, flooded}
use Rattle.cell_steps.proofs.ScratchLaws.{scratch_same}
use Rattle.cell_cores.proofs.cores.orbit_core.Goals as goal

pub flood-count-requires : goal.flood-count-requires
flood-count-requires c =
    let m = c.args.marks.now in
    let o = c.args.output.now in
    let d = c.args.d in (
      scratch_same _ m o _ _ c.requires.0 (length-set m d 1) (length-set o 0 d),
      seeded d m o (omega (arith, c.requires.0.marks_n, c.requires.1)) (omega (arith, c.requires.0.marks_n, c.requires.0.queue_n)) c.requires.2,
      zero-le,
    )

pub returns : goal.returns
returns c =
    let m = c.args.marks.now in
    let o = c.args.output.now in
    let d = c.args.d in
    let f = c.flood-count in
    let k = c.clear in (
      cleared_all m f.new.marks f.new.out k.new.marks f.result c.requires.2 (f.auto.marks ∙ length-set m d 1)
          k.auto.marks f.ensures.queue k.ensures,
      flooded _ _ d o _ _ _ (omega (arith, c.requires.0.queue_n, c.args.rows.formed.sized.some)) f.ensures,
    )
