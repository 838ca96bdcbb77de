-- `cores::search_core` meets its contract: the orbit in the queue, its least, and the queue wiped. Assumes nothing.
use mathlib.Core.Path.{ap, ◌∙◌}
use Rattle.std.specs.Prelude.{ℕ, ◌≡◌, ◌≤◌, List, ◌++◌, length, drop, replicate}
use Rattle.std.proofs.Common.{rules}
use lib.Seq.{length-take-le}
use Rattle.cell_steps.specs.Calls.{wiped}
use native.Mathlib.Omega.{arith}
use Rattle.cell_steps.specs.Idents.{least}
use Rattle.cell_steps.proofs.StepLaws.{class_steps}
use Rattle.cell_steps.proofs.OrbitLaws.{orbit_some}
use Rattle.cell_steps.proofs.SizeLaws.{cell_is}
use Rattle.cell_steps.proofs.TurnLaws.{listed_take, listed_room, listed_drop}
use Rattle.cell_steps.proofs.ScratchLaws.{zero_split, clean_scratch}
use Rattle.cell_cores.proofs.cores.search_core.Goals as goal

pub orbit_core-size-requires : goal.orbit_core-size-requires
orbit_core-size-requires c = (clean_scratch c.args.rows.list.now _ _ c.requires.1, c.requires.0, c.requires.1.marks_0)

pub least-low-requires : goal.least-low-requires
least-low-requires c =
    let o = c.orbit_core-size.ensures.1 in
    let some = orbit_some c.args.rows.list.now c.steps_of-steps.result.codes.now c.args.rows.formed.below c.args.d c.requires.0 in
    omega (arith, o.count, some, length-take-le _ _ (listed_room o))

pub returns-clause-value : goal.returns-clause-value
returns-clause-value c =
    let o = c.orbit_core-size.ensures.1 in
    let s = class_steps c.args.class c.from.result c.from.ensures _ c.steps_of-steps.ensures.1 in
    cell_is c.args.class _ _ _ _ _ (omega (arith, c.requires.2)) s (c.least-low.ensures ∙ ap least (listed_take o)) o.count

pub returns-clause-marks_unchanged : goal.returns-clause-marks_unchanged
returns-clause-marks_unchanged c =
    let o = c.orbit_core-size.ensures.1 in
    let n = c.orbit_core-size.result in
    let queue = c.args.queue.now in
    let out = c.orbit_core-size.new.output in
    let e : n ≤ length queue = omega (arith, listed_room o, c.orbit_core-size.auto.output) in
    let zeros : c.fill.new.self ++ drop n out ≡ wiped n out = search rules in
    (c.orbit_core-size.ensures.0, zeros ∙ ap (λ (t : List ℕ). replicate n 0 ++ t) (listed_drop o) ∙ zero_split queue n c.requires.1.queue_0 e)
