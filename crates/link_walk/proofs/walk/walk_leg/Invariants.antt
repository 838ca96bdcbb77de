-- `walk::walk_leg` meets its contract. The loop's invariant: the walk from where it stands, with enough steps allowed, ends as the whole walk does.
-- The measure is how many places of the rows a step can still change. Assumes nothing.
use Prim.Native.Nat.{ℕ, suc, ◌+◌, ◌<◌, ◌≤◌}
use mathlib.Core.Path.{◌≡◌}
use lib.ListN.{length}
use Rattle.map_betas.specs.Betas.{darts}
use Rattle.map_betas.specs.Maps.{WellFormed}
use Rattle.link_walk.specs.Walk.{step_of, walk}
use Rattle.link_walk.proofs.StepLaws.{changeable}
use Rattle.link_walk.proofs.walk.walk_leg.Given as goal

abbrev pub invariant-loop-pair : goal.invariant-loop-pair
invariant-loop-pair g l =
    WellFormed l.rows × (length l.rows ≡ length l.initial.rows) × (l.pair.l < darts l.rows) × (l.pair.r < darts l.rows)
    × (l.steps + changeable g.S.Step.parting l.rows ≤ length l.initial.rows)
    × ((f : ℕ) × (changeable g.S.Step.parting l.rows < f)
    × (walk (step_of g.S.Step.parting l.call.l l.call.r) f l.rows l.i l.j l.stop l.pair.l l.pair.r l.steps
    ≡ walk (step_of g.S.Step.parting l.call.l l.call.r) (suc (length l.initial.rows)) l.initial.rows l.i l.j l.stop l.fn.first.l l.fn.first.r 0))

abbrev pub decreases-loop-pair : goal.decreases-loop-pair
decreases-loop-pair g l = changeable g.S.Step.parting l.rows
