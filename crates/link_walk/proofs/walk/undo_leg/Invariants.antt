-- `walk::undo_leg` meets its contract. The loop's invariant: what is still to be set back of the rows as they are gives what was to be set back at first.
-- Assumes nothing.
use Prim.Native.Nat.{◌<◌, ◌-◌}
use mathlib.Core.Path.{◌≡◌}
use Rattle.map_betas.specs.Betas.{darts}
use Rattle.link_walk.specs.Undo.{undone, Inside}
use Rattle.link_walk.proofs.walk.undo_leg.Given as goal

abbrev pub invariant-loop : goal.invariant-loop
invariant-loop g l =
    Inside (darts l.initial.rows) l.rows × (l.pair.l < darts l.initial.rows) × (l.pair.r < darts l.initial.rows)
    × (undone g.S.Step.parting (l.steps - l.counter) l.rows l.i l.j l.pair.l l.pair.r
    ≡ undone g.S.Step.parting l.steps l.initial.rows l.i l.j l.fn.first.l l.fn.first.r)
