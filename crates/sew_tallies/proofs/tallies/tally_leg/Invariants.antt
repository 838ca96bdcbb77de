-- `tallies::tally_leg` meets its contract. The loop's invariant: the leg from here on gives the whole tally, and marks and queue are as they were.
-- Assumes nothing.
use Prim.Native.Nat.{◌+◌, ◌*◌, ◌<◌, ◌≤◌}
use mathlib.Core.Path.{◌≡◌}
use lib.ListN.{length}
use Rattle.map_betas.specs.Betas.{darts}
use Rattle.sew_pairs.specs.Pairs.{leg_pairs, Over}
use Rattle.sew_tallies.proofs.TallyLaws.{Leg}
use Rattle.sew_tallies.proofs.tallies.tally_leg.Given as goal

abbrev pub invariant-loop-rows : goal.invariant-loop-rows
invariant-loop-rows g l =
    (l.marks ≡ l.initial.marks) × (l.queue ≡ l.initial.queue) × (l.t.l < darts l.rows.list.now) × (l.r < darts l.rows.list.now)
    × (l.t.count + 3 * length (leg_pairs l.rows.list.now l.i l.j l.stop l.t.l l.r) ≤ l.initial.t.count + 3 * length (leg_pairs l.rows.list.now l.i l.j l.stop l.initial.t.l l.initial.r))
    × Over l.rows.list.now l.i l.stop l.t.l × (Leg g.C.Counting.splits l.rows.list.now l.i l.j l.stop l.t l.r ≡ Leg g.C.Counting.splits l.rows.list.now l.i l.j l.stop l.initial.t l.initial.r)

abbrev pub decreases-loop-rows : goal.decreases-loop-rows
decreases-loop-rows g l = length (leg_pairs l.rows.list.now l.i l.j l.stop l.t.l l.r)
