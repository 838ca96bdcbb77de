-- `splits::write_leg` meets its contract. The loop's invariant: what is still to be written, behind what is written, gives the whole; marks and queue
-- are as they were. Assumes nothing.
use Prim.Native.Nat.{◌+◌, ◌<◌}
use mathlib.Core.Path.{◌≡◌}
use lib.ListN.{length}
use Rattle.map_betas.specs.Betas.{darts}
use Rattle.sew_ground.specs.Entries.{written_all}
use Rattle.sew_pairs.specs.Pairs.{entries_of, leg_pairs, Over}
use Rattle.sew_splits.proofs.splits.write_leg.Given as goal

abbrev pub invariant-loop-rows : goal.invariant-loop-rows
invariant-loop-rows l =
    (l.marks ≡ l.initial.marks) × (l.queue ≡ l.initial.queue) × (length l.plan ≡ length l.initial.plan) × (l.l < darts l.rows.list.now) × (l.r < darts l.rows.list.now)
    × (l.at + length (entries_of l.rows.list.now (leg_pairs l.rows.list.now l.i l.j l.stop l.l l.r)) ≡ l.at0 + length (entries_of l.rows.list.now (leg_pairs l.rows.list.now l.i l.j l.stop l.l0 l.r0)))
    × (written_all l.plan l.at (entries_of l.rows.list.now (leg_pairs l.rows.list.now l.i l.j l.stop l.l l.r)) ≡ written_all l.initial.plan l.at0 (entries_of l.rows.list.now (leg_pairs l.rows.list.now l.i l.j l.stop l.l0 l.r0)))
    × Over l.rows.list.now l.i l.stop l.l

abbrev pub decreases-loop-rows : goal.decreases-loop-rows
decreases-loop-rows l = length (leg_pairs l.rows.list.now l.i l.j l.stop l.l l.r)
