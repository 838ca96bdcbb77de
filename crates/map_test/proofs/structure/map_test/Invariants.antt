-- `structure::map_test` meets its contract. The loop's invariant: what the search still to come finds is what the test says. Assumes nothing.
use mathlib.Core.Path.{◌≡◌}
use Prim.Native.Nat.{◌-◌, ◌≤◌, ◌<◌}
use lib.ListN.{length}
use Rattle.map_betas.specs.Betas.{darts}
use Rattle.map_betas.specs.Maps.{Sized, NullRow, first_breach, map_test}
use Rattle.map_test.proofs.structure.map_test.Given as goal

abbrev pub invariant-loop-d : goal.invariant-loop-d
invariant-loop-d l = Sized l.rows × (l.n ≡ darts l.rows) × (l.d ≤ l.n) × (map_test l.rows l.flags ≡ first_breach (l.n - l.d) l.rows l.flags l.d) × (0 < l.d) × NullRow l.rows × (l.n ≤ length l.flags)

abbrev pub decreases-loop-d : goal.decreases-loop-d
decreases-loop-d l = l.n - l.d
