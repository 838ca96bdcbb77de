-- `blocks::records_good` meets its contract. The loop's invariant: what the records still to come say is what all of them say. Assumes nothing.
use mathlib.Core.Path.{◌≡◌}
use Prim.Native.Nat.{◌+◌, ◌*◌, ◌-◌}
use Rattle.image_form.specs.Tests.{records_good}
use Rattle.image_checks.proofs.blocks.records_good.Given as goal

abbrev pub invariant-loop-k : goal.invariant-loop-k
invariant-loop-k l = records_good l.v l.bytes l.n l.from 0 ≡ records_good (l.v - l.k) l.bytes l.n (l.from + 28 * l.k) l.last
