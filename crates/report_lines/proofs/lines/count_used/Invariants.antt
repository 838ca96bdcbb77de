-- `lines::count_used` meets its contract. The loop's invariant: the darts below d are counted. Assumes nothing.
use mathlib.Core.Path.{◌≡◌}
use Prim.Native.Nat.{◌-◌, ◌<◌}
use Rattle.report_lines.specs.Report.{used_up_to}
use Rattle.report_lines.proofs.lines.count_used.Given as goal

abbrev pub invariant-loop-d : goal.invariant-loop-d
invariant-loop-d l = (l.used < l.d) × (l.used ≡ used_up_to l.flags (l.d - 1))
