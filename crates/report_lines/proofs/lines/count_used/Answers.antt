-- `lines::count_used` meets its contract. The loop's invariant: the darts below d are counted. Assumes nothing.
use native.Mathlib.Decide.{ℕ_discrete}
use native.Mathlib.Omega.{arith}
use mathlib.Core.Logic.{◌≢◌, by_cases}
use mathlib.Core.Path.{◌≡◌}
use lib.ListN.{get_or}
use Rattle.report_lines.proofs.LineLaws.{used_start, used_yes, used_no}
use Rattle.report_lines.proofs.lines.count_used.Goals as goal

pub loop-d-init : goal.loop-d-init
loop-d-init c = (omega arith, used_start c.args.flags.now)

pub loop-d-preserved : goal.loop-d-preserved
loop-d-preserved c = (
  omega arith,
  by_cases (ℕ_discrete (get_or c.args.flags.now c.loop-d.d 0) 0)
      (λ (z : get_or c.args.flags.now c.loop-d.d 0 ≡ 0).
      let y = used_yes c.args.flags.now c.loop-d.d c.loop-d.used (omega arith) c.loop-d.invariant.1 z in omega arith)
      (λ (z : get_or c.args.flags.now c.loop-d.d 0 ≢ 0).
      let y = used_no c.args.flags.now c.loop-d.d c.loop-d.used (omega arith) c.loop-d.invariant.1 z in omega arith),
)
