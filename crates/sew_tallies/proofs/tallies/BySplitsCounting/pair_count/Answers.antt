-- `tallies::pair_count`, by splits, meets its contract. Assumes nothing.
use native.Mathlib.Omega.{arith}
use mathlib.Core.Path.{refl, ap}
use mathlib.Core.List.{List}
use lib.ListN.{length}
use Rattle.sew_plan.specs.declared.Entry.{Entry}
use Rattle.sew_pairs.proofs.PairLaws.{pair_few}
use Rattle.sew_tallies.proofs.TallyLaws.{pair_splits}
use Rattle.sew_tallies.proofs.tallies.BySplitsCounting.pair_count.Goals as goal

pub returns-clause-value : goal.returns-clause-value
returns-clause-value c =
    let e = c.pair_items.ensures.result_value in (
      pair_splits _ _ _ _ _ _ refl c.count.ensures.0 e,
      omega (arith, ap (λ (x : List Entry). length x) e, pair_few c.args.rows.list.now c.args.l c.args.r),
    )
