-- `items::count` meets its contract: what is there is counted. Assumes nothing.
use Rattle.std.proofs.Common.{rules, tests, ◌∙◌}
use Rattle.std.specs.Prelude.{is_some}
use Rattle.std.proofs.lemmas.Iterator.{YieldsList-from_slice}
use Rattle.std.proofs.lemmas.Iterator.Consumers.{YieldsList-from_filter, count_from_yields_List}
use native.Mathlib.Omega.{arith}
use Rattle.sew_ground.proofs.EntryLaws.{all_counted}
use Rattle.sew_ground.proofs.items.count.Goals as goal

pub returns : goal.returns
returns c =
    let h = all_counted c.args.items.now in
    let e = count_from_yields_List c.filter.result c.count.result c.count.ensures.ran
    (YieldsList-from_filter _ is_some (YieldsList-from_slice c.args.items.now cc) c.filter.ensures.closure (λ x r q k. search (rules, tests))) ∙ h.0 in
    (e, omega arith)
