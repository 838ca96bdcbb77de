-- `pairs::open_item` meets its contract. Assumes nothing.
use Rattle.sew_pairs.proofs.PairLaws.{open_none}
use Rattle.sew_pairs.proofs.pairs.open_item.Goals as goal

pub returns-then-beta-ne0-clause-result_value :
    goal.returns-then-beta-ne0-clause-result_value
returns-then-beta-ne0-clause-result_value c =
    open_none c.args.rows.list.now c.args.l _ c.beta.ensures _ _ c.if-beta-ne0.true
