-- `pairs::pair_items` meets its contract: the three splits of a pair. Assumes nothing.
use Rattle.sew_pairs.proofs.PairLaws.{pair_is}
use Rattle.sew_pairs.proofs.pairs.pair_items.Goals as goal

pub returns-clause-result_value : goal.returns-clause-result_value
returns-clause-result_value c =
    pair_is _ _ _ _ c.split_item-first.result c.split_item-second.result c.open_item-third.result
    c.split_item-first.ensures.result_value c.far_of-far.ensures.0 c.split_item-second.ensures.result_value
    c.open_item-third.ensures.result_value
