-- `one::one_item` meets its contract. Assumes nothing.
use Rattle.sew_ground.proofs.EndLaws.{one_items_are}
use Rattle.sew_one.proofs.one.one_item.Goals as goal

pub returns-clause-result_value : goal.returns-clause-result_value
returns-clause-result_value c =
    one_items_are _ _ _ _ _ _ _ _ _ _ c.beta.ensures c.beta-2.ensures c.max-far.ensures
    c.cell_core-vl.ensures.value c.cell_core-vr.ensures.value c.item_if.ensures
