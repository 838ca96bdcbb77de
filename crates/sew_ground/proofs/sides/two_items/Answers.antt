-- `sides::two_items` meets its contract. Assumes nothing.
use Rattle.sew_ground.specs.Two.{two_entries}
use Rattle.sew_ground.proofs.EntryLaws.{three_items}
use Rattle.sew_ground.proofs.sides.two_items.Goals as goal

pub returns : goal.returns
unfolding two_entries
returns c =
    three_items c.item_if-first.result c.item_if-second.result c.item_if-third.result _ _ _ c.item_if-first.ensures
    c.item_if-second.ensures c.item_if-third.ensures
