-- `items::item_if` meets its contract: each return is a case of `entries_if`. Assumes nothing.
use Rattle.sew_ground.proofs.EntryLaws.{none_asked, none_differs, one_differs}
use Rattle.sew_ground.proofs.items.item_if.Goals as goal

pub returns-then-not-asked : goal.returns-then-not-asked
returns-then-not-asked c = none_asked c.args.asked _ _ _ _ c.if-not-asked.true

pub returns-then-left-right : goal.returns-then-left-right
returns-then-left-right c = none_differs c.args.asked _ _ _ _ c.if-not-asked.false c.if-left-right.true

pub returns : goal.returns
returns c = one_differs c.args.asked _ _ _ _ _ c.if-not-asked.false c.if-left-right.false c.entry_of.ensures
