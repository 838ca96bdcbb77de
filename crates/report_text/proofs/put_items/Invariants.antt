-- `put_items` meets its contract. The loop's invariant: the first i numbers are written. Assumes nothing.
use mathlib.Core.Path.{◌≡◌}
use Rattle.report_text.specs.Texts.{put, lay, items_of}
use Rattle.report_text.proofs.put_items.Given as goal

abbrev pub invariant-loop-x : goal.invariant-loop-x
invariant-loop-x l = put l.p l.out ≡ lay l.initial.out l.at (items_of l.list l.x-index)
