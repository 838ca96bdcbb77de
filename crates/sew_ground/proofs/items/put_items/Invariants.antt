-- Reads only the arguments and loop variables of `items::put_items`. What is still to write stands behind what is written.
use Rattle.std.specs.Prelude.{◌≡◌, ◌+◌, length, drop}
use Rattle.sew_ground.specs.Entries.{all_of, written_all}
use Rattle.sew_ground.proofs.items.put_items.Given as goal

abbrev pub invariant-loop-item : goal.invariant-loop-item
invariant-loop-item l = record {
  number : l.next + length (all_of (drop l.item-index l.items)) ≡ l.at + length (all_of l.items);
  plan : written_all l.plan l.next (all_of (drop l.item-index l.items)) ≡ written_all l.initial.plan l.at (all_of l.items);
}
