-- `copy_words` meets its contract. The loop's invariant: the words so far, and the rest as it was. Assumes nothing.
use mathlib.Core.Path.{◌≡◌}
use mathlib.Core.List.{◌++◌}
use Prim.Native.Nat.{◌+◌, ◌*◌}
use lib.ListN.{drop}
use Rattle.image_words.specs.Words.{words_at}
use Rattle.image_fill.proofs.copy_words.Given as goal

abbrev pub invariant-loop-row : goal.invariant-loop-row
invariant-loop-row l = (l.at ≡ l.from + 4 * l.row-index) × (l.row-items ≡ words_at l.bytes l.from l.row-index ++ drop l.row-index l.initial.row-items)
