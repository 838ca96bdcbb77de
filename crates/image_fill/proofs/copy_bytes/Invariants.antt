-- `copy_bytes` meets its contract. The loop's invariant: the bytes so far, and the rest as it was. Assumes nothing.
use mathlib.Core.Path.{◌≡◌}
use mathlib.Core.List.{◌++◌}
use Prim.Native.Nat.{◌+◌}
use lib.ListN.{drop}
use Rattle.image_words.specs.Words.{bytes_at}
use Rattle.image_fill.proofs.copy_bytes.Given as goal

abbrev pub invariant-loop-flag : goal.invariant-loop-flag
invariant-loop-flag l = (l.at ≡ l.from + l.flag-index) × (l.flag-items ≡ bytes_at l.bytes l.from l.flag-index ++ drop l.flag-index l.initial.flag-items)
