-- `finite_at` meets its contract: what it tests is that the pattern is finite. Assumes nothing.
use mathlib.Core.Path.{ap, ◌∙◌}
use Prim.Native.Nat.{ℕ, ◌%◌}
use lib.Dec.{ltb}
use Rattle.image_words.specs.Words.{coordinate_at}
use Rattle.image_words.proofs.Patterns.{finite_test}
use Rattle.image_words.proofs.finite_at.Goals as goal

pub returns : goal.returns
unfolding coordinate_at
returns c = ap (λ (n : ℕ). ltb (n % 0x8000_0000_0000_0000) 0x7ff0_0000_0000_0000) c.long_at.ensures ∙ finite_test _
