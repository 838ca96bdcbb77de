-- `coordinate_at` meets its contract: a finite pattern is no NaN's. Assumes nothing.
use mathlib.Core.Path.{ap, sym, subst}
use Prim.Native.Nat.{ℕ}
use mathlib.Core.Bool.{not}
use lib.Dec.{T}
use lib.Ieee.{binary64, of_bits, nan_bits}
use Rattle.image_words.specs.Words.{coordinate_at}
use Rattle.image_words.proofs.Patterns.{no_nan}
use Rattle.image_words.proofs.coordinate_at.Goals as goal

pub float_from_bits-result : goal.float_from_bits-result
unfolding coordinate_at
float_from_bits-result c = subst (λ (n : ℕ). T (not (nan_bits binary64 n))) (sym c.long_at.ensures) (no_nan _ c.requires.1)

pub returns : goal.returns
unfolding coordinate_at
returns c = ap (of_bits binary64) c.long_at.ensures
