-- Lists that are made one place after the other.
--   listed f n   f 0, f 1 and so on, n of them
use Rattle.std.specs.Prelude.{ℕ, zero, suc, List, [], ◌∷◌, ◌++◌}

-- it grows at its end, as a loan is filled
unfoldable pub listed : {A : Type 0} → (ℕ → A) → ℕ → List A
listed f zero = []
listed f (suc n) = listed f n ++ (f n ∷ [])
