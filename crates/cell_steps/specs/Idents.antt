-- The least dart of an orbit, and how many darts it has.
--   least_from x l       the least of x and the list l
--   least l             the least of a list; 0 of none
--   ident rows steps d  the least dart of the orbit of d: its cell's identifier
--   size_of class rows d how many darts d's cell has
--   cell_of class rows d the identifier and the size of d's cell, as the core returns them
use Rattle.std.specs.Prelude.{ℕ, min, cond, List, [], ◌∷◌, eqb, length}
use Rattle.cell_steps.specs.declared.cells.Class.{Class}
use Rattle.cell_steps.specs.declared.cells.Cell.{Cell}
use Rattle.cell_steps.specs.Steps.{cell_steps}
use Rattle.cell_steps.specs.Search.{orbit}

unfoldable pub least_from : ℕ → List ℕ → ℕ
least_from x [] = x
least_from x (y ∷ l) = least_from (min x y) l

unfoldable pub least : List ℕ → ℕ
unfolding least_from
least [] = 0
least (x ∷ l) = least_from x l

-- scope: identifier. The orbit of 0 is 0 alone, and so its identifier is 0.
unfoldable pub ident : List ℕ → List ℕ → ℕ → ℕ
ident rows steps d = least (orbit rows steps d)

-- scope: identifier. As many as the orbit has; the null dart is of no cell, and its size is 0.
unfoldable pub size_of : Class → List ℕ → ℕ → ℕ
size_of class rows d = cond (eqb d 0) 0 (length (orbit rows (cell_steps class) d))

abbrev pub cell_of : Class → List ℕ → ℕ → Cell
cell_of class rows d = record { least = ident rows (cell_steps class) d; count = size_of class rows d }
