-- The list of a class's cells, by any identifier.
--   cells_from id flags d f   of the f darts from d on, those that are not unused and are their own identifier
--   cells_by id n flags       the whole list of a map of n darts
--   cell_list rows steps flags   the list by the least dart of the orbit under the steps
--   Ascending l              each number of l is below those behind it
--   Put                      a dart put behind an output's first places, or not
use Rattle.std.specs.Prelude.{ℕ, zero, suc, ◌+◌, ◌-◌, ◌≤◌, ◌<◌, ◌≡◌, Bool, cond, ◌&&◌, List, [], ◌∷◌, ◌++◌, eqb, get_or, take, drop}
use Rattle.map_betas.specs.Betas.{darts}
use Rattle.cell_steps.specs.Search.{In}
use Rattle.cell_steps.specs.Idents.{ident}

-- the first f darts from d on that are in use and are their own identifier; a flag that is not 0 means unused (scope: flags)
unfoldable pub cells_from : (ℕ → ℕ) → List ℕ → ℕ → ℕ → List ℕ
cells_from id flags d zero = []
cells_from id flags d (suc f) =
    let rest = cells_from id flags (d + 1) f in
    cond (eqb (get_or flags d 0) 0 && eqb (id d) d) (d ∷ rest) rest

-- scope: list. Dart 0 is never listed.
unfoldable pub cells_by : (ℕ → ℕ) → ℕ → List ℕ → List ℕ
unfolding cells_from
cells_by id n flags = cells_from id flags 1 (n - 1)

abbrev pub cell_list : List ℕ → List ℕ → List ℕ → List ℕ
cell_list rows steps flags = cells_by (ident rows steps) (darts rows) flags

abbrev pub Ascending : List ℕ → Type 0
Ascending [] = Unit {0}
Ascending (x ∷ l) = ((y : ℕ) → In y l → x < y) × Ascending l

-- x behind the first count places where `wanted`, and the rest as it was
pub record Put (wanted : Bool) (x : ℕ) (out : List ℕ) (count : ℕ) (out' : List ℕ) (r : ℕ) : Type 0 where
  pub front : take r out' ≡ take count out ++ cond wanted (x ∷ []) []
  pub back : drop r out' ≡ drop r out
  pub more : count ≤ r
  pub one : r ≤ count + 1
