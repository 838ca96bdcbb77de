-- The plans of worked examples as numbers, and a plan whose length is no multiple of an entry's. Assumes nothing.
use Prim.Native.Nat.{ℕ}
use mathlib.Core.Path.{◌≡◌, refl}
use mathlib.Core.List.{List, [], ◌∷◌, ◌++◌}
use Rattle.cell_steps.specs.declared.cells.Cell.{Cell}
use Rattle.cell_steps.specs.declared.cells.Class.TheVariants.{Vertex, Edge, Face}
use Rattle.sew_plan.specs.Plan.{merge_of, split_of, written, room_of, plan_of, put_plan}

-- a cell by its name and its size, and the six numbers of an entry
abbrev cell : ℕ → ℕ → Cell
cell name size = record { least = name; count = size }

abbrev six : ℕ → ℕ → ℕ → ℕ → ℕ → ℕ → List ℕ
six code a b c m n = code ∷ a ∷ b ∷ c ∷ m ∷ n ∷ []

-- 2:1,1,3; 1:1,1,4; 1:2,2,3, the plan of a 2-sew of two darts that stand alone in their edges and vertices
pub two_sew_lem : plan_of (merge_of Edge (cell 1 1) (cell 3 1) ∷ merge_of Vertex (cell 1 1) (cell 4 1) ∷ merge_of Vertex (cell 2 1) (cell 3 1) ∷ [])
    ≡ six 2 1 1 3 1 1 ++ six 1 1 1 4 1 1 ++ six 1 2 2 3 1 1
unfolding plan_of merge_of
two_sew_lem = refl

-- 13:1,2,1; 12:1,2,1; 11:0,2,0; 11:1,0,0, the plan of a 3-unsew of one pair: a null end has the size 0
pub three_unsew_lem : plan_of (split_of Face (cell 1 1) (cell 2 1) ∷ split_of Edge (cell 1 1) (cell 2 1) ∷ split_of Vertex (cell 0 0) (cell 2 1)
    ∷ split_of Vertex (cell 1 1) (cell 0 0) ∷ []) ≡ six 13 1 2 1 1 1 ++ six 12 1 2 1 1 1 ++ six 11 0 2 0 0 1 ++ six 11 1 0 0 1 0
unfolding plan_of split_of
three_unsew_lem = refl

-- eight numbers have room for one entry, and the last two stay
pub one_room : room_of (six 7 7 7 7 7 7 ++ (8 ∷ 9 ∷ [])) ≡ 1
one_room = refl

pub remainder : put_plan (merge_of Edge (cell 5 4) (cell 3 2) ∷ []) (six 7 7 7 7 7 7 ++ (8 ∷ 9 ∷ [])) ≡ six 2 3 5 3 4 2 ++ (8 ∷ 9 ∷ [])
unfolding put_plan plan_of merge_of
remainder = refl

-- entry number 1 alone is written over
pub second : written (six 1 1 1 4 1 1 ++ six 7 7 7 7 7 7 ++ (9 ∷ [])) 1 (split_of Vertex (cell 6 3) (cell 2 5)) ≡ six 1 1 1 4 1 1 ++ six 11 6 2 2 3 5 ++ (9 ∷ [])
unfolding written split_of
second = refl
