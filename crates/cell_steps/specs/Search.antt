-- The search, breadth first, and the orbit that it lists.
--   In x l, NoRep l       membership; no repeats
--   mem x l               membership as a test
--   add l x               l with x behind it, where x is neither null nor listed
--   visit rows steps d l  l with what the steps lead to from d
--   search                the visits of a list that is its own queue
--   orbit rows steps d    the orbit of d
--   Step, Reach           one step; any number of steps
--   Symmetric rows steps  each step leads back by a step
use Rattle.std.specs.Prelude.{ℕ, zero, suc, ◌+◌, ◌<◌, ◌≡◌, Bool, false, cond, ◌||◌, ltb, eqb, length, get_or}
use mathlib.Core.List.{List, [], ◌∷◌, ◌++◌, Memᴰ}
use mathlib.Mathlib.Logic.Relation.{ReflTransGenᴰ}
use Rattle.map_betas.specs.Betas.{beta, darts}
use Rattle.cell_steps.specs.Steps.{image}

abbrev pub In : ℕ → List ℕ → Type 0
In x l = Memᴰ x l

abbrev pub NoRep : List ℕ → Type 0
NoRep [] = Unit {0}
NoRep (x ∷ l) = (In x l → ⊥) × NoRep l

unfoldable pub mem : ℕ → List ℕ → Bool
mem x [] = false
mem x (y ∷ ys) = eqb x y || mem x ys

-- an image joins behind what was found before it, unless it is null or was found
unfoldable pub add : List ℕ → ℕ → List ℕ
unfolding mem
add l x = cond (eqb x 0 || mem x l) l (l ++ (x ∷ []))

-- the images of d by each step, in the steps' order (scope: steps)
unfoldable pub visit : List ℕ → List ℕ → ℕ → List ℕ → List ℕ
visit rows [] d l = l
visit rows (s ∷ ss) d l = visit rows ss d (add l (image rows s d))

-- k of the list's darts have been visited; the number before k bounds the visits that are left
unfoldable pub search : List ℕ → List ℕ → ℕ → ℕ → List ℕ → List ℕ
search rows steps zero k l = l
search rows steps (suc f) k l =
    let more = search rows steps f (k + 1) (visit rows steps (get_or l k 0) l) in
    cond (ltb k (length l)) more l

-- scope: orbit. `proofs/OrbitLaws.antt` has that as many visits as there are darts are enough.
unfoldable pub orbit : List ℕ → List ℕ → ℕ → List ℕ
unfolding search
orbit rows steps d = search rows steps (darts rows) 0 (d ∷ [])

-- one of the steps leads from a to b, which is not null
pub record Step (rows steps : List ℕ) (a b : ℕ) : Type 0 where
  pub by : ℕ
  pub listed : Memᴰ by steps
  pub leads : image rows by a ≡ b
  pub real : b ≡ 0 → ⊥

abbrev pub Reach : List ℕ → List ℕ → ℕ → ℕ → Type 0
Reach rows steps d b = ReflTransGenᴰ (Step rows steps) d b

pub record Symmetric (rows steps : List ℕ) : Type 0 where
  pub back : (a b : ℕ) → Step rows steps a b → Step rows steps b a

-- every image is a dart: `WellFormed` has it as its field `below`
abbrev pub Bounded : List ℕ → Type 0
Bounded rows = (i d : ℕ) → beta rows i d < darts rows
