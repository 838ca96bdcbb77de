-- What the queue of a list gains with one dart more. Lists ask which darts it then holds, and not in which order.
--   Whole rows steps l          the steps lead from the darts of l to the null dart or into l
--   Joined rows steps d l l'    l' holds l and the whole cell of d, and nothing else
--   Grew                        what the queue holds after d: the same where d was there, and else the cell of d too
--   ended rows l from f         one of the f darts of l from the place `from` on has no beta 1 image
--   Onward rows from l          each dart of l from the place `from` on has one
use Rattle.std.specs.Prelude.{ℕ, zero, suc, ◌+◌, ◌≤◌, ◌<◌, ◌≡◌, ◌⊎◌, Bool, false, ◌||◌, List, eqb, length, get_or, take, drop}
use Rattle.map_betas.specs.Betas.{beta}
use Rattle.cell_steps.specs.Steps.{image}
use Rattle.cell_steps.specs.Search.{In, Reach}
use Rattle.cell_steps.specs.Loans.{Queue}

pub record Whole (rows steps l : List ℕ) : Type 0 where
  pub image_in : (x : ℕ) → In x l → (s : ℕ) → In s steps → (image rows s x ≡ 0) ⊎ In (image rows s x) l

pub record Joined (rows steps : List ℕ) (d : ℕ) (l l' : List ℕ) : Type 0 where
  pub only : (x : ℕ) → In x l' → In x l ⊎ Reach rows steps d x
  pub old : (x : ℕ) → In x l → In x l'
  pub every : (x : ℕ) → Reach rows steps d x → In x l'

pub record Grew (rows steps : List ℕ) (d : ℕ) (queue : List ℕ) (found : ℕ) (marks' queue' : List ℕ) (r : ℕ) : Type 0 where
  pub more : found ≤ r
  pub held : Queue marks' queue' r
  pub back : drop r queue' ≡ drop r queue
  pub same : In d (take found queue) → (r ≡ found) × (take r queue' ≡ take found queue)
  pub new : (In d (take found queue) → ⊥) → (found < r) × Joined rows steps d (take found queue) (take r queue')

unfoldable pub ended : List ℕ → List ℕ → ℕ → ℕ → Bool
ended rows l from zero = false
ended rows l from (suc f) = eqb (beta rows 1 (get_or l (from + f) 0)) 0 || ended rows l from f

pub record Onward (rows : List ℕ) (from : ℕ) (l : List ℕ) : Type 0 where
  pub leads : (i : ℕ) → from ≤ i → i < length l → beta rows 1 (get_or l i 0) ≡ 0 → ⊥
