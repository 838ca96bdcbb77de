-- What sets a walk back after a refusal.
--   undone parting k rows i j l r   the rows with k pairs, from l and r on, as they were before their steps
--   Inside n rows              rows of n darts whose images are all darts: what is kept in between, when the rows are no map
use Rattle.std.specs.Prelude.{ℕ, zero, suc, ◌*◌, ◌<◌, ◌≡◌, List, Bool, cond, length, get_or, set}
use Rattle.map_betas.specs.Betas.{beta, place}

-- Before a step of a link its pair was free; before a step of an unlink it was linked.
unfoldable pub undone : Bool → ℕ → List ℕ → ℕ → ℕ → ℕ → ℕ → List ℕ
undone parting zero rows i j l r = rows
undone parting (suc k) rows i j l r =
    undone parting k (set (set rows (place 3 l) (cond parting r 0)) (place 3 r) (cond parting l 0)) i j (beta rows i l) (beta rows j r)

pub record Inside (n : ℕ) (rows : List ℕ) : Type 0 where
  pub whole : length rows ≡ 4 * n
  pub below : (k : ℕ) → get_or rows k 0 < n
