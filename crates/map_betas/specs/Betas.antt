-- A 3-map as a list of numbers.
--   place i d        the place of the image of dart d by beta i
--   beta rows i d    that image; 0, the null dart, past the end
--   darts rows       how many darts there are, the null dart counted
--   opp i            the beta that leads back from an image by beta i
--   put rows i l r   the rows with l and r linked by beta i
--   cut rows i l r   the rows with l and r unlinked by beta i
use Rattle.std.specs.Prelude.{ℕ, zero, suc, ◌+◌, ◌*◌, ◌/◌, List, length, get_or, set}

-- where the image of d by beta i stands (scope: rows)
abbrev pub place : ℕ → ℕ → ℕ
place i d = 4 * d + i

abbrev pub beta : List ℕ → ℕ → ℕ → ℕ
beta rows i d = get_or rows (place i d) 0

-- how many darts there are, the null dart among them
abbrev pub darts : List ℕ → ℕ
darts rows = length rows / 4

-- 0 and 1 lead back from each other, 2 and 3 from themselves
abbrev pub opp : ℕ → ℕ
opp zero = 1
opp (suc zero) = 0
opp (suc (suc i)) = suc (suc i)

abbrev pub put : List ℕ → ℕ → ℕ → ℕ → List ℕ
put rows i l r = set (set rows (place i l) r) (place (opp i) r) l

abbrev pub cut : List ℕ → ℕ → ℕ → ℕ → List ℕ
cut rows i l r = set (set rows (place i l) 0) (place (opp i) r) 0
