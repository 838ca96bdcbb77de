-- What a 3-unsew has to know before it writes: the least darts of its pairs, and how many pairs there are, or how many splits they have.
--   pair_count splits rows l r    what one pair counts for: its splits, or one
--   count_of splits rows ps       and a list of pairs
--   tallied splits rows t ps l   the tally t with the pairs ps more, standing at l
--   tally_of splits rows ld rd    the tally of all pairs of a 3-unsew
use Rattle.std.specs.Prelude.{ℕ, ◌+◌, Bool, cond, List, [], ◌∷◌, length}
use Rattle.cell_steps.specs.Idents.{least_from}
use Rattle.sew_pairs.specs.Pairs.{Pairs, lefts, rights, pair_entries}
use Rattle.sew_pairs.specs.Three.{first_end, pairs_of}
use Rattle.sew_tallies.specs.declared.tallies.Tally.{Tally}

unfoldable pub pair_count : Bool → List ℕ → ℕ → ℕ → ℕ
pair_count splits rows l r = cond splits (length (pair_entries rows l r)) 1

unfoldable pub count_of : Bool → List ℕ → Pairs → ℕ
count_of splits rows [] = 0
count_of splits rows (p ∷ ps) = pair_count splits rows p.0 p.1 + count_of splits rows ps

unfoldable pub tallied : Bool → List ℕ → Tally → Pairs → ℕ → Tally
tallied splits rows t ps l =
    record {
      left = least_from t.left (lefts ps);
      right = least_from t.right (rights ps);
      count = t.count + count_of splits rows ps;
      l = l;
    }

unfoldable pub tally_of : Bool → List ℕ → ℕ → ℕ → Tally
tally_of splits rows ld rd =
    tallied splits rows (record { left = ld; right = rd; count = 0; l = ld }) (pairs_of rows ld rd) (first_end rows ld)
