-- How many pairs a 3-unsew walks, and how many entries they have.
--   splits_few   a pair has at most three splits
--   pairs_most   no more pairs than twice the places of the rows, and one
--   unsew_most   the entries are the face split, and at most three for each pair
-- Assumes nothing.
use Rattle.std.specs.Prelude.{ℕ, ◌+◌, ◌*◌, ◌≤◌, Bool, true, false, cond, eqb, List, [], ◌∷◌, length}
use native.Mathlib.Omega.{arith}
use lib.ListN.{length-append}
use Rattle.map_betas.specs.Betas.{beta}
use Rattle.sew_pairs.specs.Pairs.{Pairs, pair_entries, entries_of, leg_pairs}
use Rattle.sew_pairs.specs.Three.{first_pairs, first_end, back_pairs, pairs_of, splits_of, three_entries}
use Rattle.sew_pairs.proofs.PairLaws.{pair_few}
use Rattle.sew_pairs.proofs.LegLaws.{pairs_few}

splits_few : (rows : List ℕ) (ps : Pairs) → length (entries_of rows ps) ≤ 3 * length ps
unfolding entries_of
splits_few rows [] = omega arith
splits_few rows (p ∷ ps) =
    omega (arith, splits_few rows ps, pair_few rows p.0 p.1, length-append (pair_entries rows p.0 p.1) (entries_of rows ps))

module _ (rows : List ℕ) (ld rd : ℕ) where
  first_few : length (first_pairs rows ld rd) ≤ length rows
  unfolding first_pairs
  first_few = pairs_few rows 1 0 ld (length rows) (beta rows 1 ld) (beta rows 0 rd)

  back_few : length (back_pairs rows ld rd) ≤ length rows
  unfolding back_pairs
  back_few = go (eqb (first_end rows ld) 0)
    where
      go : (b : Bool) → length (cond b (leg_pairs rows 0 1 0 (beta rows 0 ld) (beta rows 1 rd)) []) ≤ length rows
      go true = pairs_few rows 0 1 0 (length rows) (beta rows 0 ld) (beta rows 1 rd)
      go false = omega arith

  pub pairs_most : length (pairs_of rows ld rd) ≤ 1 + 2 * length rows
  unfolding pairs_of
  pairs_most = omega (arith, first_few, back_few, length-append (first_pairs rows ld rd) (back_pairs rows ld rd))

  pub unsew_most : length (three_entries rows ld rd) ≤ 1 + 3 * length (pairs_of rows ld rd)
  unfolding three_entries splits_of
  unsew_most = omega (arith, splits_few rows (pairs_of rows ld rd))
