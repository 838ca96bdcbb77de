-- The 3-unsew of a real dart of a well-formed map.
--   first_pairs rows ld rd          the pairs of the first leg
--   first_end rows ld               the left dart at which it is over: null where the face is open, else ld
--   back_pairs rows ld rd           the pairs of the second leg, which is walked where the face is open
--   pairs_of rows ld rd             all pairs, in the order of the walk
--   walked ds                      one side of the face: the least of its darts that are walked, and how many these are
--   splits_of rows left right ps    the face split and the splits of the pairs
--   three_entries rows ld rd        the entries of the 3-unsew, of the rows after the 3-unlink
--   three_unsew_on rows ld           the whole
use Rattle.std.specs.Prelude.{ℕ, cond, List, [], ◌∷◌, ◌++◌, length, ◌==◌}
use Rattle.map_betas.specs.Betas.{beta}
use Rattle.link_walk.specs.Three.{three_unlink_on}
use Rattle.cell_steps.specs.declared.cells.Cell.{Cell}
use Rattle.cell_steps.specs.declared.cells.Class.TheVariants.{Face}
use Rattle.cell_steps.specs.Idents.{least}
use Rattle.sew_plan.specs.declared.Entry.{Entry}
use Rattle.sew_plan.specs.Plan.{split_of}
use Rattle.sew_ground.specs.Sewn.{Work, work, dart_of}
use Rattle.sew_pairs.specs.Pairs.{Pairs, lefts, rights, entries_of, leg_pairs, leg_end}

-- the pairs of the leg forward from ld, back from rd (scope: 3-link)
unfoldable pub first_pairs : List ℕ → ℕ → ℕ → Pairs
first_pairs rows ld rd = leg_pairs rows 1 0 ld (beta rows 1 ld) (beta rows 0 rd)

unfoldable pub first_end : List ℕ → ℕ → ℕ
first_end rows ld = leg_end rows 1 ld (beta rows 1 ld)

-- the pairs of the leg back from ld, which is walked where the first one came to null
unfoldable pub back_pairs : List ℕ → ℕ → ℕ → Pairs
back_pairs rows ld rd = cond (first_end rows ld == 0) (leg_pairs rows 0 1 0 (beta rows 0 ld) (beta rows 1 rd)) []

-- all pairs of a 3-unsew in the order of its walk: ld and rd, then the legs'
unfoldable pub pairs_of : List ℕ → ℕ → ℕ → Pairs
pairs_of rows ld rd = (ld, rd) ∷ (first_pairs rows ld rd ++ back_pairs rows ld rd)

-- scope: 3-unsew. The darts of a side that are walked, one for each pair.
abbrev pub walked : List ℕ → Cell
walked ds = record { least = least ds; count = length ds }

unfoldable pub splits_of : List ℕ → Cell → Cell → Pairs → List Entry
splits_of rows left right ps = split_of Face left right ∷ entries_of rows ps

-- scope: 3-unsew. The face split of both sides, then each pair's splits.
unfoldable pub three_entries : List ℕ → ℕ → ℕ → List Entry
three_entries rows ld rd = splits_of rows (walked (lefts (pairs_of rows ld rd))) (walked (rights (pairs_of rows ld rd))) (pairs_of rows ld rd)

unfoldable pub three_unsew_on : List ℕ → ℕ → Work
three_unsew_on rows ld =
    work (three_unlink_on rows ld).answer (three_unlink_on rows ld).rows
    (three_entries (three_unlink_on rows ld).rows ld (dart_of (three_unlink_on rows ld).answer))
