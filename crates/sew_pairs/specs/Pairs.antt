-- The pairs of darts that a 3-unsew parts, in the order of its walk, and the splits of a pair.
--   three_far rows d                 M(beta 1, beta 2 of d)
--   pair_entries rows l r            the splits of one pair
--   Pairs, lefts, rights            a list of pairs, its left darts and its right ones
--   entries_of rows ps               the splits of a list of pairs
--   leg_over l stop                  a leg is over at l
--   pairs_from, end_from              the pairs of a leg, at most f, and the left dart at which it is over
--   leg_pairs, leg_end                the same with as many pairs as the rows have places
--   Over rows i stop l              a leg is over before it has so many
-- A leg goes from l and r, l on by beta i and r on by beta j, until l is null or at `stop`. No leg of a 3-unsew is cut short (`proofs/Ends.antt`).
use Rattle.std.specs.Prelude.{max, ◌≡◌, ℕ, zero, suc, Bool, true, cond, ◌||◌, List, [], ◌∷◌, ◌++◌, length, ◌==◌}
use Rattle.map_betas.specs.Betas.{beta}
use Rattle.cell_steps.specs.declared.cells.Class.TheVariants.{Vertex, Edge}
use Rattle.cell_steps.specs.Idents.{cell_of}
use Rattle.sew_plan.specs.declared.Kind.TheVariants.{Split}
use Rattle.sew_plan.specs.declared.Entry.{Entry}
use Rattle.sew_ground.specs.Entries.{entries_if}

-- the far end of a dart in a 3-unsew: by beta 1, or by beta 2 where that is the larger (scope: far end)
unfoldable pub three_far : List ℕ → ℕ → ℕ
three_far rows d = max (beta rows 1 d) (beta rows 2 d)

-- What one pair adds to the plan (scope: 3-unsew): its edges, the end of l against the start of r, and, where l begins an open chain, the other ends.
-- A far end may be null: its name and its size are 0 then, and the split stands in the plan.
unfoldable pub pair_entries : List ℕ → ℕ → ℕ → List Entry
pair_entries rows l r =
    entries_if true Edge Split (cell_of Edge rows l) (cell_of Edge rows r)
    ++ (entries_if true Vertex Split (cell_of Vertex rows (three_far rows l)) (cell_of Vertex rows r)
    ++ entries_if (beta rows 0 l == 0) Vertex Split (cell_of Vertex rows l) (cell_of Vertex rows (three_far rows r)))

abbrev pub Pairs : Type 0
Pairs = List (ℕ × ℕ)

unfoldable pub lefts : Pairs → List ℕ
lefts [] = []
lefts (p ∷ ps) = p.0 ∷ lefts ps

unfoldable pub rights : Pairs → List ℕ
rights [] = []
rights (p ∷ ps) = p.1 ∷ rights ps

-- the splits of all pairs, in their order
unfoldable pub entries_of : List ℕ → Pairs → List Entry
entries_of rows [] = []
entries_of rows (p ∷ ps) = pair_entries rows p.0 p.1 ++ entries_of rows ps

-- a leg ends at null, or where it began
unfoldable pub leg_over : ℕ → ℕ → Bool
leg_over l stop = l == 0 || l == stop

unfoldable pub pairs_from : ℕ → List ℕ → ℕ → ℕ → ℕ → ℕ → ℕ → Pairs
pairs_from zero rows i j stop l r = []
pairs_from (suc f) rows i j stop l r =
    cond (leg_over l stop) [] ((l, r) ∷ pairs_from f rows i j stop (beta rows i l) (beta rows j r))

unfoldable pub end_from : ℕ → List ℕ → ℕ → ℕ → ℕ → ℕ
end_from zero rows i stop l = l
end_from (suc f) rows i stop l = cond (leg_over l stop) l (end_from f rows i stop (beta rows i l))

abbrev pub leg_pairs : List ℕ → ℕ → ℕ → ℕ → ℕ → ℕ → Pairs
leg_pairs rows i j stop l r = pairs_from (length rows) rows i j stop l r

abbrev pub leg_end : List ℕ → ℕ → ℕ → ℕ → ℕ
leg_end rows i stop l = end_from (length rows) rows i stop l

abbrev pub Over : List ℕ → ℕ → ℕ → ℕ → Type 0
Over rows i stop l = leg_over (leg_end rows i stop l) stop ≡ true
