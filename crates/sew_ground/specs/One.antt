-- The 1-sew and the 1-unsew of real darts of a well-formed map.
--   both_three rows ld rd   whether ld and rd both have beta 3
--   faced rows ld rd        their images by beta 3, where both have one
--   one_far rows d          m: the larger of beta 3 and beta 2 of d
--   one_entries k rows ld rd   the vertex merge or split
--   one_links, one_unlinks   the links that a 1-sew makes; the unlinks of a 1-unsew
--   one_sew_on, one_unsew_on   the whole
--   taken_back, relinked    the rows with those links, or unlinks, undone in the reverse order
use Rattle.std.specs.Prelude.{max, ℕ, Bool, cond, not, ◌&&◌, ◌||◌, List, ◌==◌, Option, Some, None, Err, is_ok}
use Rattle.map_betas.specs.declared.error.Refusal.TheVariants.{AsymmetricalFaces}
use Rattle.map_betas.specs.Betas.{beta}
use Rattle.map_betas.specs.Answers.{Out, out}
use Rattle.map_betas.specs.Cores.{link_core, unlink_core}
use Rattle.cell_steps.specs.declared.cells.Class.TheVariants.{Vertex}
use Rattle.cell_steps.specs.Idents.{cell_of}
use Rattle.sew_plan.specs.declared.Kind.{Kind}
use Rattle.sew_plan.specs.declared.Kind.TheVariants.{Merge, Split}
use Rattle.sew_plan.specs.declared.Entry.{Entry}
use Rattle.sew_ground.specs.Entries.{entries_if}
use Rattle.sew_ground.specs.Sewn.{Work, work, dart_of}

unfoldable pub both_three : List ℕ → ℕ → ℕ → Bool
both_three rows ld rd = not (beta rows 3 ld == 0) && not (beta rows 3 rd == 0)

abbrev pub faced : List ℕ → ℕ → ℕ → Option (ℕ × ℕ)
faced rows ld rd = cond (both_three rows ld rd) (Some (beta rows 3 ld, beta rows 3 rd)) None

-- the far end of a dart in a 1-sew: by beta 3, or by beta 2 where that is the larger (scope: far end)
abbrev pub one_far : List ℕ → ℕ → ℕ
one_far rows d = max (beta rows 3 d) (beta rows 2 d)

-- scope: 1-sew. The vertices of ld's far end and of rd, if there is a far end and they are not one already.
unfoldable pub one_entries : Kind → List ℕ → ℕ → ℕ → List Entry
one_entries kind rows ld rd = entries_if (not (one_far rows ld == 0)) Vertex kind (cell_of Vertex rows (one_far rows ld)) (cell_of Vertex rows rd)

-- two links are done or neither is: a refusal of the second gives back the rows of the start
abbrev pub or_back : List ℕ → Out → Out
or_back rows o = cond (is_ok o.answer) o (out o.answer rows)

abbrev pub after_link : List ℕ → ℕ → ℕ → Out → Out
after_link rows ld rd o =
    cond (is_ok o.answer) (cond (both_three rows ld rd) (or_back rows (link_core o.rows 1 (beta rows 3 rd) (beta rows 3 ld))) o) o

unfoldable pub one_links : List ℕ → ℕ → ℕ → Out
one_links rows ld rd = after_link rows ld rd (link_core rows 1 ld rd)

unfoldable pub one_sew_on : List ℕ → ℕ → ℕ → Work
one_sew_on rows ld rd = work (one_links rows ld rd).answer (one_links rows ld rd).rows (one_entries Merge rows ld rd)

-- the rows with the second link of a 1-sew unlinked, or linked, where both darts have beta 3
unfoldable pub second_cut : List ℕ → ℕ → ℕ → List ℕ
second_cut rows ld rd = cond (both_three rows ld rd) (unlink_core rows 1 (beta rows 3 rd)).rows rows

unfoldable pub second_put : List ℕ → ℕ → ℕ → List ℕ
second_put rows ld rd = cond (both_three rows ld rd) (link_core rows 1 (beta rows 3 rd) (beta rows 3 ld)).rows rows

-- scope: 1-unsew. Whether what faces rd leads on to what faces ld, where both are faced.
unfoldable pub agrees : List ℕ → ℕ → ℕ → Bool
agrees rows ld rd = not (both_three rows ld rd) || beta rows 1 (beta rows 3 rd) == beta rows 3 ld

-- the second unlink of a 1-unsew, on the other side of the face, where there is one
-- That second unlink is of a dart that has beta 1, so that it never refuses.
abbrev pub after_unlink : List ℕ → ℕ → ℕ → Out → Out
after_unlink rows ld rd o =
    cond (is_ok o.answer)
    (cond (agrees o.rows ld rd) (out o.answer (second_cut o.rows ld rd)) (out (Err (AsymmetricalFaces ld rd)) rows))
    o

unfoldable pub one_unlinks : List ℕ → ℕ → Out
one_unlinks rows ld = after_unlink rows ld (beta rows 1 ld) (unlink_core rows 1 ld)

-- scope: 1-unsew. The entry of a 1-sew as a split, with names and sizes as they are without the links.
unfoldable pub one_unsew_on : List ℕ → ℕ → Work
one_unsew_on rows ld =
    work (one_unlinks rows ld).answer (one_unlinks rows ld).rows
    (one_entries Split (one_unlinks rows ld).rows ld (dart_of (one_unlinks rows ld).answer))

-- how the code undoes its links, and its unlinks, where the plan has no room: in the reverse order
abbrev pub taken_back : List ℕ → ℕ → ℕ → List ℕ
taken_back rows ld rd = (unlink_core (second_cut rows ld rd) 1 ld).rows

abbrev pub relinked : List ℕ → ℕ → ℕ → List ℕ
relinked rows ld rd = (link_core (second_put rows ld rd) 1 ld rd).rows
