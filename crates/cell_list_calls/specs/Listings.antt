-- What a list has, what its call answers, and what it leaves of its loans.
--   listing_of listing rows flags   the list
--   listing_done                    a call that is not refused
--   listing_call                    the call
use Rattle.std.specs.Prelude.{ℕ, List, length}
use Rattle.map_betas.specs.Betas.{darts}
use Rattle.map_betas.specs.Answers.{Outcome, outcome, behind, done}
use Rattle.cell_steps.specs.Steps.{cell_steps}
use Rattle.cell_steps.specs.Calls.{wiped, headed}
use Rattle.cell_lists.specs.CellLists.{cell_list}
use Rattle.cell_names.specs.Cells.{list_of}
use Rattle.cell_names.specs.Calls.{list_guard}
use Rattle.cell_list_calls.specs.declared.listings.Listing.{Listing}
use Rattle.cell_list_calls.specs.declared.listings.Listing.TheVariants.{Cells, Orbits}

abbrev pub listing_of : Listing → List ℕ → List ℕ → List ℕ
listing_of (Cells class) rows flags = list_of class rows flags
listing_of (Orbits class) rows flags = cell_list rows (cell_steps class) flags

-- the count is the list's own length, and the output beyond it stays as it was
abbrev pub listing_done : List ℕ → List ℕ → List ℕ → List ℕ → List ℕ → Listing → Outcome (List ℕ × List ℕ × List ℕ)
listing_done rows marks queue output flags listing =
    outcome (done 0 (length (listing_of listing rows flags)))
    (wiped (darts rows) marks, wiped (darts rows) queue, headed (listing_of listing rows flags) output)

abbrev pub listing_call : List ℕ → List ℕ → List ℕ → List ℕ → List ℕ → Listing → Outcome (List ℕ × List ℕ × List ℕ)
listing_call rows marks queue output flags listing =
    behind (list_guard rows marks queue output flags) (marks, queue, output) (listing_done rows marks queue output flags listing)
