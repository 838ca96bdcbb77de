-- Entries of a plan that are there or not.
--   entries_if asked c k a b   the entry of the cells a and b (`entry_of`), where it is asked for and their names differ
--   listed, all_of          the entries of an item; of a list of items
--   written_all plan k es   the plan with es written from its entry number k on
use Rattle.std.specs.Prelude.{ℕ, ◌+◌, Bool, cond, not, ◌&&◌, List, [], ◌∷◌, ◌==◌, Option, Some, None, flat_map}
use Rattle.cell_steps.specs.declared.cells.Cell.{Cell}
use Rattle.cell_steps.specs.declared.cells.Class.{Class}
use Rattle.sew_plan.specs.declared.Kind.{Kind}
use Rattle.sew_plan.specs.declared.Entry.{Entry}
use Rattle.sew_plan.specs.Plan.{entry_of, written}

unfoldable pub entries_if : Bool → Class → Kind → Cell → Cell → List Entry
entries_if asked cells kind left right = cond (asked && not (left.least == right.least)) (entry_of cells kind left right ∷ []) []

abbrev pub listed : Option Entry → List Entry
listed None = []
listed (Some e) = e ∷ []

abbrev pub all_of : List (Option Entry) → List Entry
all_of items = flat_map listed items

unfoldable pub written_all : List ℕ → ℕ → List Entry → List ℕ
written_all plan k [] = plan
written_all plan k (e ∷ es) = written_all (written plan k e) (k + 1) es
