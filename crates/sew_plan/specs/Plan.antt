-- Plans: entries that say which cells merge or split, as the numbers that a caller's loan holds.
--
--   width       how many numbers one entry takes
--   code_of      the number that stands for a class and a kind
--   entry_words  the numbers of one entry
--   merge_of     the entry of a merge of two cells
--   split_of     the entry of a split into two cells
--   entry_of c k a b   the merge or the split of the cells a and b, each with its name and its size
--   written     a plan after its entry number k was written
--   room_of      how many whole entries a plan has room for
--   plan_of      the numbers of a list of entries, one behind another
--   put_plan     a plan after a list of entries was written from its start
use Rattle.std.specs.Prelude.{ℕ, ◌+◌, ◌*◌, ◌/◌, min, List, [], ◌∷◌, ◌++◌, length, take, drop}
use Rattle.cell_steps.specs.declared.cells.Cell.{Cell}
use Rattle.cell_steps.specs.declared.cells.Class.{Class}
use Rattle.cell_steps.specs.declared.cells.Class.TheVariants.{Vertex, Edge, Face, Volume}
use Rattle.sew_plan.specs.declared.Kind.{Kind}
use Rattle.sew_plan.specs.declared.Kind.TheVariants.{Merge, Split}
use Rattle.sew_plan.specs.declared.Entry.{Entry}

-- the numbers of one entry (scope: plan)
abbrev pub width : ℕ
width = 6

-- class and kind as one number: units say the class, and a split has ten more.
-- No sew merges faces or has an entry for volumes; 3, 4 and 14 are the numbers that the others leave for these.
abbrev pub code_of : Class → Kind → ℕ
code_of Vertex Merge = 1
code_of Edge Merge = 2
code_of Face Merge = 3
code_of Vertex Split = 11
code_of Edge Split = 12
code_of Face Split = 13
code_of Volume Merge = 4
code_of Volume Split = 14

-- an entry as it stands in the plan: its code, its three identifiers, and the sizes of its left and its right cell
abbrev pub entry_words : Entry → List ℕ
entry_words e = code_of e.class e.kind ∷ e.a ∷ e.b ∷ e.c ∷ e.left ∷ e.right ∷ []

-- The lesser identifier is the one that stays where two become one, and the one that two come from.
-- A merge says first what stays, then what comes in from either side, and how many darts each side has
unfoldable pub merge_of : Class → Cell → Cell → Entry
merge_of cells left right =
    record {
      class = cells;
      kind = Merge;
      a = min left.least right.least;
      b = left.least;
      c = right.least;
      left = left.count;
      right = right.count;
    }

-- a split says first what goes out on either side, then where it came from, and how many darts each side has
unfoldable pub split_of : Class → Cell → Cell → Entry
split_of cells left right =
    record {
      class = cells;
      kind = Split;
      a = left.least;
      b = right.least;
      c = min left.least right.least;
      left = left.count;
      right = right.count;
    }

abbrev pub entry_of : Class → Kind → Cell → Cell → Entry
entry_of cells Merge left right = merge_of cells left right
entry_of cells Split left right = split_of cells left right

-- entry number k takes the places from width * k on, and no other place changes
unfoldable pub written : List ℕ → ℕ → Entry → List ℕ
written plan k e = take (width * k) plan ++ (entry_words e ++ drop (width * k + width) plan)

-- how many whole entries fit; the places beyond them are no room
abbrev pub room_of : List ℕ → ℕ
room_of plan = length plan / width

-- entries one behind the other
unfoldable pub plan_of : List Entry → List ℕ
plan_of [] = []
plan_of (e ∷ es) = entry_words e ++ plan_of es

-- a plan's entries from the start of a loan, whose other places stay as they were
unfoldable pub put_plan : List Entry → List ℕ → List ℕ
put_plan es plan = plan_of es ++ drop (width * length es) plan
