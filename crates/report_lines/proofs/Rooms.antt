-- How long the lines of the report are at most. Assumes nothing.
--   value_length, decimal_room, value_room   a number of 64 bits has at most 20 digits, and a number with its space has at most 21 bytes
--   items_short    k numbers below 10,000 have at most 5k bytes with their spaces
--   list_count, list_small   a list has fewer identifiers than darts, and each is a dart
--   class_room     the line of a class has at most 5,122 bytes beside its name, where there are at most 1,024 darts
use Prim.Native.Nat.{ℕ, zero, suc, ◌+◌, ◌-◌, ◌*◌, ◌<◌, ◌≤◌}
use native.Mathlib.Omega.{arith}
use mathlib.Core.Path.{◌≡◌, refl}
use mathlib.Core.Bool.{Bool, true, false, cond, ◌&&◌}
use mathlib.Core.List.{List, [], ◌∷◌}
use lib.ListN.{length, get_or, length-append}
use lib.Dec.{eqb}
use Rattle.map_betas.specs.Betas.{darts}
use Rattle.cell_steps.specs.Steps.{vertex, edge, volume}
use Rattle.cell_steps.specs.Idents.{ident}
use Rattle.cell_lists.specs.CellLists.{cells_from, cells_by}
use Rattle.cell_faces.specs.Faces.{face_id}
use Rattle.cell_steps.specs.declared.cells.Class.{Class}
use Rattle.cell_steps.specs.declared.cells.Class.TheVariants.{Vertex, Edge, Face, Volume}
use Rattle.cell_names.specs.Cells.{list_of}
use Rattle.report_text.specs.Texts.{decimal, items_of, line_of}
use Rattle.report_text.proofs.TextLaws.{line_length}
use Rattle.report_text.proofs.Numbers.{decimal_length}
use Rattle.report_lines.specs.Report.{value_of, class_line}

-- numbers

value_length : (x : ℕ) → length (value_of x) ≡ 1 + length (decimal x)
unfolding value_of
value_length x = length-append (32 ∷ []) (decimal x)

pub decimal_room : (x : ℕ) → x < 18446744073709551616 → length (decimal x) ≤ 20
decimal_room x h = decimal_length 0 19 x refl (omega arith)

pub value_room : (x : ℕ) → x < 18446744073709551616 → length (value_of x) ≤ 21
value_room x h =
    let e = value_length x in
    let d = decimal_room x h in
    omega arith

short : (x : ℕ) → x < 10000 → length (decimal x) ≤ 4
short x h = decimal_length 16 3 x refl (omega arith)

-- lists

item_length : (list : List ℕ) (k : ℕ) → length (items_of list (suc k)) ≡ length (items_of list k) + 1 + length (decimal (get_or list k 0))
unfolding items_of
item_length list k = simp length-append (omega arith)

items_short : (list : List ℕ) (k : ℕ) → ((j : ℕ) → get_or list j 0 < 10000) → length (items_of list k) ≤ 5 * k
unfolding items_of
items_short list zero h = omega arith
items_short list (suc k) h =
    let e = item_length list k in
    let s = short (get_or list k 0) (h k) in
    let n = items_short list k h in
    omega arith

-- the lists of cells

module _ (id : ℕ → ℕ) (flags : List ℕ) where
  from_count : (d f : ℕ) → length (cells_from id flags d f) ≤ f
  unfolding cells_from
  from_count d zero = omega arith
  from_count d (suc f) = go (eqb (get_or flags d 0) 0 && eqb (id d) d) (from_count (d + 1) f)
    where
      go : (t : Bool) → length (cells_from id flags (d + 1) f) ≤ f →
          length (cond t (d ∷ cells_from id flags (d + 1) f) (cells_from id flags (d + 1) f)) ≤ suc f
      go true h = omega arith
      go false h = omega arith

  from_small : (m d f : ℕ) → 1 ≤ m → d + f ≤ m → (j : ℕ) → get_or (cells_from id flags d f) j 0 < m
  unfolding cells_from
  from_small m d zero s h j = omega arith
  from_small m d (suc f) s h j = go (eqb (get_or flags d 0) 0 && eqb (id d) d) (from_small m (d + 1) f s (omega arith)) j
    where
      go : (t : Bool) → ((i : ℕ) → get_or (cells_from id flags (d + 1) f) i 0 < m) → (i : ℕ) →
          get_or (cond t (d ∷ cells_from id flags (d + 1) f) (cells_from id flags (d + 1) f)) i 0 < m
      go true more zero = omega arith
      go true more (suc i) = more i
      go false more i = more i

  by_count : (n : ℕ) → length (cells_by id n flags) ≤ n - 1
  unfolding cells_by
  by_count n = from_count 1 (n - 1)

  by_small : (n : ℕ) → 1 ≤ n → (j : ℕ) → get_or (cells_by id n flags) j 0 < n
  unfolding cells_by
  by_small n s j = from_small n 1 (n - 1) s (omega arith) j

list_count : (class : Class) (rows flags : List ℕ) → length (list_of class rows flags) ≤ darts rows - 1
list_count Vertex rows flags = by_count (ident rows vertex) flags (darts rows)
list_count Edge rows flags = by_count (ident rows edge) flags (darts rows)
list_count Face rows flags = by_count (face_id rows) flags (darts rows)
list_count Volume rows flags = by_count (ident rows volume) flags (darts rows)

list_small : (class : Class) (rows flags : List ℕ) → 1 ≤ darts rows → (j : ℕ) → get_or (list_of class rows flags) j 0 < darts rows
list_small Vertex rows flags s j = by_small (ident rows vertex) flags (darts rows) s j
list_small Edge rows flags s j = by_small (ident rows edge) flags (darts rows) s j
list_small Face rows flags s j = by_small (face_id rows) flags (darts rows) s j
list_small Volume rows flags s j = by_small (ident rows volume) flags (darts rows) s j

line_room : (name l : List ℕ) → length l ≤ 1023 → ((j : ℕ) → get_or l j 0 < 10000) → length (line_of name l (length l)) ≤ length name + 5122
line_room name l h s =
    let n = line_length name l (length l) in
    let d = short (length l) (omega arith) in
    let i = items_short l (length l) s in
    omega arith

pub class_room : (name : List ℕ) (class : Class) (rows flags : List ℕ) → 1 ≤ darts rows → darts rows ≤ 1024 →
    length (class_line name class rows flags) ≤ length name + 5122
unfolding class_line
class_room name class rows flags s m =
    let c = list_count class rows flags in
    line_room name (list_of class rows flags) (omega arith)
    (λ j. let t = list_small class rows flags s j in omega arith)
