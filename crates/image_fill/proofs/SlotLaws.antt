-- What the vertex slots hold once the records are put in. Assumes nothing.
--   marks_length, coordinates_length   as many places as before
--   many_other   a slot that no record names stays as it was
--   many_named   a slot that a record names holds that record: a later record has another dart
use Prim.Native.Nat.{ℕ, zero, suc, ◌+◌, ◌*◌, ◌<◌, ◌≤◌}
use native.Mathlib.Omega.{arith}
use mathlib.Core.Path.{◌≡◌, refl, sym, ap, ◌∙◌}
use mathlib.Core.Logic.{◌≢◌}
use mathlib.Core.List.{List}
use lib.ListN.{length, get_or, set, length-set}
use lib.Seq.{get_or-set_same, get_or-set_other}
use lib.Ieee.{Float, nan}
use Rattle.image_form.specs.Form.{record_dart, record_coordinate, Sound}
use Rattle.image_fill.specs.Content.{Slots, put_point, put_record, put_records}
use Rattle.image_fill.proofs.FillLaws.{first_sound, later_sound, one_marks, one_coordinates}

pub marks_length : (k : ℕ) (bytes : List ℕ) (at : ℕ) (s : Slots) → length (put_records k bytes at s).marks ≡ length s.marks
unfolding put_records
marks_length zero bytes at s = refl
marks_length (suc k) bytes at s = marks_length k bytes (at + 28) (put_record bytes at s) ∙ one_marks bytes at s

pub coordinates_length : (k : ℕ) (bytes : List ℕ) (at : ℕ) (s : Slots) → length (put_records k bytes at s).coordinates ≡ length s.coordinates
unfolding put_records
coordinates_length zero bytes at s = refl
coordinates_length (suc k) bytes at s = coordinates_length k bytes (at + 28) (put_record bytes at s) ∙ one_coordinates bytes at s

-- one point

module _ (l : List Float) (d : ℕ) (x y z : Float) where
  point_other : (k : ℕ) → k ≢ 3 * d → k ≢ 3 * d + 1 → k ≢ 3 * d + 2 → get_or (put_point l d x y z) k nan ≡ get_or l k nan
  point_other k a b c =
      get_or-set_other (set (set l (3 * d) x) (3 * d + 1) y) (3 * d + 2) k z nan c
      ∙ get_or-set_other (set l (3 * d) x) (3 * d + 1) k y nan b ∙ get_or-set_other l (3 * d) k x nan a

  module _ (h : 3 * d + 2 < length l) where
    point_first : get_or (put_point l d x y z) (3 * d) nan ≡ x
    point_first =
        get_or-set_other (set (set l (3 * d) x) (3 * d + 1) y) (3 * d + 2) (3 * d) z nan (λ (e : 3 * d ≡ 3 * d + 2). omega arith)
        ∙ get_or-set_other (set l (3 * d) x) (3 * d + 1) (3 * d) y nan (λ (e : 3 * d ≡ 3 * d + 1). omega arith)
        ∙ get_or-set_same l (3 * d) x nan (omega arith)

    point_second : get_or (put_point l d x y z) (3 * d + 1) nan ≡ y
    point_second =
        get_or-set_other (set (set l (3 * d) x) (3 * d + 1) y) (3 * d + 2) (3 * d + 1) z nan (λ (e : 3 * d + 1 ≡ 3 * d + 2). omega arith)
        ∙ get_or-set_same (set l (3 * d) x) (3 * d + 1) y nan (simp length-set (omega arith))

    point_third : get_or (put_point l d x y z) (3 * d + 2) nan ≡ z
    point_third = get_or-set_same (set (set l (3 * d) x) (3 * d + 1) y) (3 * d + 2) z nan (simp length-set (omega arith))

-- slot d of s holds a mark and three coordinates
pub record Holds (s : Slots) (d mark : ℕ) (point : ℕ → Float) : Type 0 where
  pub marked : get_or s.marks d 0 ≡ mark
  pub placed : (j : ℕ) → j < 3 → get_or s.coordinates (3 * d + j) nan ≡ point j

-- one record

module _ (bytes : List ℕ) (at : ℕ) (s : Slots) where
  one_other : (d : ℕ) → d ≢ record_dart bytes at → (mark : ℕ) (point : ℕ → Float) → Holds s d mark point → Holds (put_record bytes at s) d mark point
  unfolding put_record
  one_other d n mark point h =
      record {
        marked = get_or-set_other s.marks (record_dart bytes at) d 1 0 n ∙ h.marked;
        placed = λ j l. point_other s.coordinates (record_dart bytes at) _ _ _ (3 * d + j) (λ e. n (omega arith)) (λ e. n (omega arith))
            (λ e. n (omega arith)) ∙ h.placed j l;
      }

  module _ (m : record_dart bytes at < length s.marks) (q : 3 * record_dart bytes at + 2 < length s.coordinates) where
    one_placed : (j : ℕ) → j < 3 → get_or (put_record bytes at s).coordinates (3 * record_dart bytes at + j) nan ≡ record_coordinate bytes at j
    unfolding put_record
    one_placed zero l = let p : 3 * record_dart bytes at + 0 ≡ 3 * record_dart bytes at =
        omega arith in rw p (point_first s.coordinates (record_dart bytes at) _ _ _ q)
    one_placed (suc zero) l = point_second s.coordinates (record_dart bytes at) _ _ _ q
    one_placed (suc (suc zero)) l = point_third s.coordinates (record_dart bytes at) _ _ _ q
    one_placed (suc (suc (suc j))) l = absurd (omega arith)

    one_marked : get_or (put_record bytes at s).marks (record_dart bytes at) 0 ≡ 1
    unfolding put_record
    one_marked = get_or-set_same s.marks (record_dart bytes at) 1 0 m

    one_named : Holds (put_record bytes at s) (record_dart bytes at) 1 (record_coordinate bytes at)
    one_named = record { marked = one_marked; placed = one_placed }

-- many records

pub many_other : (k : ℕ) (bytes : List ℕ) (at : ℕ) (s : Slots) (d mark : ℕ) (point : ℕ → Float) → ((j : ℕ) → j < k → record_dart bytes (at + 28 * j) ≢ d) →
    Holds s d mark point → Holds (put_records k bytes at s) d mark point
unfolding put_records
many_other zero bytes at s d mark point n h = h
many_other (suc k) bytes at s d mark point n h =
    let p : at + 28 * 0 ≡ at = omega arith in
    let away : d ≢ record_dart bytes at = λ e. n 0 (omega arith) (ap (record_dart bytes) p ∙ sym e) in
    many_other k bytes (at + 28) (put_record bytes at s) d mark point
    (λ j l e. n (suc j) (omega arith) (let r : at + 28 * suc j ≡ at + 28 + 28 * j = omega arith in ap (record_dart bytes) r ∙ e))
    (one_other bytes at s d away mark point h)

-- the darts of k records ascend
abbrev pub Ascend : ℕ → List ℕ → ℕ → Type 0
Ascend k bytes at = (i j : ℕ) → i < j → j < k → record_dart bytes (at + 28 * i) < record_dart bytes (at + 28 * j)

later_ascend : (k : ℕ) (bytes : List ℕ) (at : ℕ) → Ascend (suc k) bytes at → Ascend k bytes (at + 28)
later_ascend k bytes at a i j l h =
    let p : at + 28 + 28 * i ≡ at + 28 * suc i = omega arith in
    let q : at + 28 + 28 * j ≡ at + 28 * suc j = omega arith in
    rw (p, q) (a (suc i) (suc j) (omega arith) (omega arith))

pub many_named : (k : ℕ) (bytes : List ℕ) (n at : ℕ) (s : Slots) → ((j : ℕ) → j < k → Sound bytes n (at + 28 * j)) → Ascend k bytes at →
    n ≤ length s.marks → 3 * n ≤ length s.coordinates → (j : ℕ) → j < k →
    Holds (put_records k bytes at s) (record_dart bytes (at + 28 * j)) 1 (record_coordinate bytes (at + 28 * j))
unfolding put_records
many_named zero bytes n at s h a m q j l = absurd (omega arith)
many_named (suc k) bytes n at s h a m q zero l =
    let p : at + 28 * 0 ≡ at = omega arith in
    let f = first_sound bytes n at k h in
    let b = f.below in
    rw p
    (many_other k bytes (at + 28) (put_record bytes at s) (record_dart bytes at) 1 (record_coordinate bytes at)
    (λ i t e.
    let r : at + 28 * suc i ≡ at + 28 + 28 * i = omega arith in
    let u : record_dart bytes (at + 28 * 0) < record_dart bytes (at + 28 * suc i) = a 0 (suc i) (omega arith) (omega arith) in
    let w : record_dart bytes at < record_dart bytes (at + 28 + 28 * i) = rw (p, r) at u in
    omega arith)
    (one_named bytes at s (omega arith) (omega arith)))
many_named (suc k) bytes n at s h a m q (suc j) l =
    let r : at + 28 * suc j ≡ at + 28 + 28 * j = omega arith in
    let l₁ = one_marks bytes at s in
    let l₂ = one_coordinates bytes at s in
    rw r
    (many_named k bytes n (at + 28) (put_record bytes at s) (later_sound bytes n at k h) (later_ascend k bytes at a) (omega arith) (omega arith) j (omega arith))
