-- The laws of putting vertex records into their slots. Assumes nothing.
--   put_one             what the code stores is one record put in
--   put_start, put_next, put_end   the turns of putting in all
--   put_over            the places behind those of n darts stay as they are
--   slots_filled        cleared, then all records put in: what the image says
use Prim.Native.Nat.{ℕ, zero, suc, ◌+◌, ◌-◌, ◌*◌, ◌<◌, ◌≤◌}
use native.Mathlib.Omega.{arith}
use mathlib.Core.Path.{◌≡◌, refl, ap, ◌∙◌}
use mathlib.Core.List.{List, ◌++◌}
use lib.ListN.{length, take, drop, set, replicate, length-set}
use lib.Seq.{set-append_left, length-take-le}
use lib.Ieee.{Float}
use Rattle.image_words.proofs.Filled.{listed_length, listed_same}
use Rattle.image_form.specs.Form.{form1, vertex_offset, record_at, record_dart, record_coordinate, Sound}
use Rattle.image_fill.specs.Content.{Slots, slots, over, plus_zero, no_marks, no_coordinates, empty_slots, put_point, put_record, put_records, slots_of}

-- d, x, y and z are what the code reads
pub put_one : (bytes : List ℕ) (at : ℕ) (marks : List ℕ) (coordinates : List Float) (d : ℕ) (x y z : Float) →
    d ≡ record_dart bytes at → x ≡ record_coordinate bytes at 0 → y ≡ record_coordinate bytes at 1 → z ≡ record_coordinate bytes at 2 →
    slots (set marks d 1) (put_point coordinates d x y z) ≡ put_record bytes at (slots marks coordinates)
unfolding put_record
put_one bytes at marks coordinates d x y z ed ex ey ez = simp (ed, ex, ey, ez)

pub put_start : (bytes : List ℕ) (from v : ℕ) (s : Slots) → put_records v bytes from s ≡ put_records (v - 0) bytes (from + 0) s
put_start bytes from v s =
    let p : v - 0 ≡ v = omega arith in
    let q : from + 0 ≡ from = omega arith in
    rw (p, q) refl

-- t are the slots after record k
module _ (bytes : List ℕ) (from v k : ℕ) (s : Slots) where
  pub put_next : k < v → (t : Slots) → t ≡ put_record bytes (from + 28 * k) s →
      put_records (v - k) bytes (from + 28 * k) s ≡ put_records (v - (k + 1)) bytes (from + 28 * (k + 1)) t
  unfolding put_records
  put_next h t e =
      let p : v - k ≡ suc (v - (k + 1)) = omega arith in
      let q : from + 28 * (k + 1) ≡ from + 28 * k + 28 = omega arith in
      rw (p, q, e) refl

  pub put_end : v ≤ k → s ≡ put_records (v - k) bytes (from + 28 * k) s
  unfolding put_records
  put_end h =
      let p : v - k ≡ 0 = omega arith in
      rw p refl

-- where the later records stand, seen from the next
pub later_sound : (bytes : List ℕ) (n at k : ℕ) → ((j : ℕ) → j < suc k → Sound bytes n (at + 28 * j)) → (j : ℕ) → j < k → Sound bytes n (at + 28 + 28 * j)
later_sound bytes n at k h j l =
    let p : at + 28 + 28 * j ≡ at + 28 * suc j = omega arith in
    rw p (h (suc j) (omega arith))

pub first_sound : (bytes : List ℕ) (n at k : ℕ) → ((j : ℕ) → j < suc k → Sound bytes n (at + 28 * j)) → Sound bytes n at
first_sound bytes n at k h = let p : at + 28 * 0 ≡ at = omega arith in rw p at (h 0 (omega arith))

-- one record, with more places behind

point_over : (x y : List Float) (d : ℕ) (a b e : Float) → 3 * d + 2 < length x → put_point (x ++ y) d a b e ≡ put_point x d a b e ++ y
point_over x y d a b e h =
    simp (
      set-append_left x y (3 * d) a (omega arith),
      set-append_left (set x (3 * d) a) y (3 * d + 1) b (simp length-set (omega arith)),
      set-append_left (set (set x (3 * d) a) (3 * d + 1) b) y (3 * d + 2) e (simp length-set (omega arith)),
    )

one_over : (bytes : List ℕ) (n at : ℕ) (s : Slots) (b : List ℕ) (y : List Float) → record_dart bytes at < n → n ≤ length s.marks →
    3 * n ≤ length s.coordinates → put_record bytes at (over s b y) ≡ over (put_record bytes at s) b y
unfolding put_record
one_over bytes n at s b y h m q =
    simp (
      set-append_left s.marks b (record_dart bytes at) 1 (omega arith),
      point_over s.coordinates y (record_dart bytes at) (record_coordinate bytes at 0) (record_coordinate bytes at 1) (record_coordinate bytes at 2)
          (omega arith),
    )

pub one_marks : (bytes : List ℕ) (at : ℕ) (s : Slots) → length (put_record bytes at s).marks ≡ length s.marks
unfolding put_record
one_marks bytes at s = simp length-set

pub one_coordinates : (bytes : List ℕ) (at : ℕ) (s : Slots) → length (put_record bytes at s).coordinates ≡ length s.coordinates
unfolding put_record
one_coordinates bytes at s = simp length-set

put_over : (k : ℕ) (bytes : List ℕ) (n at : ℕ) (s : Slots) (b : List ℕ) (y : List Float) → ((j : ℕ) → j < k → Sound bytes n (at + 28 * j)) →
    n ≤ length s.marks → 3 * n ≤ length s.coordinates → put_records k bytes at (over s b y) ≡ over (put_records k bytes at s) b y
unfolding put_records
put_over zero bytes n at s b y h m q = refl
put_over (suc k) bytes n at s b y h m q =
    let f = first_sound bytes n at k h in
    let l₁ = one_marks bytes at s in
    let l₂ = one_coordinates bytes at s in
    ap (put_records k bytes (at + 28)) (one_over bytes n at s b y f.below m q)
    ∙ put_over k bytes n (at + 28) (put_record bytes at s) b y (later_sound bytes n at k h) (omega arith) (omega arith)

-- all slots: from, x and y are what the code has before it puts the records in, p and q what it has then
module _ (bytes : List ℕ) (n v from : ℕ) (f : from ≡ vertex_offset form1 n) (h : (k : ℕ) → k < v → Sound bytes n (record_at n k)) where
  pub sound_from : (k : ℕ) → k < v → Sound bytes n (from + 28 * k)
  sound_from k l = rw f (h k l)

  pub slots_filled : (vertices : List ℕ) (coordinates : List Float) → n ≤ length vertices → 3 * n ≤ length coordinates →
      {p x : List ℕ} {q y : List Float} → x ≡ replicate (length (take n vertices)) 0 → y ≡ replicate (length (take (3 * n) coordinates)) plus_zero →
      slots p q ≡ put_records v bytes from (slots (x ++ drop n vertices) (y ++ drop (3 * n) coordinates)) →
      slots p q ≡ over (slots_of bytes n v) (drop n vertices) (drop (3 * n) coordinates)
  unfolding slots_of
  slots_filled vertices coordinates m₁ m₂ {p} {x} {q} {y} ep eq e =
      let l₁ : length (no_marks n) ≡ n = listed_length (λ (k : ℕ). 0) n in
      let l₂ : length (no_coordinates n) ≡ 3 * n = listed_length (λ (k : ℕ). plus_zero) (3 * n) in
      let k₁ = length-take-le n vertices m₁ in
      let k₂ = length-take-le (3 * n) coordinates m₂ in
      let ep' : x ≡ no_marks n = ep ∙ ap (λ (k : ℕ). replicate k 0) k₁ ∙ listed_same (λ (k : ℕ). 0) n 0 (λ k. refl) in
      let eq' : y ≡ no_coordinates n =
      eq ∙ ap (λ (k : ℕ). replicate k plus_zero) k₂ ∙ listed_same (λ (k : ℕ). plus_zero) (3 * n) plus_zero (λ k. refl) in
      e
      ∙ ap (λ (l : List ℕ). put_records v bytes from (slots (l ++ drop n vertices) (y ++ drop (3 * n) coordinates))) ep'
      ∙ ap (λ (l : List Float). put_records v bytes from (slots (no_marks n ++ drop n vertices) (l ++ drop (3 * n) coordinates))) eq'
      ∙ ap (λ (k : ℕ). put_records v bytes k (over (empty_slots n) (drop n vertices) (drop (3 * n) coordinates))) f
      ∙ put_over v bytes n (vertex_offset form1 n) (empty_slots n) (drop n vertices) (drop (3 * n) coordinates) h (omega arith) (omega arith)
