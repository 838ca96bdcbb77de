-- What a reading answers and writes, in one place. Assumes nothing.
--   slot_marks, slot_coordinates   the slots of an image are as many as its darts
--   done_is, tested   a reading that passes its tests writes, and one is done exactly where it does
--   read_iff        a reading is done exactly where the bytes are an image of a map and the loans are long enough
--   refused_keeps   a refusal leaves every loan as it was
--   answer_is       a reading that is done answers (0, n)
--   rows_are, flags_are, vertices_are, coordinates_are   what the loans hold, as lists
--   rows_say, flags_say   what it writes is the image's images and flags
--   vertex_says     the slot that a record names: mark 1 and the record's coordinates
--   no_vertex_says  any other slot: mark 0 and positive zeros
--   rows_keep, flags_keep, vertices_keep, coordinates_keep   the places behind are as they were
use Prim.Native.Nat.{ℕ, ◌+◌, ◌-◌, ◌*◌, ◌<◌, ◌≤◌}
use native.Mathlib.Omega.{arith}
use mathlib.Core.Path.{◌≡◌, refl, sym, ap, ◌∙◌}
use mathlib.Core.Logic.{◌≢◌, ◌↔◌}
use mathlib.Core.List.{List, ◌++◌}
use mathlib.Core.Bool.{true, false, true≢false}
use lib.ListN.{length, get_or, drop, get_or-append}
use lib.Seq.{get_or-append-add, get_or-drop}
use lib.Ieee.{Float, nan}
use Rattle.map_betas.specs.Answers.{Test, behind, done}
use Rattle.map_betas.proofs.AnswerLaws.{refused_leaves, outcome_is}
use Rattle.map_betas.specs.Betas.{beta}
use Rattle.image_words.specs.Words.{word32}
use Rattle.image_words.proofs.Filled.{listed_length, listed_get}
use Rattle.image_form.specs.Form.{form1, vertex_offset, darts_of, vertices_of, rows_of, flag_at, flags_of, record_at, record_dart, record_coordinate}
use Rattle.image_fill.specs.Content.{slots, plus_zero, no_marks, no_coordinates, empty_slots, slots_of}
use Rattle.image_reader.specs.Reads.{Read, loaded, read_out, wrote, test_of, read_within, read_image, Accepted}
use Rattle.image_form.proofs.StoredLaws.{rows_length, stored_is, flags_length, flag_is}
use Rattle.image_fill.proofs.SlotLaws.{Holds, marks_length, coordinates_length, many_other, many_named}
use Rattle.image_reader.proofs.Accepted.{accepted_by, accepts}
use Rattle.std.specs.Prelude.{Ok, Err, is_ok}

-- a loan whose first m places are written

front : {A : Type 0} (a old : List A) (m k : ℕ) (d : A) → length a ≡ m → k < m → get_or (a ++ drop m old) k d ≡ get_or a k d
front a old m k d e h = get_or-append a (drop m old) d k (omega arith)

back : {A : Type 0} (a old : List A) (m k : ℕ) (d : A) → length a ≡ m → m ≤ k → get_or (a ++ drop m old) k d ≡ get_or old k d
back a old m k d e h =
    let p : k ≡ length a + (k - m) = omega arith in
    let q : m + (k - m) ≡ k = omega arith in
    ap (λ (j : ℕ). get_or (a ++ drop m old) j d) p ∙ get_or-append-add a (drop m old) (k - m) d ∙ get_or-drop m old (k - m) d
    ∙ ap (λ (j : ℕ). get_or old j d) q

-- the slots have n marks and 3n coordinates

pub slot_marks : (bytes : List ℕ) (n v : ℕ) → length (slots_of bytes n v).marks ≡ n
unfolding slots_of
slot_marks bytes n v = marks_length v bytes (vertex_offset form1 n) (empty_slots n) ∙ listed_length (λ (k : ℕ). 0) n

pub slot_coordinates : (bytes : List ℕ) (n v : ℕ) → length (slots_of bytes n v).coordinates ≡ 3 * n
unfolding slots_of
slot_coordinates bytes n v = coordinates_length v bytes (vertex_offset form1 n) (empty_slots n) ∙ listed_length (λ (k : ℕ). plus_zero) (3 * n)

empty_holds : (n d : ℕ) → d < n → Holds (empty_slots n) d 0 (λ (j : ℕ). plus_zero)
empty_holds n d h =
    record {
      marked = listed_get (λ (k : ℕ). 0) 0 n d h;
      placed = λ j l. listed_get (λ (k : ℕ). plus_zero) nan (3 * n) (3 * d + j) (omega arith);
    }

module _ (most : ℕ) (bytes flags vertices : List ℕ) (coordinates : List Float) (rows : List ℕ) where
  abbrev n : ℕ
  n = darts_of bytes

  abbrev v : ℕ
  v = vertices_of bytes

  abbrev after : Read
  after = read_within most bytes flags vertices coordinates rows

  abbrev test : Test
  test = test_of most bytes flags vertices coordinates rows

  pub done_is : is_ok test ≡ true → after ≡ wrote bytes n v flags vertices coordinates rows
  unfolding read_within
  done_is = go test
    where
      go : (t : Test) → is_ok t ≡ true →
          behind t (loaded flags vertices coordinates rows) (wrote bytes n v flags vertices coordinates rows) ≡ wrote bytes n v flags vertices coordinates rows
      go (Ok x) e = refl
      go (Err w) e = absurd (true≢false (sym e))

  pub tested : is_ok after.answer ≡ is_ok test
  unfolding read_within wrote
  tested = go test
    where
      go : (t : Test) →
          is_ok (behind t (loaded flags vertices coordinates rows) (wrote bytes n v flags vertices coordinates rows)).answer ≡ is_ok t
      go (Ok x) = refl
      go (Err w) = refl

  pub read_iff : most ≤ 1048576 → (is_ok after.answer ≡ true) ↔ Accepted most bytes flags vertices coordinates rows
  read_iff m =
      (λ t. accepted_by most bytes flags vertices coordinates rows m (sym tested ∙ t), λ a. tested ∙ accepts most bytes flags vertices coordinates rows m a)

  pub refused_keeps : is_ok after.answer ≡ false → after ≡ read_out after.answer flags vertices coordinates rows
  unfolding read_within wrote
  refused_keeps t =
      outcome_is refl (refused_leaves test (loaded flags vertices coordinates rows) (wrote bytes n v flags vertices coordinates rows) refl t)

  module _ (m : most ≤ 1048576) (a : Accepted most bytes flags vertices coordinates rows) where
    is : after ≡ wrote bytes n v flags vertices coordinates rows
    is = done_is (accepts most bytes flags vertices coordinates rows m a)

    pub answer_is : after.answer ≡ done 0 n
    unfolding wrote
    answer_is = ap (λ (r : Read). r.answer) is

    pub rows_are : after.loans.rows ≡ rows_of bytes n ++ drop (4 * n) rows
    unfolding wrote
    rows_are = ap (λ (r : Read). r.loans.rows) is

    pub flags_are : after.loans.flags ≡ flags_of bytes n ++ drop n flags
    unfolding wrote
    flags_are = ap (λ (r : Read). r.loans.flags) is

    pub vertices_are : after.loans.vertices ≡ (slots_of bytes n v).marks ++ drop n vertices
    unfolding wrote
    vertices_are = ap (λ (r : Read). r.loans.vertices) is

    pub coordinates_are : after.loans.coordinates ≡ (slots_of bytes n v).coordinates ++ drop (3 * n) coordinates
    unfolding wrote
    coordinates_are = ap (λ (r : Read). r.loans.coordinates) is

    pub rows_say : (i d : ℕ) → i < 4 → d < n → beta after.loans.rows i d ≡ word32 bytes (28 + 16 * d + 4 * i)
    rows_say i d hi hd =
        ap (λ (l : List ℕ). get_or l (4 * d + i) 0) rows_are ∙ front (rows_of bytes n) rows (4 * n) (4 * d + i) 0 (rows_length bytes n) (omega arith)
        ∙ sym (stored_is bytes n i d hi hd)

    pub rows_keep : (k : ℕ) → 4 * n ≤ k → get_or after.loans.rows k 0 ≡ get_or rows k 0
    rows_keep k h = ap (λ (l : List ℕ). get_or l k 0) rows_are ∙ back (rows_of bytes n) rows (4 * n) k 0 (rows_length bytes n) h

    pub flags_say : (d : ℕ) → d < n → get_or after.loans.flags d 0 ≡ flag_at bytes n d
    flags_say d h =
        ap (λ (l : List ℕ). get_or l d 0) flags_are
        ∙ front (flags_of bytes n) flags n d 0 (flags_length bytes n) h ∙ sym (flag_is bytes n d h)

    pub flags_keep : (k : ℕ) → n ≤ k → get_or after.loans.flags k 0 ≡ get_or flags k 0
    flags_keep k h = ap (λ (l : List ℕ). get_or l k 0) flags_are ∙ back (flags_of bytes n) flags n k 0 (flags_length bytes n) h

    pub vertices_keep : (k : ℕ) → n ≤ k → get_or after.loans.vertices k 0 ≡ get_or vertices k 0
    vertices_keep k h =
        ap (λ (l : List ℕ). get_or l k 0) vertices_are ∙ back (slots_of bytes n v).marks vertices n k 0 (slot_marks bytes n v) h

    pub coordinates_keep : (k : ℕ) → 3 * n ≤ k → get_or after.loans.coordinates k nan ≡ get_or coordinates k nan
    coordinates_keep k h =
        ap (λ (l : List Float). get_or l k nan) coordinates_are
        ∙ back (slots_of bytes n v).coordinates coordinates (3 * n) k nan (slot_coordinates bytes n v) h

    -- a slot of the image, as the loans have it
    slot_is : (d : ℕ) → d < n → (mark : ℕ) (point : ℕ → Float) → Holds (slots_of bytes n v) d mark point →
        Holds (slots after.loans.vertices after.loans.coordinates) d mark point
    slot_is d h mark point s =
        record {
          marked =
              ap (λ (l : List ℕ). get_or l d 0) vertices_are ∙ front (slots_of bytes n v).marks vertices n d 0 (slot_marks bytes n v) h ∙ s.marked;
          placed =
              λ j l.
              ap (λ (x : List Float). get_or x (3 * d + j) nan) coordinates_are
              ∙ front (slots_of bytes n v).coordinates coordinates (3 * n) (3 * d + j) nan (slot_coordinates bytes n v) (omega arith)
              ∙ s.placed j l;
        }

    named : (k : ℕ) → k < v → Holds (slots_of bytes n v) (record_dart bytes (record_at n k)) 1 (record_coordinate bytes (record_at n k))
    unfolding slots_of
    named k h =
        let l₁ : length (no_marks n) ≡ n = listed_length (λ (j : ℕ). 0) n in
        let l₂ : length (no_coordinates n) ≡ 3 * n = listed_length (λ (j : ℕ). plus_zero) (3 * n) in
        many_named v bytes n (vertex_offset form1 n) (empty_slots n) a.image.vertices.sound a.image.vertices.ascend (omega arith) (omega arith) k h

    unnamed : (d : ℕ) → d < n → ((k : ℕ) → k < v → record_dart bytes (record_at n k) ≢ d) → Holds (slots_of bytes n v) d 0 (λ (j : ℕ). plus_zero)
    unfolding slots_of
    unnamed d h none = many_other v bytes (vertex_offset form1 n) (empty_slots n) d 0 (λ (j : ℕ). plus_zero) none (empty_holds n d h)

    pub vertex_says : (k : ℕ) → k < v →
        Holds (slots after.loans.vertices after.loans.coordinates) (record_dart bytes (record_at n k)) 1 (record_coordinate bytes (record_at n k))
    vertex_says k h =
        slot_is (record_dart bytes (record_at n k)) (a.image.vertices.sound k h).below 1 (record_coordinate bytes (record_at n k)) (named k h)

    pub no_vertex_says : (d : ℕ) → d < n → ((k : ℕ) → k < v → record_dart bytes (record_at n k) ≢ d) →
        Holds (slots after.loans.vertices after.loans.coordinates) d 0 (λ (j : ℕ). plus_zero)
    no_vertex_says d h none = slot_is d h 0 (λ (j : ℕ). plus_zero) (unnamed d h none)

-- the public reading
pub read_image_iff : (bytes flags vertices : List ℕ) (coordinates : List Float) (rows : List ℕ) →
    (is_ok (read_image bytes flags vertices coordinates rows).answer ≡ true) ↔ Accepted 1048576 bytes flags vertices coordinates rows
read_image_iff bytes flags vertices coordinates rows = read_iff 1048576 bytes flags vertices coordinates rows (omega arith)
