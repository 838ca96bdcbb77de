-- What the reader makes of an image that was written. Assumes nothing.
--   darts_is, vertices_is   how many darts and records it says
--   header, flags_fine, vertices_fine, rows_is   its blocks are as they have to be
--   map_fine                its rows and flags are a map
--   accepted                the reader accepts it, with loans that are long enough
--   back                    and gives back what was written
use Prim.Native.Nat.{ℕ, ◌+◌, ◌*◌, ◌-◌, ◌<◌, ◌≤◌}
use native.Mathlib.Omega.{arith}
use native.Mathlib.Decide.{ℕ_discrete}
use mathlib.Core.Path.{◌≡◌, sym, ap, ◌∙◌, subst}
use mathlib.Core.Logic.{◌≢◌, by_cases}
use mathlib.Core.List.{List, ◌++◌}
use mathlib.Core.Bool.{Bool, cond}
use lib.ListN.{length, get_or, take, drop}
use lib.Seq.{ext_get_or, take_at}
use lib.Ieee.{Float, nan}
use lib.Ieee.Scale.{finite}
use borrow.Author.Tests.{eq-eqb, ne_eqb}
use Rattle.map_betas.specs.Betas.{darts}
use Rattle.map_betas.specs.Maps.{Map}
use Rattle.image_words.specs.Words.{word32}
use Rattle.image_words.proofs.Filled.{listed_length, listed_get}
use Rattle.image_form.specs.Form.{form1, flag_offset, vertex_offset, total_bytes, darts_of, vertices_of, rows_of, flag_at, record_at, record_dart, record_coordinate}
use Rattle.image_form.specs.Form.{flags_of, Header, Flags, Vertices}
use Rattle.image_form.proofs.StoredLaws.{flags_length, flag_is}
use Rattle.image_reader.specs.Reads.{Read, read_image, Accepted}
use Rattle.image_reader.proofs.Written.{answer_is, rows_are, flags_say, vertex_says, no_vertex_says}
use Rattle.image_blocks.specs.Image.{bit_of, points, image_of}
use Rattle.image_blocks.proofs.PointLaws.{bit_few, finite_at, point_parts}
use Rattle.image_writer.specs.Writes.{Writable}
use Rattle.image_writer.proofs.WriteLaws.{sizes, image_length}
use Rattle.image_trips.specs.Trips.{Doubles, GivenBack}
use Rattle.image_trips.proofs.Flagged.{other_flags}
use Rattle.image_trips.proofs.Slots.{at_points, points_ascend, points_named}
use Rattle.image_trips.proofs.Image.{header_says_lem, row_says, flag_says, dart_says, coordinate_says}
use Rattle.map_betas.specs.Answers.{done}

bit_none : (x : ℕ) → x ≡ 0 → bit_of x ≡ 0
bit_none x e = ap (λ (b : Bool). cond b 0 1) (eq-eqb x 0 e)

bit_one : (x : ℕ) → x ≢ 0 → bit_of x ≡ 1
bit_one x e = ap (λ (b : Bool). cond b 0 1) (ne_eqb x 0 e)

module _ (rows flags vertices : List ℕ) (coordinates : List Float) (w : Writable rows flags vertices coordinates) (f : Doubles coordinates) where
  abbrev n : ℕ
  n = darts rows

  abbrev ps : List ℕ
  ps = points vertices (n - 1)

  abbrev v : ℕ
  v = length ps

  abbrev image : List ℕ
  image = image_of rows flags vertices coordinates

  size : (1 ≤ n) × (n ≤ 1048576) × (length rows ≡ 4 * n) × (v < n)
  size = sizes rows flags vertices coordinates w

  long : length image ≡ total_bytes form1 n v
  long = image_length rows flags vertices coordinates w

  -- ---- the header

  pub darts_is : darts_of image ≡ n
  darts_is = let s = size.1 in let b : n < 4294967296 = omega arith in header_says_lem rows flags vertices coordinates w 2 (omega arith) b

  pub vertices_is : vertices_of image ≡ v
  vertices_is = let s = size.1 in let t = size.3 in let b : v < 4294967296 = omega arith in header_says_lem rows flags vertices coordinates w 5 (omega arith) b

  header : Header form1 1048576 image
  header =
      let a = size.0 in
      let s = size.1 in
      let t = size.3 in
      let l = long in
      let d = darts_is in
      let u = vertices_is in
      let b₀ : 1 < 4294967296 = omega arith in
      let b₁ : total_bytes form1 n v < 4294967296 = omega arith in
      let b₃ : 28 < 4294967296 = omega arith in
      let b₄ : flag_offset form1 n < 4294967296 = omega arith in
      let b₆ : vertex_offset form1 n < 4294967296 = omega arith in
      record {
        whole = omega arith;
        form = header_says_lem rows flags vertices coordinates w 0 (omega arith) b₀;
        total = header_says_lem rows flags vertices coordinates w 1 (omega arith) b₁ ∙ sym l;
        some = omega arith;
        few = omega arith;
        rows_start = header_says_lem rows flags vertices coordinates w 3 (omega arith) b₃;
        flags_start = header_says_lem rows flags vertices coordinates w 4 (omega arith) b₄ ∙ ap (flag_offset form1) (sym d);
        vertex_count = omega arith;
        fits = omega arith;
        vertices_start = header_says_lem rows flags vertices coordinates w 6 (omega arith) b₆ ∙ ap (vertex_offset form1) (sym d);
      }

  -- ---- the blocks

  flags_fine : Flags image n
  flags_fine =
      let a = size.0 in
      record {
        null = flag_says rows flags vertices coordinates w 0 (omega arith) ∙ bit_none (get_or flags 0 0) w.null;
        each = λ d h. let e = flag_says rows flags vertices coordinates w d h in let b = bit_few (get_or flags d 0) in omega arith;
      }

  slot : (j : ℕ) → j < v → (1 ≤ get_or ps j 0) × (get_or ps j 0 < n) × (get_or vertices (get_or ps j 0) 0 ≢ 0)
  slot j h =
      let s = at_points vertices (n - 1) j h in
      let a = size.0 in
      let b = s.1 in
      (s.0, omega arith, s.2)

  dart_is : (j : ℕ) → j < v → record_dart image (record_at n j) ≡ get_or ps j 0
  dart_is j h = dart_says rows flags vertices coordinates w j h (slot j h).1

  vertices_fine : Vertices image n v
  vertices_fine =
      record {
        real = λ k h. let e = dart_is k h in let s = (slot k h).0 in omega arith;
        ascend =
            λ j k a h.
            let e = dart_is j (omega arith) in
            let g = dart_is k h in
            let s = points_ascend vertices (n - 1) j k a h in
            omega arith;
        sound =
            λ k h.
            let s = slot k h in
            let e = dart_is k h in
            let b = s.0 in
            let c = s.1 in
            record {
              below = omega arith;
              finite =
                  λ j l.
                  ap finite (coordinate_says rows flags vertices coordinates w f k j h l)
                  ∙ point_parts vertices coordinates (get_or ps k 0) s.2
                  (finite_at vertices coordinates (n - 1) 1 (get_or ps k 0) w.finite b (omega arith)) j l;
            };
      }

  rows_is : rows_of image n ≡ rows
  rows_is =
      let s = size.2 in
      let l = listed_length (λ (k : ℕ). word32 image (28 + 4 * k)) (4 * n) in
      ext_get_or 0 (rows_of image n) rows (omega arith) (λ i h.
      listed_get (λ (k : ℕ). word32 image (28 + 4 * k)) 0 (4 * n) i (omega arith) ∙ row_says rows flags vertices coordinates w i (omega arith))

  -- a flag that is 0 is stored as 0
  map_fine : Map (rows_of image n) (flags_of image n)
  map_fine =
      let l = flags_length image n in
      subst (λ (r : List ℕ). Map r (flags_of image n)) (sym rows_is)
      (other_flags rows flags (flags_of image n) w.map (omega arith) (λ d h z.
      sym (flag_is image n d h) ∙ flag_says rows flags vertices coordinates w d h ∙ bit_none (get_or flags d 0) z))

  -- ---- what is read into loans that are long enough

  module _ (flags' vertices' : List ℕ) (coordinates' : List Float) (rows' : List ℕ) (a : n ≤ length flags') (b : n ≤ length vertices')
      (c : 3 * n ≤ length coordinates') (d : 4 * n ≤ length rows') where
    pub accepted : Accepted 1048576 image flags' vertices' coordinates' rows'
    accepted =
        let e = darts_is in
        record {
          image =
              record {
                header = header;
                flags = subst (Flags image) (sym e) flags_fine;
                vertices =
                    subst (λ (m : ℕ). Vertices image m (vertices_of image)) (sym e) (subst (Vertices image n) (sym vertices_is) vertices_fine);
              };
          map = subst (λ (m : ℕ). Map (rows_of image m) (flags_of image m)) (sym e) map_fine;
          flag_room = omega arith;
          mark_room = omega arith;
          coordinate_room = omega arith;
          row_room = omega arith;
        }

    abbrev after : Read
    after = read_image image flags' vertices' coordinates' rows'

    enough : 1048576 ≤ 1048576
    enough = omega arith

    pub back_answer : after.answer ≡ done 0 n
    back_answer = answer_is 1048576 image flags' vertices' coordinates' rows' enough accepted ∙ ap (done 0) darts_is

    -- record k as the reader finds it
    found_dart : (k : ℕ) → k < v → record_dart image (record_at (darts_of image) k) ≡ get_or ps k 0
    found_dart k h = ap (λ (m : ℕ). record_dart image (record_at m k)) darts_is ∙ dart_is k h

    unnamed : (e : ℕ) → ((k : ℕ) → k < v → get_or ps k 0 ≢ e) → (k : ℕ) → k < vertices_of image → record_dart image (record_at (darts_of image) k) ≢ e
    unnamed e none k h q =
        let u = vertices_is in
        let i : k < v = omega arith in
        none k i (sym (found_dart k i) ∙ q)

    not_held : (e : ℕ) → get_or vertices e 0 ≡ 0 → (k : ℕ) → k < v → get_or ps k 0 ≢ e
    not_held e z k h q = (slot k h).2 (ap (λ (x : ℕ). get_or vertices x 0) q ∙ z)

    within : (e : ℕ) → e < n → e < darts_of image
    within e h = let q = darts_is in omega arith

    -- the record of a slot that holds a point
    record_of : (e : ℕ) → 1 ≤ e → e < n → get_or vertices e 0 ≢ 0 → (k : ℕ) × (k < vertices_of image) × (k < v) × (get_or ps k 0 ≡ e)
    record_of e l h q =
        let r = points_named vertices (n - 1) e (l, omega arith, q) in
        let u = vertices_is in
        let i = r.1 in
        (r.0, omega arith, r.1, r.2)

    marks_back : (e : ℕ) → 1 ≤ e → e < n → get_or after.loans.vertices e 0 ≡ bit_of (get_or vertices e 0)
    marks_back e l h = by_cases (ℕ_discrete (get_or vertices e 0) 0) none some
      where
        none : get_or vertices e 0 ≡ 0 → get_or after.loans.vertices e 0 ≡ bit_of (get_or vertices e 0)
        none q =
            (no_vertex_says 1048576 image flags' vertices' coordinates' rows' enough accepted e (within e h) (unnamed e (not_held e q))).marked
            ∙ sym (bit_none (get_or vertices e 0) q)

        some : get_or vertices e 0 ≢ 0 → get_or after.loans.vertices e 0 ≡ bit_of (get_or vertices e 0)
        some q =
            let r = record_of e l h q in
            ap (λ (x : ℕ). get_or after.loans.vertices x 0) (sym (found_dart r.0 r.2 ∙ r.3))
            ∙ (vertex_says 1048576 image flags' vertices' coordinates' rows' enough accepted r.0 r.1).marked
            ∙ sym (bit_one (get_or vertices e 0) q)

    points_back : (e : ℕ) → 1 ≤ e → e < n → get_or vertices e 0 ≢ 0 → (j : ℕ) → j < 3 →
        get_or after.loans.coordinates (3 * e + j) nan ≡ get_or coordinates (3 * e + j) nan
    points_back e l h q j i =
        let r = record_of e l h q in
        ap (λ (x : ℕ). get_or after.loans.coordinates (3 * x + j) nan) (sym (found_dart r.0 r.2 ∙ r.3))
        ∙ (vertex_says 1048576 image flags' vertices' coordinates' rows' enough accepted r.0 r.1).placed j i
        ∙ ap (λ (m : ℕ). record_coordinate image (record_at m r.0) j) darts_is
        ∙ coordinate_says rows flags vertices coordinates w f r.0 j r.2 i
        ∙ ap (λ (x : ℕ). get_or coordinates (3 * x + j) nan) r.3

    pub back : GivenBack rows flags vertices coordinates after.loans
    back =
        let s = size.0 in
        record {
          same_rows =
              ap (take (4 * n)) (rows_are 1048576 image flags' vertices' coordinates' rows' enough accepted
              ∙ ap (λ (m : ℕ). rows_of image m ++ drop (4 * m) rows') darts_is ∙ ap (λ (l : List ℕ). l ++ drop (4 * n) rows') rows_is)
              ∙ take_at rows (drop (4 * n) rows') (4 * n) size.2;
          same_flags =
              λ e h.
              flags_say 1048576 image flags' vertices' coordinates' rows' enough accepted e (within e h)
              ∙ ap (λ (m : ℕ). flag_at image m e) darts_is ∙ flag_says rows flags vertices coordinates w e h;
          same_marks = marks_back;
          same_points = points_back;
          no_null =
              (no_vertex_says 1048576 image flags' vertices' coordinates' rows' enough accepted 0 (within 0 (omega arith))
              (unnamed 0 (λ k h q. let p = (slot k h).0 in omega arith))).marked;
        }
