-- The laws of the test of the vertex records. Assumes nothing.
--   record_low, record_high, record_first, record_second, record_third   each case of one record
--   records_start, records_bad, records_next, records_end   the turns of the test of all
--   vertices_bad, vertices_pass   each case of the test
--   vertices_done   records that pass keep the rules
--   vertices_good   records that keep the rules pass
use Prim.Native.Nat.{ℕ, zero, suc, ◌+◌, ◌-◌, ◌*◌, ◌<◌, ◌≤◌}
use native.Mathlib.Omega.{arith}
use mathlib.Core.Path.{◌≡◌, refl, sym, ap, ◌∙◌}
use mathlib.Core.List.{List}
use mathlib.Core.Bool.{true, false}
use lib.Dec.{ltb}
use lib.Ieee.Scale.{finite}
use borrow.Author.Tests.{lt-ltb, le-ltb, ltb-true}
use Rattle.map_betas.specs.declared.error.Refusal.TheVariants.{BadImage}
use Rattle.map_betas.specs.Answers.{pass}
use Rattle.image_form.specs.Form.{form1, vertex_offset, record_dart, record_coordinate, Sound, Vertices}
use Rattle.image_form.specs.Tests.{unless, record_good, records_good, vertices_test}
use Rattle.image_form.proofs.HeaderLaws.{unless_done}
use Rattle.image_form.proofs.FlagLaws.{and_true}
use Rattle.std.specs.Prelude.{Err, is_ok}

-- one record

module _ (bytes : List ℕ) (n at last : ℕ) where
  pub record_low : record_dart bytes at ≤ last → false ≡ record_good bytes n at last
  unfolding record_good
  record_low h = simp (le-ltb last (record_dart bytes at) h)

  module _ (a : last < record_dart bytes at) where
    pub record_high : n ≤ record_dart bytes at → false ≡ record_good bytes n at last
    unfolding record_good
    record_high h = simp (lt-ltb last (record_dart bytes at) a, le-ltb (record_dart bytes at) n h)

    module _ (b : record_dart bytes at < n) where
      pub record_first : finite (record_coordinate bytes at 0) ≡ false → false ≡ record_good bytes n at last
      unfolding record_good
      record_first h = simp (lt-ltb last (record_dart bytes at) a, lt-ltb (record_dart bytes at) n b, h)

      module _ (x : finite (record_coordinate bytes at 0) ≡ true) where
        pub record_second : finite (record_coordinate bytes at 1) ≡ false → false ≡ record_good bytes n at last
        unfolding record_good
        record_second h = simp (lt-ltb last (record_dart bytes at) a, lt-ltb (record_dart bytes at) n b, x, h)

        pub record_third : finite (record_coordinate bytes at 1) ≡ true → finite (record_coordinate bytes at 2) ≡ record_good bytes n at last
        unfolding record_good
        record_third h = simp (lt-ltb last (record_dart bytes at) a, lt-ltb (record_dart bytes at) n b, x, h)

  record_sound : record_good bytes n at last ≡ true → (last < record_dart bytes at) × Sound bytes n at
  unfolding record_good
  record_sound t =
      let a = and_true (ltb last (record_dart bytes at)) _ t in
      let b = and_true (ltb (record_dart bytes at) n) _ a.1 in
      let x = and_true (finite (record_coordinate bytes at 0)) _ b.1 in
      let y = and_true (finite (record_coordinate bytes at 1)) (finite (record_coordinate bytes at 2)) x.1 in
      (ltb-true _ _ a.0, record { below = ltb-true _ _ b.0; finite = three x.0 y.0 y.1 })
    where
      three : finite (record_coordinate bytes at 0) ≡ true → finite (record_coordinate bytes at 1) ≡ true → finite (record_coordinate bytes at 2) ≡ true →
          (j : ℕ) → j < 3 → finite (record_coordinate bytes at j) ≡ true
      three x y z zero h = x
      three x y z (suc zero) h = y
      three x y z (suc (suc zero)) h = z
      three x y z (suc (suc (suc j))) h = absurd (omega arith)

  sound_record : last < record_dart bytes at → Sound bytes n at → record_good bytes n at last ≡ true
  sound_record a s =
      sym (record_third a s.below (s.finite 0 (omega arith)) (s.finite 1 (omega arith))) ∙ s.finite 2 (omega arith)

-- the turns: k of the v records from `from` on are passed

module _ (bytes : List ℕ) (n from last v k : ℕ) where
  pub records_bad : k < v → record_good bytes n (from + 28 * k) last ≡ false → false ≡ records_good (v - k) bytes n (from + 28 * k) last
  unfolding records_good
  records_bad h b =
      let p : v - k ≡ suc (v - (k + 1)) = omega arith in
      rw p (simp b)

  pub records_next : (d : ℕ) → k < v → record_good bytes n (from + 28 * k) last ≡ true → d ≡ record_dart bytes (from + 28 * k) →
      records_good (v - k) bytes n (from + 28 * k) last ≡ records_good (v - (k + 1)) bytes n (from + 28 * (k + 1)) d
  unfolding records_good
  records_next d h b e =
      let p : v - k ≡ suc (v - (k + 1)) = omega arith in
      let q : from + 28 * (k + 1) ≡ from + 28 * k + 28 = omega arith in
      rw (p, q) (simp (b, e))

  pub records_end : v ≤ k → true ≡ records_good (v - k) bytes n (from + 28 * k) last
  unfolding records_good
  records_end h =
      let p : v - k ≡ 0 = omega arith in
      rw p refl

pub records_start : (bytes : List ℕ) (n from v : ℕ) → records_good v bytes n from 0 ≡ records_good (v - 0) bytes n (from + 0) 0
records_start bytes n from v =
    let p : v - 0 ≡ v = omega arith in
    let q : from + 0 ≡ from = omega arith in
    rw (p, q) refl

-- what k records from `at` on keep, behind `last`
record Run (k : ℕ) (bytes : List ℕ) (n at last : ℕ) : Type 0 where
  behind : (j : ℕ) → j < k → last < record_dart bytes (at + 28 * j)
  ascend : (i j : ℕ) → i < j → j < k → record_dart bytes (at + 28 * i) < record_dart bytes (at + 28 * j)
  sound : (j : ℕ) → j < k → Sound bytes n (at + 28 * j)

none : (bytes : List ℕ) (n at last : ℕ) → Run 0 bytes n at last
none bytes n at last =
    record { behind = λ j h. absurd (omega arith); ascend = λ i j l h. absurd (omega arith); sound = λ j h. absurd (omega arith) }

module _ (k : ℕ) (bytes : List ℕ) (n at last : ℕ) where
  -- where a later record stands, seen from the next
  later : (j : ℕ) → at + 28 + 28 * j ≡ at + 28 * suc j
  later j = omega arith

  first : at + 28 * 0 ≡ at
  first = omega arith

  module _ (b : last < record_dart bytes at) (s : Sound bytes n at) (r : Run k bytes n (at + 28) (record_dart bytes at)) where
    next_behind : (j : ℕ) → j < suc k → last < record_dart bytes (at + 28 * j)
    next_behind zero h = rw first b
    next_behind (suc j) h =
        let a : record_dart bytes at < record_dart bytes (at + 28 + 28 * j) = r.behind j (omega arith) in
        let e : record_dart bytes (at + 28 + 28 * j) ≡ record_dart bytes (at + 28 * suc j) = ap (record_dart bytes) (later j) in
        omega arith

    next_ascend : (i j : ℕ) → i < j → j < suc k → record_dart bytes (at + 28 * i) < record_dart bytes (at + 28 * j)
    next_ascend i zero l h = absurd (omega arith)
    next_ascend zero (suc j) l h =
        rw (first, ← later j) (r.behind j (omega arith))
    next_ascend (suc i) (suc j) l h =
        rw (← later i, ← later j) (r.ascend i j (omega arith) (omega arith))

    next_sound : (j : ℕ) → j < suc k → Sound bytes n (at + 28 * j)
    next_sound zero h = rw first s
    next_sound (suc j) h = rw (← later j) (r.sound j (omega arith))

    next : Run (suc k) bytes n at last
    next = record { behind = next_behind; ascend = next_ascend; sound = next_sound }

  module _ (r : Run (suc k) bytes n at last) where
    head_behind : last < record_dart bytes at
    head_behind = rw first at (r.behind 0 (omega arith))

    head_sound : Sound bytes n at
    head_sound = rw first at (r.sound 0 (omega arith))

    tail : Run k bytes n (at + 28) (record_dart bytes at)
    tail =
        record {
          behind = λ j h. rw (first, ← later j) at (r.ascend 0 (suc j) (omega arith) (omega arith));
          ascend = λ i j l h. rw (← later i, ← later j) at (r.ascend (suc i) (suc j) (omega arith) (omega arith));
          sound = λ j h. rw (← later j) at (r.sound (suc j) (omega arith));
        }

run_of : (k : ℕ) (bytes : List ℕ) (n at last : ℕ) → records_good k bytes n at last ≡ true → Run k bytes n at last
unfolding records_good
run_of zero bytes n at last t = none bytes n at last
run_of (suc k) bytes n at last t =
    let a = and_true (record_good bytes n at last) _ t in
    let b = record_sound bytes n at last a.0 in
    next k bytes n at last b.0 b.1 (run_of k bytes n (at + 28) (record_dart bytes at) a.1)

run_good : (k : ℕ) (bytes : List ℕ) (n at last : ℕ) → Run k bytes n at last → records_good k bytes n at last ≡ true
unfolding records_good
run_good zero bytes n at last r = refl
run_good (suc k) bytes n at last r =
    simp (sound_record bytes n at last (head_behind k bytes n at last r) (head_sound k bytes n at last r))
    (run_good k bytes n (at + 28) (record_dart bytes at) (tail k bytes n at last r))

-- the test

-- `from` is what the code has for the start of the records
module _ (bytes : List ℕ) (n v from : ℕ) (f : from ≡ vertex_offset form1 n) where
  pub vertices_bad : records_good v bytes n from 0 ≡ false → Err (BadImage 8) ≡ vertices_test bytes n v
  unfolding vertices_test unless
  vertices_bad h = simp (← f, h)

  pub vertices_pass : records_good v bytes n from 0 ≡ true → pass ≡ vertices_test bytes n v
  unfolding vertices_test unless
  vertices_pass h = simp (← f, h)

module _ (bytes : List ℕ) (n v : ℕ) where
  pub vertices_done : is_ok (vertices_test bytes n v) ≡ true → Vertices bytes n v
  unfolding vertices_test
  vertices_done t =
      let r = run_of v bytes n (vertex_offset form1 n) 0 (unless_done _ _ _ t).0 in
      record { real = λ k h. r.behind k h; ascend = r.ascend; sound = r.sound }

  pub vertices_good : Vertices bytes n v → vertices_test bytes n v ≡ pass
  vertices_good s =
      sym
      (vertices_pass bytes n v (vertex_offset form1 n) refl
      (run_good v bytes n (vertex_offset form1 n) 0 (record { behind = λ k h. s.real k h; ascend = s.ascend; sound = s.sound })))
