-- Which slots hold points, their records, and whether they are finite. Assumes nothing.
--   bit_few                                a bit is 0 or 1
--   points_at, points_few, points_grow     how many there are: with a slot, at most, and in more slots
--   count_none, count_more                  the same as they are counted
--   record_length, records_length, point_length   how many bytes they take
--   records_at                              the records with a slot
--   point_none, point_some                  the test of a point: of none, and of one
--   point_whole                             a point is finite where its coordinates are
--   finite_all                              the test of the points from a slot on passes where each does
--   finite_at, point_parts                  what holds where it passes
use mathlib.Core.Path.{◌≡◌, refl, sym, ap, ◌∙◌, subst}
use mathlib.Core.Logic.{by_cases, ◌≢◌}
use mathlib.Core.List.{List, [], ◌∷◌, ◌++◌, append-nil}
use mathlib.Core.Bool.{Bool, true, false, cond, not, ◌&&◌, true≢false}
use Prim.Native.Nat.{ℕ, zero, suc, ◌+◌, ◌*◌, ◌-◌, ◌<◌, ◌≤◌}
use native.Mathlib.Omega.{arith}
use native.Mathlib.Decide.{ℕ_discrete}
use lib.ListN.{length, get_or, length-append}
use lib.Dec.{eqb}
use lib.Ieee.{Float, nan}
use lib.Ieee.Scale.{finite}
use borrow.Author.Tests.{eq-eqb, ne_eqb}
use Rattle.image_store.specs.Stores.{stored, stored_each}
use Rattle.image_store.proofs.Stored.{each_append, each_length}
use Rattle.image_blocks.specs.Image.{bit_of, points, point_finite, finite_from, record_bytes, point_bytes}

pub bit_few : (x : ℕ) → bit_of x ≤ 1
bit_few x = go (eqb x 0)
  where
    go : (b : Bool) → cond b 0 1 ≤ 1
    go true = omega arith
    go false = omega arith

module _ (marks : List ℕ) where
  points_suc : (k : ℕ) → length (points marks (suc k)) ≡ length (points marks k) + bit_of (get_or marks (suc k) 0)
  unfolding points
  points_suc k = length-append (points marks k) _ ∙ go (eqb (get_or marks (suc k) 0) 0)
    where
      go : (b : Bool) → length (points marks k) + length (cond (not b) (suc k ∷ []) []) ≡ length (points marks k) + cond b 0 1
      go true = refl
      go false = refl

  pub points_at : (d : ℕ) → 1 ≤ d → length (points marks d) ≡ length (points marks (d - 1)) + bit_of (get_or marks d 0)
  points_at zero h = absurd (omega arith)
  points_at (suc k) h =
      let z : suc k - 1 ≡ k = omega arith in
      points_suc k ∙ ap (λ (j : ℕ). length (points marks j) + bit_of (get_or marks (suc k) 0)) (sym z)

  pub points_few : (k : ℕ) → length (points marks k) ≤ k
  unfolding points
  points_few zero = omega arith
  points_few (suc k) =
      let h = points_few k in
      let m = points_suc k in
      let b = bit_few (get_or marks (suc k) 0) in
      omega arith

  pub points_grow : (j k : ℕ) → length (points marks k) ≤ length (points marks (j + k))
  points_grow zero k = let z : 0 + k ≡ k = omega arith in rw z (omega arith)
  points_grow (suc j) k =
      let z : suc j + k ≡ suc (j + k) = omega arith in
      let h = points_grow j k in
      let m = points_suc (j + k) in
      rw z (omega arith)

  -- the count before slot 1, and one slot on
  pub count_none : 0 ≡ length (points marks (1 - 1))
  unfolding points
  count_none = refl

  pub count_more : (d v b : ℕ) → 1 ≤ d → v ≡ length (points marks (d - 1)) → b ≡ bit_of (get_or marks d 0) → v + b ≡ length (points marks (d + 1 - 1))
  count_more d v b s e g =
      let m = points_at d s in
      let z : d + 1 - 1 ≡ d = omega arith in
      rw z (omega arith)

pub record_length : (coordinates : List Float) (d : ℕ) → length (record_bytes coordinates d) ≡ 28
unfolding record_bytes stored
record_length coordinates d = refl

module _ (marks : List ℕ) (coordinates : List Float) where
  pub records_length : (k : ℕ) → length (stored_each (record_bytes coordinates) (points marks k)) ≡ 28 * length (points marks k)
  records_length k = each_length (record_bytes coordinates) 28 (record_length coordinates) (points marks k)

  pub point_length : (d : ℕ) → length (point_bytes marks coordinates d) ≡ 28 * bit_of (get_or marks d 0)
  unfolding point_bytes
  point_length d = go (eqb (get_or marks d 0) 0)
    where
      go : (b : Bool) → length (cond (not b) (record_bytes coordinates d) []) ≡ 28 * cond b 0 1
      go true = refl
      go false = record_length coordinates d

  records_suc : (k : ℕ) → stored_each (record_bytes coordinates) (points marks (suc k)) ≡
      stored_each (record_bytes coordinates) (points marks k) ++ point_bytes marks coordinates (suc k)
  unfolding points point_bytes stored_each
  records_suc k =
      each_append (record_bytes coordinates) (points marks k) (cond (not (eqb (get_or marks (suc k) 0) 0)) (suc k ∷ []) [])
      ∙ ap (λ (l : List ℕ). stored_each (record_bytes coordinates) (points marks k) ++ l) (go (eqb (get_or marks (suc k) 0) 0))
    where
      go : (b : Bool) → stored_each (record_bytes coordinates) (cond (not b) (suc k ∷ []) []) ≡ cond (not b) (record_bytes coordinates (suc k)) []
      go true = refl
      go false = append-nil (record_bytes coordinates (suc k))

  pub records_at : (d : ℕ) → 1 ≤ d → stored_each (record_bytes coordinates) (points marks d) ≡
      stored_each (record_bytes coordinates) (points marks (d - 1)) ++ point_bytes marks coordinates d
  records_at zero h = absurd (omega arith)
  records_at (suc k) h =
      let z : suc k - 1 ≡ k = omega arith in
      records_suc k ∙ ap (λ (j : ℕ). stored_each (record_bytes coordinates) (points marks j) ++ point_bytes marks coordinates (suc k)) (sym z)

  module _ (d : ℕ) where
    pub point_none : get_or marks d 0 ≡ 0 → true ≡ point_finite marks coordinates d
    unfolding point_finite
    point_none e = rw (eq-eqb (get_or marks d 0) 0 e) refl

    module _ (e : get_or marks d 0 ≢ 0) where
      pub point_some : finite (get_or coordinates (3 * d) nan)
          && (finite (get_or coordinates (3 * d + 1) nan) && finite (get_or coordinates (3 * d + 2) nan)) ≡ point_finite marks coordinates d
      unfolding point_finite
      point_some = rw (ne_eqb (get_or marks d 0) 0 e) refl

      pub point_whole : ((j : ℕ) → j < 3 → finite (get_or coordinates (3 * d + j) nan) ≡ true) → point_finite marks coordinates d ≡ true
      point_whole h =
          let z : 3 * d ≡ 3 * d + 0 = omega arith in
          sym point_some ∙ simp (ap (λ (k : ℕ). finite (get_or coordinates k nan)) z ∙ h 0 (omega arith), h 1 (omega arith), h 2 (omega arith))

      pub point_parts : point_finite marks coordinates d ≡ true → (j : ℕ) → j < 3 → finite (get_or coordinates (3 * d + j) nan) ≡ true
      unfolding point_finite
      point_parts t j h =
          let z : 3 * d + 0 ≡ 3 * d = omega arith in
          let p : both₃ ≡ true = subst (λ (b : Bool). cond (not b) both₃ true ≡ true) (ne_eqb (get_or marks d 0) 0 e) t in
          let a = and_parts (finite (get_or coordinates (3 * d) nan))
          (finite (get_or coordinates (3 * d + 1) nan) && finite (get_or coordinates (3 * d + 2) nan)) p in
          let b = and_parts (finite (get_or coordinates (3 * d + 1) nan)) (finite (get_or coordinates (3 * d + 2) nan)) a.1 in
          pick j h (ap (λ (k : ℕ). finite (get_or coordinates k nan)) z ∙ a.0) b.0 b.1
        where
          both₃ : Bool
          both₃ =
              finite (get_or coordinates (3 * d) nan) && (finite (get_or coordinates (3 * d + 1) nan) && finite (get_or coordinates (3 * d + 2) nan))

          and_parts : (x y : Bool) → x && y ≡ true → (x ≡ true) × (y ≡ true)
          and_parts true y s = (refl, s)
          and_parts false y s = absurd (true≢false (sym s))

          pick : (j : ℕ) → j < 3 → finite (get_or coordinates (3 * d + 0) nan) ≡ true → finite (get_or coordinates (3 * d + 1) nan) ≡ true →
              finite (get_or coordinates (3 * d + 2) nan) ≡ true → finite (get_or coordinates (3 * d + j) nan) ≡ true
          pick zero h x y z = x
          pick (suc zero) h x y z = y
          pick (suc (suc zero)) h x y z = z
          pick (suc (suc (suc j))) h x y z = absurd (omega arith)

  pub finite_all : (k d : ℕ) → ((e : ℕ) → d ≤ e → e < d + k → point_finite marks coordinates e ≡ true) → finite_from marks coordinates d k ≡ true
  unfolding finite_from
  finite_all zero d h = refl
  finite_all (suc k) d h =
      ap (λ (b : Bool). b && finite_from marks coordinates (suc d) k) (h d (omega arith) (omega arith))
      ∙ finite_all k (suc d) (λ e l m. h e (omega arith) (omega arith))

  pub finite_at : (k d e : ℕ) → finite_from marks coordinates d k ≡ true → d ≤ e → e < d + k → point_finite marks coordinates e ≡ true
  unfolding finite_from
  finite_at zero d e t l h = absurd (omega arith)
  finite_at (suc k) d e t l h =
      by_cases (ℕ_discrete d e)
      (λ (q : d ≡ e). ap (point_finite marks coordinates) (sym q) ∙ left (point_finite marks coordinates d) (finite_from marks coordinates (suc d) k) t)
      (λ (q : d ≢ e). finite_at k (suc d) e (right (point_finite marks coordinates d) (finite_from marks coordinates (suc d) k) t) (omega arith) (omega arith))
    where
      left : (x y : Bool) → x && y ≡ true → x ≡ true
      left true y s = refl
      left false y s = absurd (true≢false (sym s))

      right : (x y : Bool) → x && y ≡ true → y ≡ true
      right true y s = s
      right false y s = absurd (true≢false (sym s))
