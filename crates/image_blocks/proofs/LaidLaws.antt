-- Blocks laid word by word. Assumes nothing.
--   bytes_kept         a run of stores keeps how many bytes there are
--   header_laid        seven words are the header's
--   four_parts         four runs of stores, one behind another, are one
--   record_laid        a word and three coordinates are a record
--   points_begin, points_none   before the first slot
--   points_room, points_place, points_step   one slot more: its record fits, and is laid
--   nothing_laid, something_room, something_laid   a slot without a point, and one with
--   first_finite       the coordinate that stands at the slot's own place
use mathlib.Core.Path.{◌≡◌, refl, sym, ap, ◌∙◌}
use mathlib.Core.Logic.{◌≢◌}
use mathlib.Core.Bool.{true}
use mathlib.Core.List.{List, [], ◌∷◌, ◌++◌}
use Prim.Native.Nat.{ℕ, ◌+◌, ◌*◌, ◌-◌, ◌<◌, ◌≤◌}
use native.Mathlib.Omega.{arith}
use lib.ListN.{length, get_or}
use lib.Seq.{sets, length-sets}
use lib.Ieee.{Float, nan, binary64, to_bits}
use lib.Ieee.Scale.{finite}
use borrow.Author.Tests.{eq-eqb, ne_eqb}
use Rattle.image_store.specs.Stores.{stored, stored_each, words, coordinate}
use Rattle.image_store.proofs.Stored.{stored_length, sets_append}
use Rattle.image_blocks.specs.Image.{points, record_bytes, point_bytes}
use Rattle.image_blocks.proofs.PointLaws.{points_at, points_grow, record_length, records_length, point_length, records_at}

pub bytes_kept : (l new : List ℕ) (at : ℕ) (xs : List ℕ) → new ≡ sets l at xs → length new ≡ length l
bytes_kept l new at xs e = ap length e ∙ length-sets l at xs

seven_words : (l : List ℕ) (a b c d e f g : ℕ) →
    sets (sets (sets (sets (sets (sets (sets l 0 (stored 4 a)) 4 (stored 4 b)) 8 (stored 4 c)) 12 (stored 4 d)) 16 (stored 4 e)) 20 (stored 4 f))
    24 (stored 4 g) ≡ sets l 0 (words (a ∷ b ∷ c ∷ d ∷ e ∷ f ∷ g ∷ []))
unfolding stored stored_each
seven_words l a b c d e f g = refl

-- b, e and g are computed: they are what they are said to be
module _ (l₀ l₁ l₂ l₃ l₄ l₅ l₆ l₇ : List ℕ) (a b c d e f g b' e' g' : ℕ) (p : b ≡ b') (q : e ≡ e') (r : g ≡ g') where
  pub header_laid : l₁ ≡ sets l₀ 0 (stored 4 a) → l₂ ≡ sets l₁ 4 (stored 4 b) → l₃ ≡ sets l₂ 8 (stored 4 c) → l₄ ≡ sets l₃ 12 (stored 4 d) →
      l₅ ≡ sets l₄ 16 (stored 4 e) → l₆ ≡ sets l₅ 20 (stored 4 f) → l₇ ≡ sets l₆ 24 (stored 4 g) →
      l₇ ≡ sets l₀ 0 (words (a ∷ b' ∷ c ∷ d ∷ e' ∷ f ∷ g' ∷ []))
  header_laid q₁ q₂ q₃ q₄ q₅ q₆ q₇ =
      q₇ ∙ ap (λ (l : List ℕ). sets l 24 (stored 4 g)) (q₆ ∙ ap (λ (l : List ℕ). sets l 20 (stored 4 f)) (q₅
      ∙ ap (λ (l : List ℕ). sets l 16 (stored 4 e)) (q₄ ∙ ap (λ (l : List ℕ). sets l 12 (stored 4 d)) (q₃
      ∙ ap (λ (l : List ℕ). sets l 8 (stored 4 c)) (q₂ ∙ ap (λ (l : List ℕ). sets l 4 (stored 4 b)) q₁)))))
      ∙ seven_words l₀ a b c d e f g
      ∙ ap (λ (x : ℕ). sets l₀ 0 (words (a ∷ x ∷ c ∷ d ∷ e ∷ f ∷ g ∷ []))) p
      ∙ ap (λ (x : ℕ). sets l₀ 0 (words (a ∷ b' ∷ c ∷ d ∷ x ∷ f ∷ g ∷ []))) q
      ∙ ap (λ (x : ℕ). sets l₀ 0 (words (a ∷ b' ∷ c ∷ d ∷ e' ∷ f ∷ x ∷ []))) r

-- four parts, one behind another
module _ (l₀ l₁ l₂ l₃ l₄ : List ℕ) (at at₁ at₂ at₃ : ℕ) (w x y z : List ℕ) where
  pub four_parts : at₁ ≡ at + length w → at₂ ≡ at₁ + length x → at₃ ≡ at₂ + length y → l₁ ≡ sets l₀ at w → l₂ ≡ sets l₁ at₁ x → l₃ ≡ sets l₂ at₂ y →
      l₄ ≡ sets l₃ at₃ z → l₄ ≡ sets l₀ at (w ++ (x ++ (y ++ z)))
  four_parts e₁ e₂ e₃ q₁ q₂ q₃ q₄ =
      q₄ ∙ ap (λ (l : List ℕ). sets l at₃ z) (q₃ ∙ ap (λ (l : List ℕ). sets l at₂ y) (q₂ ∙ ap (λ (l : List ℕ). sets l at₁ x) q₁))
      ∙ ap (λ (k : ℕ). sets (sets (sets (sets l₀ at w) at₁ x) at₂ y) k z) e₃
      ∙ sym (sets_append (sets (sets l₀ at w) at₁ x) at₂ y z)
      ∙ ap (λ (k : ℕ). sets (sets (sets l₀ at w) at₁ x) k (y ++ z)) e₂
      ∙ sym (sets_append (sets l₀ at w) at₁ x (y ++ z))
      ∙ ap (λ (k : ℕ). sets (sets l₀ at w) k (x ++ (y ++ z))) e₁
      ∙ sym (sets_append l₀ at w (x ++ (y ++ z)))

pub record_laid : (l₀ l₁ l₂ l₃ l₄ : List ℕ) (at d : ℕ) (coordinates : List Float) → l₁ ≡ sets l₀ at (stored 4 d) →
    l₂ ≡ sets l₁ (at + 4) (coordinate (get_or coordinates (3 * d) nan)) → l₃ ≡ sets l₂ (at + 12) (coordinate (get_or coordinates (3 * d + 1) nan)) →
    l₄ ≡ sets l₃ (at + 20) (coordinate (get_or coordinates (3 * d + 2) nan)) → l₄ ≡ sets l₀ at (record_bytes coordinates d)
unfolding record_bytes
record_laid l₀ l₁ l₂ l₃ l₄ at d coordinates =
    let x = get_or coordinates (3 * d) nan in
    let y = get_or coordinates (3 * d + 1) nan in
    let z = get_or coordinates (3 * d + 2) nan in
    let a = stored_length 4 d in
    let b = stored_length 8 (to_bits binary64 x) in
    let c = stored_length 8 (to_bits binary64 y) in
    four_parts l₀ l₁ l₂ l₃ l₄ at (at + 4) (at + 12) (at + 20) (stored 4 d) (coordinate x) (coordinate y) (coordinate z)
    (omega arith) (omega arith) (omega arith)

module _ (marks : List ℕ) (coordinates : List Float) (n d from at : ℕ) (s : 1 ≤ d) (h : d < n) (e : at ≡ from + 28 * length (points marks (d - 1))) where
  pub points_room : (room : ℕ) → from + 28 * length (points marks (n - 1)) ≤ room → at + length (point_bytes marks coordinates d) ≤ room
  points_room room r =
      let z : n - 1 - d + d ≡ n - 1 = omega arith in
      let g : length (points marks d) ≤ length (points marks (n - 1)) = rw (← z) (points_grow marks (n - 1 - d) d) in
      let m = points_at marks d s in
      let p = point_length marks coordinates d in
      omega arith

  next : d + 1 - 1 ≡ d
  next = omega arith

  pub points_place : at + length (point_bytes marks coordinates d) ≡ from + 28 * length (points marks (d + 1 - 1))
  points_place =
      let m = points_at marks d s in
      let p = point_length marks coordinates d in
      rw next (omega arith)

  pub points_step : (bytes l new : List ℕ) → l ≡ sets bytes from (stored_each (record_bytes coordinates) (points marks (d - 1))) →
      new ≡ sets l at (point_bytes marks coordinates d) → new ≡ sets bytes from (stored_each (record_bytes coordinates) (points marks (d + 1 - 1)))
  points_step bytes l new q g =
      let r = records_length marks coordinates (d - 1) in
      let z : at ≡ from + length (stored_each (record_bytes coordinates) (points marks (d - 1))) = omega arith in
      g ∙ ap (λ (m : List ℕ). sets m at (point_bytes marks coordinates d)) q
      ∙ ap (λ (k : ℕ). sets (sets bytes from (stored_each (record_bytes coordinates) (points marks (d - 1)))) k (point_bytes marks coordinates d)) z
      ∙ sym (sets_append bytes from (stored_each (record_bytes coordinates) (points marks (d - 1))) (point_bytes marks coordinates d))
      ∙ ap (λ (m : List ℕ). sets bytes from m) (sym (records_at marks coordinates d s))
      ∙ ap (λ (k : ℕ). sets bytes from (stored_each (record_bytes coordinates) (points marks k))) (sym next)

pub points_begin : (marks : List ℕ) (from : ℕ) → from ≡ from + 28 * length (points marks (1 - 1))
unfolding points
points_begin marks from = omega arith

pub points_none : (marks : List ℕ) (coordinates : List Float) (bytes : List ℕ) (from : ℕ) →
    bytes ≡ sets bytes from (stored_each (record_bytes coordinates) (points marks (1 - 1)))
unfolding points stored_each
points_none marks coordinates bytes from = refl

pub first_finite : (coordinates : List Float) (d : ℕ) → finite (get_or coordinates (3 * d + 0) nan) ≡ true → finite (get_or coordinates (3 * d) nan) ≡ true
first_finite coordinates d e = let z : 3 * d ≡ 3 * d + 0 = omega arith in ap (λ (k : ℕ). finite (get_or coordinates k nan)) z ∙ e

-- a slot without a point, and one with
pub nothing_laid : (marks : List ℕ) (coordinates : List Float) (bytes : List ℕ) (at d : ℕ) → get_or marks d 0 ≡ 0 →
    (bytes ≡ sets bytes at (point_bytes marks coordinates d)) × (at ≡ at + length (point_bytes marks coordinates d))
unfolding point_bytes
nothing_laid marks coordinates bytes at d e =
    let none : point_bytes marks coordinates d ≡ [] = rw (eq-eqb (get_or marks d 0) 0 e) refl in
    let long : length (point_bytes marks coordinates d) ≡ 0 = ap length none in
    (ap (λ (l : List ℕ). sets bytes at l) (sym none), omega arith)

module _ (marks : List ℕ) (coordinates : List Float) (d : ℕ) (e : get_or marks d 0 ≢ 0) where
  something : point_bytes marks coordinates d ≡ record_bytes coordinates d
  unfolding point_bytes
  something = rw (ne_eqb (get_or marks d 0) 0 e) refl

  pub something_room : (at room : ℕ) → at + length (point_bytes marks coordinates d) ≤ room → at + 28 ≤ room
  something_room at room h =
      let long : length (point_bytes marks coordinates d) ≡ 28 = ap length something ∙ record_length coordinates d in
      omega arith

  pub something_laid : (bytes new : List ℕ) (at : ℕ) → new ≡ sets bytes at (record_bytes coordinates d) →
      (new ≡ sets bytes at (point_bytes marks coordinates d)) × (at + 28 ≡ at + length (point_bytes marks coordinates d))
  something_laid bytes new at g =
      let long : length (point_bytes marks coordinates d) ≡ 28 = ap length something ∙ record_length coordinates d in
      (g ∙ ap (λ (l : List ℕ). sets bytes at l) (sym something), omega arith)
