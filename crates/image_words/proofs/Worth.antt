-- What std's numbers of bytes are worth: the words of `specs/Words`. Assumes nothing.
--   word_of   four bytes
--   long_of   eight bytes
use mathlib.Core.Path.{◌≡◌, ap, ◌∙◌}
use mathlib.Core.List.{List}
use Prim.Native.Nat.{ℕ, ◌+◌, ◌<◌}
use native.Mathlib.Omega.{arith}
use lib.ListN.{get_or, take, drop}
use Rattle.std.proofs.lemmas.List.{get_or-take, get_or-drop}
use Rattle.std.specs.Int.{w32, w64, from_le_bytes}
use Rattle.image_words.specs.Words.{word32, word64}

module _ (l : List ℕ) (at : ℕ) where
  place : (n k : ℕ) → k < n → get_or (take n (drop at l)) k 0 ≡ get_or l (at + k) 0
  place n k h = get_or-take n (drop at l) k 0 h ∙ get_or-drop at l k 0

  pub word_of : {b : List ℕ} {w : ℕ} → b ≡ take 4 (drop at l) → w ≡ from_le_bytes w32 b → w ≡ word32 l at
  unfolding word32
  word_of {b} {w} e f =
      let p = place 4 in
      let z : get_or l (at + 0) 0 ≡ get_or l at 0 = ap (λ (k : ℕ). get_or l k 0) (omega arith) in
      f ∙ ap (from_le_bytes w32) e ∙ omega (arith, p 0 (omega arith), p 1 (omega arith), p 2 (omega arith), p 3 (omega arith))

  pub long_of : {b : List ℕ} {w : ℕ} → b ≡ take 8 (drop at l) → w ≡ from_le_bytes w64 b → w ≡ word64 l at
  unfolding word64 word32
  long_of {b} {w} e f =
      let p = place 8 in
      let z : get_or l (at + 0) 0 ≡ get_or l at 0 = ap (λ (k : ℕ). get_or l k 0) (omega arith) in
      let far : (k : ℕ) → get_or l (at + 4 + k) 0 ≡ get_or l (at + (4 + k)) 0 = λ k. ap (λ (k : ℕ). get_or l k 0) (omega arith) in
      f ∙ ap (from_le_bytes w64) e
      ∙ omega (
        arith,
        p 0 (omega arith),
        p 1 (omega arith),
        p 2 (omega arith),
        p 3 (omega arith),
        p 4 (omega arith),
        p 5 (omega arith),
        p 6 (omega arith),
        p 7 (omega arith),
        far 1,
        far 2,
        far 3,
      )
