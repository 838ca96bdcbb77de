-- The laws of answers that stand in an output.
--   answer_stored   the numbers of one answer, put in their places, give `answered`
--   answer_long     an answer takes five numbers
--   answered_long   the output stays as long as it was
--   answered_front, answered_back   what stands before the next answer's place, and from it on
-- Assumes nothing.
use Prim.Native.Nat.{ℕ, ◌+◌, ◌*◌, ◌-◌, ◌≤◌}
use mathlib.Core.Path.{◌≡◌, refl, sym, ap, ◌∙◌}
use mathlib.Core.List.{List, ◌++◌, append_assoc}
use native.Mathlib.Omega.{arith}
use lib.ListN.{length, take, drop, length-append, length-take, length-drop}
use lib.Seq.{take_at, drop_at, drop-drop}
use borrow.Rule.Slice.PartMut.{put_mid}
use Rattle.sew_answers.specs.Words.{answer_width, answer_words, answered}
use Rattle.std.specs.Prelude.{Ok, Err}
use Rattle.map_betas.specs.Answers.{Answer}

pub answer_long : (a : Answer) → length (answer_words a) ≡ answer_width
answer_long (Ok x) = refl
answer_long (Err w) = refl

pub answer_stored : (out : List ℕ) (k : ℕ) (a : Answer) (words : List ℕ) → words ≡ answer_words a →
    put_mid (answer_width * k) (answer_width * k + answer_width - answer_width * k) out words ≡ answered out k a
unfolding answered
answer_stored out k a words h =
    let n : answer_width * k + answer_width - answer_width * k ≡ answer_width = omega arith in
    rw (n, h, drop-drop answer_width (answer_width * k) out) refl

module _ (out : List ℕ) (k : ℕ) (a : Answer) (h : answer_width * k + answer_width ≤ length out) where
  abbrev front : List ℕ
  front = take (answer_width * k) out ++ answer_words a

  grouped : answered out k a ≡ front ++ drop (answer_width * k + answer_width) out
  unfolding answered
  grouped = sym (append_assoc (take (answer_width * k) out) (answer_words a) (drop (answer_width * k + answer_width) out))

  front_long : length front ≡ answer_width * (k + 1)
  front_long = simp (length-append, length-take, answer_long a) (omega arith)

  pub answered_front : take (answer_width * (k + 1)) (answered out k a) ≡ take (answer_width * k) out ++ answer_words a
  answered_front = ap (take (answer_width * (k + 1))) grouped ∙ take_at front (drop (answer_width * k + answer_width) out) (answer_width * (k + 1)) front_long

  pub answered_back : drop (answer_width * (k + 1)) (answered out k a) ≡ drop (answer_width * (k + 1)) out
  answered_back =
      let m : answer_width * k + answer_width ≡ answer_width * (k + 1) = omega arith in
      ap (drop (answer_width * (k + 1))) grouped
      ∙ drop_at front (drop (answer_width * k + answer_width) out) (answer_width * (k + 1)) front_long ∙ ap (λ (x : ℕ). drop x out) m

  pub answered_long : length (answered out k a) ≡ length out
  unfolding answered
  answered_long = simp (length-append, length-take, length-drop, answer_long a) (omega arith)
