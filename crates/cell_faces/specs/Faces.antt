-- The face identifier, as the Rust walks it, marks included.
--   fresh s x       x can still be marked: it is neither null nor marked
--   insert s l r    l marked where it is fresh, or else r
--   lower low x     the lesser of low and x, where x is not null
--   Walk            where a leg stands: what is marked, its two darts, the least so far
--   turn, leg       one turn of a leg, and a leg
--   forward, backward, face_walk   the legs of d, with what is marked before
--   face_id rows d   the face identifier of d
--   Regular rows d  the chain of d is closed, and each of its beta 1 steps is a beta 0 step between the beta 3 images
--   regular rows d  the same as a test
--   Walked          what a walk leaves
use Rattle.std.specs.Prelude.{ℕ, zero, suc, min, ◌≡◌, Bool, true, false, cond, not, ◌||◌, List, [], eqb}
use Rattle.map_betas.specs.Betas.{beta, darts}
use Rattle.map_betas.specs.Chains.{Chain}
use Rattle.cell_steps.specs.Search.{mem, add}
use Rattle.cell_steps.specs.Loans.{Grown}

unfoldable pub fresh : List ℕ → ℕ → Bool
fresh s x = not (eqb x 0 || mem x s)

-- the text's `marked.insert(lb) || marked.insert(rb)`: the right dart is marked only where the left one was there already
unfoldable pub insert : List ℕ → ℕ → ℕ → List ℕ
unfolding fresh
insert s l r = cond (fresh s l) (add s l) (add s r)

unfoldable pub lower : ℕ → ℕ → ℕ
lower low x = cond (eqb x 0) low (min low x)

pub record Walk : Type 0 where
  pub seen : List ℕ
  pub l : ℕ
  pub r : ℕ
  pub low : ℕ

-- l goes on by beta i and r by beta j
unfoldable pub turn : List ℕ → ℕ → ℕ → Walk → Walk
turn rows i j w =
    record {
      seen = insert w.seen w.l w.r;
      l = beta rows i w.l;
      r = beta rows j w.r;
      low = lower (lower w.low (beta rows i w.l)) (beta rows j w.r);
    }

-- a leg goes on while one of its darts can be marked; the number before the walk bounds its turns
unfoldable pub leg : List ℕ → ℕ → ℕ → ℕ → Walk → Walk
leg rows i j zero w = w
leg rows i j (suc f) w =
    let more = leg rows i j f (turn rows i j w) in
    cond (fresh w.seen w.l || fresh w.seen w.r) more w

unfoldable pub forward : List ℕ → List ℕ → ℕ → Walk
forward rows s d = leg rows 1 0 (darts rows) (record { seen = s; l = d; r = beta rows 3 d; low = lower d (beta rows 3 d) })

-- scope: face_id. The leg back begins beside d and its image, with the minimum as it was: the two darts that it begins at are not in it.
unfoldable pub backward : List ℕ → ℕ → Walk → Walk
backward rows d w =
    leg rows 0 1 (darts rows) (record { seen = w.seen; l = beta rows 0 d; r = beta rows 1 (beta rows 3 d); low = w.low })

-- backward too, where the forward leg ended on a null dart
unfoldable pub face_walk : List ℕ → List ℕ → ℕ → Walk
face_walk rows s d =
    let w = forward rows s d in
    let b = backward rows d w in
    cond (eqb w.l 0) b (cond (eqb w.r 0) b w)

-- scope: face_id. The minimum of the walk, whether or not it is the face's least.
unfoldable pub face_id : List ℕ → ℕ → ℕ
face_id rows d = (face_walk rows [] d).low

-- Faces whose identifier is the least: closed chains without beta 3 images, or with all of them and facing each other dart by dart.
-- Null images of beta 3 follow each other too, so that one law serves both cases (`proofs/RegularLaws.antt`).
pub record Regular (rows : List ℕ) (d : ℕ) : Type 0 where
  pub closed : (x : ℕ) → Chain rows d x → beta rows 1 x ≡ 0 → ⊥
  pub across : (x : ℕ) → Chain rows d x → beta rows 3 (beta rows 1 x) ≡ beta rows 0 (beta rows 3 x)

-- from x on round to d, with f turns at most
unfoldable pub regular_from : List ℕ → ℕ → ℕ → ℕ → Bool
regular_from rows d zero x = false
regular_from rows d (suc f) x =
    let more = regular_from rows d f (beta rows 1 x) in
    cond (eqb (beta rows 1 x) 0) false
    (cond (not (eqb (beta rows 3 (beta rows 1 x)) (beta rows 0 (beta rows 3 x)))) false (cond (eqb (beta rows 1 x) d) true more))

unfoldable pub regular : List ℕ → ℕ → Bool
regular rows d = regular_from rows d (darts rows) d

-- a leg ended at w, with its marked darts in the queue's first k places
pub record Walked (w : Walk) (queue : List ℕ) (k₀ : ℕ) (marks' queue' : List ℕ) (k l r low : ℕ) : Type 0 where
  pub l_is : l ≡ w.l
  pub r_is : r ≡ w.r
  pub low_is : low ≡ w.low
  pub grown : Grown queue k₀ w.seen marks' queue' k
