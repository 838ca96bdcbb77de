-- What the list of faces learns of a dart, case by case.
--   Testing, testing_starts, test-..   the loop of `is_regular`
--   walked_id, walked_below   the walk of a dart with darts marked before, unmarked again
--   tested_old, tested_round, tested_walked   a dart that is done with, a regular one, and any other
-- Assumes nothing.
use Prim.Native.Nat.{ℕ, suc, ◌-◌, ◌≤◌, ◌<◌}
use native.Mathlib.Omega.{arith}
use mathlib.Core.Path.{◌≡◌, refl, sym, ap, ◌∙◌, subst}
use mathlib.Core.Bool.{Bool, true, false, true≢false}
use mathlib.Core.List.{List, [], ◌++◌}
use lib.Dec.{eqb}
use lib.ListN.{length, get_or, take, drop}
use borrow.Author.Tests.{eq-eqb, ne_eqb}
use Rattle.map_betas.specs.Betas.{beta, darts}
use Rattle.map_betas.specs.Maps.{WellFormed}
use Rattle.cell_steps.specs.Search.{In, mem}
use Rattle.cell_steps.specs.Loans.{Queue, Grown, Cleared}
use Rattle.cell_steps.proofs.Lists.{mem_in, not_mem}
use Rattle.cell_steps.proofs.ChainLaws.{Enough, enough_starts, enough_one, enough_on, ahead, ahead_falls}
use Rattle.cell_steps.proofs.QueueLaws.{flag_zero, flag_some, queue_n}
use Rattle.cell_steps.proofs.TurnLaws.{drop_more}
use Rattle.cell_faces.specs.Faces.{face_walk, face_id, Regular, regular_from, regular, Walked}
use Rattle.cell_faces.specs.FaceLists.{go_round, Faced, Apart, WalkedId, DartTested}
use Rattle.cell_faces.proofs.RegularLaws.{regular_sound, regular_complete}
use Rattle.cell_faces.proofs.RoundLaws.{round_joins}
use Rattle.cell_faces.proofs.AvoidLaws.{walk_low, walk_seen}
use Rattle.cell_faces.proofs.UnmarkLaws.{old_same, unmarked, part_below}
use Rattle.cell_faces.proofs.FacedLaws.{faced_not, faced_old, apart_out, faced_own, faced_more, faced_skip}

-- ---- the loop of `is_regular`, at x

pub record Testing (rows : List ℕ) (d x : ℕ) : Type 0 where
  pub x_lt : x < darts rows
  pub left : ℕ
  pub enough : Enough rows d left x
  pub still : regular_from rows d left x ≡ regular rows d

pub testing_starts : (rows : List ℕ) → WellFormed rows → (d : ℕ) → d < darts rows → Testing rows d d
unfolding regular
testing_starts rows w d lt = record { x_lt = lt; left = darts rows; enough = enough_starts rows w d lt; still = refl }

module _ (rows : List ℕ) (w : WellFormed rows) (d x : ℕ) (v : Testing rows d x) (y : ℕ) (ey : y ≡ beta rows 1 x) where
  abbrev f : ℕ
  f = v.left - 1

  whole : regular_from rows d (suc f) x ≡ regular rows d
  whole = ap (λ (i : ℕ). regular_from rows d i x) (sym (enough_one rows d v.left x v.enough)) ∙ v.still

  pub test_null : y ≡ 0 → false ≡ regular rows d
  unfolding regular_from
  test_null z = simp (← ey, eq-eqb y 0 z) at whole

  module _ (real : y ≡ 0 → ⊥) (t a b : ℕ) (et : t ≡ beta rows 3 x) (ea : a ≡ beta rows 3 y) (eb : b ≡ beta rows 0 t) where
    pub test_across : (a ≡ b → ⊥) → false ≡ regular rows d
    unfolding regular_from
    test_across n = simp (← ey, ne_eqb y 0 real, ← et, ← ea, ← eb, ne_eqb a b n) at whole

    module _ (same : a ≡ b) where
      pub test_round : y ≡ d → true ≡ regular rows d
      unfolding regular_from
      test_round r = simp (← ey, ne_eqb y 0 real, ← et, ← ea, ← eb, eq-eqb a b same, eq-eqb y d r) at whole

      module _ (n : y ≡ d → ⊥) where
        pub test_falls : ahead rows d y < ahead rows d x
        test_falls = ahead_falls rows d v.left x v.enough y ey real n

        pub test_on : Testing rows d y
        unfolding regular_from
        test_on =
            record {
              x_lt = rw ey (w.below _ _);
              left = f;
              enough = enough_on rows d v.left x v.enough y ey real n;
              still = simp (← ey, ne_eqb y 0 real, ← et, ← ea, ← eb, eq-eqb a b same, ne_eqb y d n) at whole;
            }

-- ---- the walk of d with darts marked before

module _ (rows : List ℕ) (w : WellFormed rows) (d : ℕ) (queue : List ℕ) (known : ℕ) (room : known ≤ length queue) (apart : Apart rows d (take known queue))
    (m₁ q₁ : List ℕ) (k l r low : ℕ) (v : Walked (face_walk rows (take known queue) d) queue known m₁ q₁ k l r low) where
  abbrev new : List ℕ
  new = (face_walk rows [] d).seen

  added : Grown queue known (take known queue ++ new) m₁ q₁ k
  added = subst (λ (t : List ℕ). Grown queue known t m₁ q₁ k) (walk_seen rows w (take known queue) d apart.never) v.grown

  pub walked_below : (x : ℕ) → In x (take (k - known) (drop known q₁)) → x < length m₁
  walked_below = part_below queue known new m₁ q₁ k room added

  pub walked_id : length m₁ ≡ darts rows → (m₂ : List ℕ) → length m₂ ≡ length m₁ → Cleared (take (k - known) (drop known q₁)) m₁ m₂ →
      WalkedId rows d queue known m₂ q₁ low
  walked_id n-is m₂ e c =
      let few : k ≤ darts rows = omega (arith, queue_n m₁ q₁ k v.grown.queue) in
      record {
        id_is = v.low_is ∙ walk_low rows w (take known queue) d apart.never;
        held = unmarked queue known new m₁ q₁ k room added m₂ c e;
        same = old_same queue known new m₁ q₁ k room added;
        rest = drop_more q₁ queue k (darts rows) few v.grown.back;
      }

-- ---- the test of d

module _ (rows : List ℕ) (w : WellFormed rows) (d : ℕ) (some : 0 < d) (h : d < darts rows) (marks queue : List ℕ) (known : ℕ)
    (n-is : length marks ≡ darts rows) (q : Queue marks queue known) (v : Faced rows d (take known queue)) where
  d_lt : d < length marks
  d_lt = omega arith

  pub tested_old : (get_or marks d 0 ≡ 0 → ⊥) → DartTested rows d queue marks queue false known
  tested_old n =
      let m : In d (take known queue) = mem_in d (take known queue) (flag_some (mem d (take known queue)) (λ e. n (q.flags d d_lt ∙ e))) in
      record {
        own_is = sym (ne_eqb (face_id rows d) d (faced_not rows w d (take known queue) h some v m));
        held = q;
        faced = faced_old rows w d (take known queue) h some v m;
        rest = refl;
      }

  module _ (free : get_or marks d 0 ≡ 0) where
    absent : mem d (take known queue) ≡ false
    absent = flag_zero (mem d (take known queue)) (sym (q.flags d d_lt) ∙ free)

    pub out : In d (take known queue) → ⊥
    out = not_mem d (take known queue) absent

    pub apart : Apart rows d (take known queue)
    apart = apart_out rows w d (take known queue) h some v out

    pub tested_round : (g : Bool) → g ≡ regular rows d → g ≡ true → (marks' queue' : List ℕ) (r : ℕ) → length marks' ≡ length marks →
        Grown queue known (go_round rows d (take known queue)) marks' queue' r → DartTested rows d queue marks' queue' true r
    tested_round b e t marks' queue' r e-m g =
        let test : regular rows d ≡ true = sym e ∙ t in
        let reg : Regular rows d = regular_sound rows w d test in
        let j = round_joins rows d (take known queue) w h (λ z. omega arith) test in
        let few : r ≤ darts rows = omega (arith, queue_n marks' queue' r g.queue, e-m, n-is) in
        record {
          own_is = sym (eq-eqb (face_id rows d) d (faced_own rows w d (take known queue) h some v out reg));
          held = g.queue;
          faced = rw g.front (faced_more rows w d (take known queue) h some v out reg _ j);
          rest = drop_more queue' queue r (darts rows) few g.back;
        }

    pub tested_walked : (g : Bool) → g ≡ regular rows d → g ≡ false → (marks' queue' : List ℕ) (id : ℕ) → WalkedId rows d queue known marks' queue' id →
        DartTested rows d queue marks' queue' (eqb id d) known
    tested_walked b e t marks' queue' id a =
        let no : Regular rows d → ⊥ =
        λ g. true≢false (sym (regular_complete rows w d h (λ z. omega arith) g) ∙ sym e ∙ t) in
        record {
          own_is = ap (λ (x : ℕ). eqb x d) a.id_is;
          held = a.held;
          faced = rw a.same (faced_skip rows w d (take known queue) h some v out no);
          rest = a.rest;
        }
