-- The code's way through a list of commands, number by number.
--   Making          where it stands before command number k: what is made so far, before what the rest makes, is what the list makes
--   making_starts, making_turn, making_ends   at the start, after one command, behind the last
--   rest_is, rest_back   the plan's rest that is lent on, and the plan once it has come back
--   turn_is         one turn, from what its calls have left
--   answer_fits, answer_room   what a turn's answer says fits the output and the plan
-- Assumes nothing.
use Prim.Native.Nat.{ℕ, ◌+◌, ◌-◌, ◌*◌, ◌/◌, ◌≤◌}
use native.Mathlib.Omega.{arith}
use native.Mathlib.Nat.{add-zero}
use mathlib.Core.Path.{◌≡◌, refl, sym, ap, ◌∙◌, subst}
use mathlib.Core.List.{List, [], ◌++◌, append-nil}
use lib.Ieee.{Float}
use lib.ListN.{length, take, drop, length-append, length-drop, take-append-drop, drop_of_length-le}
use lib.Seq.{take_all, length-take-le, drop-drop}
use borrow.Rule.Slice.PartMut.{put_mid, mid_of}
use Rattle.map_betas.specs.Maps.{WellFormed}
use Rattle.cell_steps.specs.Calls.{headed}
use Rattle.sew_plan.specs.Plan.{width}
use Rattle.sew_ground.specs.Sewn.{Sewn, leaves}
use Rattle.sew_answers.specs.Words.{answer_width, answer_words, count_of, answered, Fits}
use Rattle.sew_answers.proofs.AnswerLaws.{answered_front, answered_back, answered_long}
use Rattle.sew_commands.specs.Commands.{run}
use Rattle.sew_commands.specs.Lists.{Step, Made, makes, before, left_of, written_by, made, Turn, turn, nth, after_turn, turn_of, filled}
use Rattle.sew_commands.proofs.CommandLaws.{run_formed}
use Rattle.sew_commands.proofs.RoomLaws.{run_fits, run_long, run_room}
use Rattle.sew_commands.proofs.ListLaws.{made_turn, made_over, before_none, before_before, take_behind, drop_behind}
use Rattle.map_betas.specs.Answers.{Answer}

pub record Making (step : Step) (list rows₀ output₀ plan₀ : List ℕ) (k : ℕ) (t : Turn) : Type 0 where
  pub formed : WellFormed t.rows
  pub rows_long : length t.rows ≡ length rows₀
  pub output_long : length t.output ≡ length output₀
  pub plan_long : length t.plan ≡ length plan₀
  pub fits : width * t.written ≤ length t.plan
  pub behind : drop (answer_width * k) t.output ≡ drop (answer_width * k) output₀
  pub ahead : before (take (answer_width * k) t.output) t.written (take (width * t.written) t.plan) (made step (drop (3 * k) list) t.rows
      (drop (width * t.written) t.plan)) ≡ made step list rows₀ plan₀

module _ (flags vertices : List ℕ) (coordinates : List Float) (list rows₀ output₀ plan₀ : List ℕ) where
  abbrev step : Step
  step = run flags vertices coordinates

  pub making_starts : WellFormed rows₀ → Making (run flags vertices coordinates) list rows₀ output₀ plan₀ 0 (turn 0 rows₀ output₀ plan₀)
  making_starts w =
      record {
        formed = w;
        rows_long = refl;
        output_long = refl;
        plan_long = refl;
        fits = omega arith;
        behind = refl;
        ahead = before_none (made step list rows₀ plan₀);
      }

  module _ (k written : ℕ) (rows output plan : List ℕ) (m : Making (run flags vertices coordinates) list rows₀ output₀ plan₀ k (turn written rows output plan))
      (more : 3 * k + 3 ≤ length list) (room : answer_width * k + answer_width ≤ length output) where
    -- what the command leaves, the entries that it has written, and the plan with its part come back
    s : Sewn
    s = nth step list k rows (drop (width * written) plan)

    e : ℕ
    e = count_of (nth step list k rows (drop (width * written) plan)).answer

    plan₁ : List ℕ
    plan₁ = take (width * written) plan ++ (nth step list k rows (drop (width * written) plan)).plan

    first_long : length (take (width * written) plan) ≡ width * written
    first_long = length-take-le (width * written) plan m.fits

    s_long : length (nth step list k rows (drop (width * written) plan)).plan ≡ length (drop (width * written) plan)
    s_long = run_long flags vertices coordinates rows (drop (width * written) plan) m.formed _ _ _

    s_room : width * count_of (nth step list k rows (drop (width * written) plan)).answer ≤ length (drop (width * written) plan)
    s_room = run_room flags vertices coordinates rows (drop (width * written) plan) m.formed _ _ _

    made_ahead : before (take (answer_width * (k + 1)) (answered output k s.answer)) (written + e) (take (width * (written + e)) plan₁) (made step
        (drop (3 * (k + 1)) list) s.rows (drop (width * (written + e)) plan₁)) ≡ made step list rows₀ plan₀
    unfolding s e plan₁
    made_ahead =
        let x : Sewn = nth step list k rows (drop (width * written) plan) in
        let c : ℕ = count_of x.answer in
        let p : List ℕ = take (width * written) plan in
        let l : List ℕ = drop (3 * (k + 1)) list in
        ap (λ (t : List ℕ). before t (written + c) (take (width * (written + c)) (p ++ x.plan))
        (made step l x.rows (drop (width * (written + c)) (p ++ x.plan))))
        (answered_front output k x.answer room)
        ∙ ap (λ (t : List ℕ). before (take (answer_width * k) output ++ answer_words x.answer) (written + c) t (made step l x.rows
        (drop (width * (written + c)) (p ++ x.plan)))) (take_behind written p x.plan first_long c)
        ∙ ap (λ (t : List ℕ). before (take (answer_width * k) output ++ answer_words x.answer) (written + c) (p ++ written_by x) (made step l x.rows t))
        (drop_behind written p x.plan first_long c)
        ∙ sym (before_before (take (answer_width * k) output) written p (answer_words x.answer) c (written_by x) (made step l x.rows (left_of x)))
        ∙ ap (before (take (answer_width * k) output) written p) (sym (made_turn step list k rows (drop (width * written) plan) more))
        ∙ m.ahead

    turned : Making (run flags vertices coordinates) list rows₀ output₀ plan₀ (k + 1) (turn_of (run flags vertices coordinates) list k written rows output plan)
    unfolding turn_of s e plan₁
    turned =
        let kept = run_formed flags vertices coordinates rows m.formed _ _ _ (drop (width * written) plan) in
        let sl = s_long in
        let sr = s_room in
        let fl = first_long in
        let ft = m.fits in
        let dl : length (drop (width * written) plan) ≡ length plan - width * written = length-drop (width * written) plan in
        let five : answer_width * (k + 1) ≡ answer_width * k + answer_width = omega arith in
        let long : length (take (width * written) plan ++ (nth step list k rows (drop (width * written) plan)).plan) ≡ length plan =
        simp length-append (omega arith) in
        record {
          formed = kept.0;
          rows_long = kept.1 ∙ m.rows_long;
          output_long = answered_long output k _ room ∙ m.output_long;
          plan_long = long ∙ m.plan_long;
          fits = omega (arith, long);
          behind =
              answered_back output k _ room ∙ ap (λ (x : ℕ). drop x output) five ∙ sym (drop-drop answer_width (answer_width * k) output)
              ∙ ap (drop answer_width) m.behind ∙ drop-drop answer_width (answer_width * k) output₀ ∙ ap (λ (x : ℕ). drop x output₀) (sym five);
          ahead = made_ahead;
        }

    pub making_turn : (t : Turn) → t ≡ turn_of (run flags vertices coordinates) list k written rows output plan →
        Making (run flags vertices coordinates) list rows₀ output₀ plan₀ (k + 1) t
    making_turn t q = subst (Making (run flags vertices coordinates) list rows₀ output₀ plan₀ (k + 1)) (sym q) turned

  pub making_ends : (k written : ℕ) (rows output plan : List ℕ) →
      Making (run flags vertices coordinates) list rows₀ output₀ plan₀ k (turn written rows output plan) → k ≡ length list / 3 →
      answer_width * k ≤ length output → turn written rows output plan ≡ filled output₀ (made (run flags vertices coordinates) list rows₀ plan₀)
  making_ends k written rows output plan m h room =
      let all : Made = made step list rows₀ plan₀ in
      let over : made step (drop (3 * k) list) rows (drop (width * written) plan) ≡ makes [] 0 rows (drop (width * written) plan) =
      made_over step list k rows (drop (width * written) plan) (omega arith) in
      let so : before (take (answer_width * k) output) written (take (width * written) plan) (makes [] 0 rows (drop (width * written) plan)) ≡ all =
      ap (before (take (answer_width * k) output) written (take (width * written) plan)) (sym over) ∙ m.ahead in
      let ans : take (answer_width * k) output ≡ all.answers = sym (append-nil (take (answer_width * k) output)) ∙ ap (λ (x : Made). x.answers) so in
      let long : length all.answers ≡ answer_width * k = ap length (sym ans) ∙ length-take-le (answer_width * k) output room in
      let out : output ≡ headed all.answers output₀ =
      sym (take-append-drop (answer_width * k) output) ∙ ap (λ (x : List ℕ). x ++ drop (answer_width * k) output) ans
      ∙ ap (λ (x : List ℕ). all.answers ++ x) (m.behind ∙ ap (λ (x : ℕ). drop x output₀) (sym long)) in
      let count : written ≡ all.entries = sym (add-zero written) ∙ ap (λ (x : Made). x.entries) so in
      let pl : plan ≡ all.plan = sym (take-append-drop (width * written) plan) ∙ ap (λ (x : Made). x.plan) so in
      λ i. turn (count i) (so i).rows (out i) (pl i)

-- ---- the plan's rest lent on

pub rest_is : (l : List ℕ) (p : ℕ) → p ≤ length l → mid_of p (length l - p) l ≡ drop p l
rest_is l p h = take_all (length l - p) (drop p l) (simp length-drop (omega arith))

pub rest_back : (l : List ℕ) (p : ℕ) (y : List ℕ) → p ≤ length l → put_mid p (length l - p) l y ≡ take p l ++ y
rest_back l p y h =
    let none : drop (length l - p) (drop p l) ≡ [] = drop_of_length-le (drop p l) {i = length l - p} (simp length-drop (omega arith)) in
    rw (none, append-nil y)

module _ (step : Step) (list rows output plan : List ℕ) (k written : ℕ) (h : width * written ≤ length plan) where
  abbrev p : ℕ
  p = width * written

  -- one turn: the command was lent the plan's rest, its answer was written, and its entries were counted
  pub turn_is : (a : Answer) (rows₁ y output₁ : List ℕ) (n : ℕ) →
      leaves a rows₁ y ≡ nth step list k rows (mid_of (width * written) (length plan - width * written) plan) →
      output₁ ≡ answered output k a → n ≡ count_of a →
      turn (written + n) rows₁ output₁ (put_mid (width * written) (length plan - width * written) plan y) ≡ turn_of step list k written rows output plan
  unfolding turn_of
  turn_is a rows₁ y output₁ n e o c =
      let s : leaves a rows₁ y ≡ nth step list k rows (drop p plan) = e ∙ ap (nth step list k rows) (rest_is plan p h) in
      (λ i. turn (written + c i) rows₁ (o i) (rest_back plan p y h i)) ∙ ap (after_turn k written output plan) s

module _ (flags vertices : List ℕ) (coordinates : List Float) (operation ld rd : ℕ) (rows plan : List ℕ) (w : WellFormed rows) (a : Answer) (rows₁ y : List ℕ)
    (e : leaves a rows₁ y ≡ run flags vertices coordinates operation ld rd rows plan) where
  said : a ≡ (run flags vertices coordinates operation ld rd rows plan).answer
  said = ap (λ (s : Sewn). s.answer) e

  pub answer_fits : Fits a
  answer_fits = subst Fits (sym said) (run_fits flags vertices coordinates rows plan w operation ld rd)

  pub answer_room : width * count_of a ≤ length plan
  answer_room = subst (λ (x : Answer). width * count_of x ≤ length plan) (sym said) (run_room flags vertices coordinates rows plan w operation ld rd)
