-- A list of commands.
--   made_turn     the command number k of a list, and the rest
--   made_over     no whole command is left
--   Fitting       a step whose entries fit the plan that it leaves, as long as P holds of the rows
--   made_same     two steps that agree as long as P holds of the rows make the same of a list
--   before_before what was made before what was made
--   made_append   a list of two lists is the one after the other
--   made_kept     what each command keeps, a list keeps
--   made_answers  there are five numbers for each whole command
-- Assumes nothing.
use Prim.Native.Nat.{ℕ, suc, ◌+◌, ◌*◌, ◌/◌, ◌%◌, ◌<◌, ◌≤◌}
use native.Mathlib.Omega.{arith}
use native.Mathlib.Nat.{zero-add, add_assoc}
use mathlib.Core.Path.{◌≡◌, refl, sym, ap, ◌∙◌}
use mathlib.Core.List.{List, [], ◌∷◌, ◌++◌, append_assoc}
use lib.ListN.{length, get_or, take, drop, length-append, length-drop}
use lib.Seq.{drop-cons, length-take-le, take-append-add, drop-append-add}
use Rattle.sew_plan.specs.Plan.{width}
use Rattle.sew_ground.specs.Sewn.{Sewn}
use Rattle.sew_answers.proofs.AnswerLaws.{answer_long}
use Rattle.sew_answers.specs.Words.{answer_width, answer_words, count_of}
use Rattle.sew_commands.specs.Lists.{Step, Made, makes, before, left_of, written_by, made, nth}

-- three numbers of a list, from place p on
three_ahead : (l : List ℕ) (p : ℕ) → p + 3 ≤ length l → drop p l ≡ get_or l p 0 ∷ get_or l (p + 1) 0 ∷ get_or l (p + 2) 0 ∷ drop (p + 3) l
three_ahead l p h =
    let e1 : p + 1 ≡ suc p = omega arith in
    let e2 : p + 2 ≡ suc (suc p) = omega arith in
    let e3 : p + 3 ≡ suc (suc (suc p)) = omega arith in
    rw (e1, e2, e3)
    (drop-cons l p 0 (omega arith)
    ∙ ap (λ (t : List ℕ). get_or l p 0 ∷ t) (drop-cons l (suc p) 0 (omega arith))
    ∙ ap (λ (t : List ℕ). get_or l p 0 ∷ get_or l (suc p) 0 ∷ t) (drop-cons l (suc (suc p)) 0 (omega arith)))

module _ (step : Step) where
  -- what is made of one command that leaves s, and of the list behind it
  abbrev pub goes_on : List ℕ → Sewn → Made
  goes_on list s = before (answer_words s.answer) (count_of s.answer) (written_by s) (made step list s.rows (left_of s))

  pub made_turn : (list : List ℕ) (k : ℕ) (rows plan : List ℕ) → 3 * k + 3 ≤ length list →
      made step (drop (3 * k) list) rows plan ≡ goes_on (drop (3 * (k + 1)) list) (nth step list k rows plan)
  unfolding made
  made_turn list k rows plan h =
      let m : 3 * k + 3 ≡ 3 * (k + 1) = omega arith in
      ap (λ (l : List ℕ). made step l rows plan) (three_ahead list (3 * k) h)
      ∙ ap (λ (x : ℕ). goes_on (drop x list) (nth step list k rows plan)) m

  short : (l rows plan : List ℕ) → length l < 3 → made step l rows plan ≡ makes [] 0 rows plan
  unfolding made
  short [] rows plan h = refl
  short (a ∷ []) rows plan h = refl
  short (a ∷ b ∷ []) rows plan h = refl
  short (a ∷ b ∷ c ∷ l) rows plan h = absurd (omega arith)

  pub made_over : (list : List ℕ) (k : ℕ) (rows plan : List ℕ) → length list < 3 * k + 3 → made step (drop (3 * k) list) rows plan ≡ makes [] 0 rows plan
  made_over list k rows plan h = short (drop (3 * k) list) rows plan (simp length-drop (omega arith))

-- ---- two ways to make a list

module _ (P : List ℕ → Type 0) (f g : Step)
    (agree : (operation ld rd : ℕ) (rows plan : List ℕ) → P rows → f operation ld rd rows plan ≡ g operation ld rd rows plan)
    (keep : (operation ld rd : ℕ) (rows plan : List ℕ) → P rows → P (g operation ld rd rows plan).rows) where
  pub made_same : (list rows plan : List ℕ) → P rows → made f list rows plan ≡ made g list rows plan
  unfolding made
  made_same [] rows plan p = refl
  made_same (a ∷ []) rows plan p = refl
  made_same (a ∷ b ∷ []) rows plan p = refl
  made_same (o ∷ l ∷ r ∷ list) rows plan p =
      let s : Sewn = g o l r rows plan in
      ap (goes_on f list) (agree o l r rows plan p)
      ∙ ap (before (answer_words s.answer) (count_of s.answer) (written_by s)) (made_same list s.rows (left_of s) (keep o l r rows plan p))

-- ---- lists behind each other

-- the same made of a list, part by part
pub made_is : {answers answers₁ : List ℕ} {entries entries₁ : ℕ} {rows rows₁ plan plan₁ : List ℕ} → answers ≡ answers₁ → entries ≡ entries₁ →
    rows ≡ rows₁ → plan ≡ plan₁ → makes answers entries rows plan ≡ makes answers₁ entries₁ rows₁ plan₁
made_is a e r p = λ t. makes (a t) (e t) (r t) (p t)

pub before_none : (m : Made) → before [] 0 [] m ≡ m
before_none m = made_is refl (zero-add m.entries) refl refl

pub before_before : (a₁ : List ℕ) (e₁ : ℕ) (p₁ a₂ : List ℕ) (e₂ : ℕ) (p₂ : List ℕ) (m : Made) →
    before a₁ e₁ p₁ (before a₂ e₂ p₂ m) ≡ before (a₁ ++ a₂) (e₁ + e₂) (p₁ ++ p₂) m
before_before a₁ e₁ p₁ a₂ e₂ p₂ m =
    made_is (sym (append_assoc a₁ a₂ m.answers)) (sym (add_assoc e₁ e₂ m.entries)) refl (sym (append_assoc p₁ p₂ m.plan))

-- a plan of which what was written first has e entries
module _ (e : ℕ) (first rest : List ℕ) (h : length first ≡ width * e) (k : ℕ) where
  places : width * (e + k) ≡ length first + width * k
  places = omega arith

  pub take_behind : take (width * (e + k)) (first ++ rest) ≡ first ++ take (width * k) rest
  take_behind = ap (λ (x : ℕ). take x (first ++ rest)) places ∙ take-append-add first rest (width * k)

  pub drop_behind : drop (width * (e + k)) (first ++ rest) ≡ drop (width * k) rest
  drop_behind = ap (λ (x : ℕ). drop x (first ++ rest)) places ∙ drop-append-add first rest (width * k)

-- what the second of two lists makes behind the first, which has made m
abbrev pub then_made : Step → List ℕ → Made → Made
then_made step ys m =
    before m.answers m.entries (take (width * m.entries) m.plan) (made step ys m.rows (drop (width * m.entries) m.plan))

module _ (P : List ℕ → Type 0) (step : Step)
    (keep : (operation ld rd : ℕ) (rows plan : List ℕ) → P rows → P (step operation ld rd rows plan).rows)
    (room : (operation ld rd : ℕ) (rows plan : List ℕ) → P rows →
    width * count_of (step operation ld rd rows plan).answer ≤ length (step operation ld rd rows plan).plan) where
  written_long : (s : Sewn) → width * count_of s.answer ≤ length s.plan → length (written_by s) ≡ width * count_of s.answer
  written_long s h = length-take-le (width * count_of s.answer) s.plan h

  pub made_append : (xs ys rows plan : List ℕ) → length xs % 3 ≡ 0 → P rows → made step (xs ++ ys) rows plan ≡ then_made step ys (made step xs rows plan)
  unfolding made
  made_append [] ys rows plan h p = sym (before_none (made step ys rows plan))
  made_append (a ∷ []) ys rows plan h p = absurd (omega (arith, h))
  made_append (a ∷ b ∷ []) ys rows plan h p = absurd (omega (arith, h))
  made_append (o ∷ l ∷ r ∷ xs) ys rows plan h p =
      let s : Sewn = step o l r rows plan in
      let m : Made = made step xs s.rows (left_of s) in
      let e : ℕ = count_of s.answer in
      let long : length (written_by s) ≡ width * e = written_long s (room o l r rows plan p) in
      let put : Made → Made = before (answer_words s.answer) e (written_by s) in
      ap put (made_append xs ys s.rows (left_of s) (omega (arith, h)) (keep o l r rows plan p))
      ∙ before_before (answer_words s.answer) e (written_by s) m.answers m.entries (take (width * m.entries) m.plan) (made step ys m.rows
      (drop (width * m.entries) m.plan))
      ∙ ap (λ (t : List ℕ). before (answer_words s.answer ++ m.answers) (e + m.entries) t (made step ys m.rows (drop (width * m.entries) m.plan)))
      (sym (take_behind e (written_by s) m.plan long m.entries))
      ∙ ap (λ (t : List ℕ). before (answer_words s.answer ++ m.answers) (e + m.entries) (take (width * (e + m.entries)) (written_by s ++ m.plan))
      (made step ys m.rows t)) (sym (drop_behind e (written_by s) m.plan long m.entries))

  pub made_kept : (list rows plan : List ℕ) → P rows → P (made step list rows plan).rows
  unfolding made
  made_kept [] rows plan p = p
  made_kept (a ∷ []) rows plan p = p
  made_kept (a ∷ b ∷ []) rows plan p = p
  made_kept (o ∷ l ∷ r ∷ list) rows plan p =
      let s : Sewn = step o l r rows plan in
      made_kept list s.rows (left_of s) (keep o l r rows plan p)

pub made_answers : (step : Step) (list rows plan : List ℕ) → length (made step list rows plan).answers ≡ answer_width * (length list / 3)
unfolding made
made_answers step [] rows plan = refl
made_answers step (a ∷ []) rows plan = refl
made_answers step (a ∷ b ∷ []) rows plan = refl
made_answers step (o ∷ l ∷ r ∷ list) rows plan =
    let s : Sewn = step o l r rows plan in
    let h : length (made step list s.rows (left_of s)).answers ≡ answer_width * (length list / 3) = made_answers step list s.rows (left_of s) in
    simp (length-append, answer_long s.answer) (omega arith)
