-- The queue that a list's first places are, with its marks.
--   add_null, add_old, add_new   the cases of `add`, as equations
--   flag_zero, flag_some         what a mark says
--   push_null, -old, -room, -queue, -added   a push, case by case
--   absent_unmarked, unmarked_absent   a dart has no mark exactly where it is not there
--   push_last                    such a dart put behind the queue
--   queue_none, queue_n          the empty queue; a queue has at most n darts
--   cleared_none, -step, -all    clearing the marks of a list
-- Assumes nothing.
use mathlib.Core.Path.{◌≡◌, refl, sym, ap, ◌∙◌, subst}
use mathlib.Core.Bool.{Bool, true, false, cond, ◌||◌, or-true}
use mathlib.Core.Logic.{⊎_elim}
use mathlib.Core.List.Memᴰ
use mathlib.Core.List.{List, [], ◌∷◌, ◌++◌}
use Prim.Native.Nat.{ℕ, ◌+◌, ◌≤◌, ◌<◌, zero-le}
use native.Mathlib.Nat.{le_refl}
use native.Mathlib.Numerals.{add-one}
use native.Mathlib.Omega.{arith}
use lib.Dec.{eqb}
use lib.ListN.{length, get_or, take, set, length-set, length-append}
use lib.Seq.{take-suc-set, drop-set-lt, get_or-set_same, get_or-set_other, length-take-le, ext_get_or, take-suc}
use borrow.Author.Tests.{eqb-true, eqb-false, eq-eqb, ne_eqb}
use Rattle.cell_steps.specs.Loans.{flag, Queue, Grown, Cleared, Zero}
use Rattle.cell_steps.specs.Search.{In, NoRep, mem, add}
use Rattle.cell_steps.proofs.Lists.{bool, in_mem, not_mem, mem_not, norep_snoc, pigeonhole}

-- ---- the three cases of `add`, as equations

module _ (l : List ℕ) (x : ℕ) where
  pub add_null : x ≡ 0 → add l x ≡ l
  unfolding add
  add_null e = ap (λ (b : Bool). cond (b || mem x l) l (l ++ (x ∷ []))) (eq-eqb x 0 e)

  add_old : mem x l ≡ true → add l x ≡ l
  unfolding add
  add_old e =
      ap (λ (b : Bool). cond (eqb x 0 || b) l (l ++ (x ∷ []))) e ∙ ap (λ (b : Bool). cond b l (l ++ (x ∷ []))) (or-true (eqb x 0))

  pub add_new : (x ≡ 0 → ⊥) → mem x l ≡ false → add l x ≡ l ++ (x ∷ [])
  unfolding add
  add_new z e =
      ap (λ (b : Bool). cond (b || mem x l) l (l ++ (x ∷ []))) (ne_eqb x 0 z) ∙ ap (λ (b : Bool). cond b l (l ++ (x ∷ []))) e

mem_snoc_other : (y x : ℕ) (l : List ℕ) → (y ≡ x → ⊥) → mem y (l ++ (x ∷ [])) ≡ mem y l
unfolding mem
mem_snoc_other y x [] n = ap (λ (b : Bool). b || false) (ne_eqb y x n)
mem_snoc_other y x (z ∷ l) n = ap (λ (b : Bool). eqb y z || b) (mem_snoc_other y x l n)

pub flag_zero : (b : Bool) → flag b ≡ 0 → b ≡ false
flag_zero true e = absurd (eqb-false 1 0 refl e)
flag_zero false e = refl

pub flag_some : (b : Bool) → (flag b ≡ 0 → ⊥) → b ≡ true
flag_some true e = refl
flag_some false e = absurd (e refl)

-- ---- a push

module _ (m o : List ℕ) (k x : ℕ) (q : Queue m o k) where
  same : add (take k o) x ≡ take k o → Grown o k (add (take k o) x) m o k
  same e = record { front = sym e; back = refl; more = le_refl k; queue = q }

  pub push_null : x ≡ 0 → Grown o k (add (take k o) x) m o k
  push_null e = same (add_null (take k o) x e)

  pub push_old : x < length m → (get_or m x 0 ≡ 0 → ⊥) → Grown o k (add (take k o) x) m o k
  push_old h n = same (add_old (take k o) x (flag_some (mem x (take k o)) (λ e. n (q.flags x h ∙ e))))

  module _ (h : x < length m) (e : get_or m x 0 ≡ 0) where
    absent : mem x (take k o) ≡ false
    absent = flag_zero (mem x (take k o)) (sym (q.flags x h) ∙ e)

    longer : NoRep (take k o ++ (x ∷ []))
    longer = norep_snoc (take k o) x q.norep (not_mem x (take k o) absent)

    longer_below : (y : ℕ) → In y (take k o ++ (x ∷ [])) → y < length m
    longer_below y i =
        ⊎_elim (q.below y) (λ j. subst (λ (z : ℕ). z < length m) (sym (Memᴰ.eq_of_singleton j)) h) (Memᴰ.append_cases (take k o) i)

    -- a new dart below n finds fewer than n before it
    pub push_room : k < length m
    push_room =
        omega (
          arith,
          pigeonhole (length m) (take k o ++ (x ∷ [])) longer longer_below,
          length-append (take k o) (x ∷ []),
          length-take-le k o q.room,
        )

    module _ (w : length m ≤ length o) where
      front : take (k + 1) (set o k x) ≡ take k o ++ (x ∷ [])
      front = let r : k < length o = omega (arith, push_room) in rw (add-one, take-suc-set o k x r)

      flagged : (y : ℕ) → y < length m → get_or (set m x 1) y 0 ≡ flag (mem y (take k o ++ (x ∷ [])))
      flagged y l =
          ⊎_elim
          (λ t.
          let s = eqb-true y x t in
          subst (λ (v : ℕ). get_or (set m x 1) v 0 ≡ flag (mem v (take k o ++ (x ∷ [])))) (sym s)
          (get_or-set_same m x 1 0 h ∙ ap flag (sym (in_mem (Memᴰ.append_right (take k o) (Memᴰ.head refl))))))
          (λ t.
          let s = eqb-false y x t in
          get_or-set_other m x y 1 0 s ∙ q.flags y l ∙ ap flag (sym (mem_snoc_other y x (take k o) s)))
          (bool (eqb y x))

      pub push_queue : Queue (set m x 1) (set o k x) (k + 1)
      push_queue =
          record {
            room = simp length-set (omega (arith, push_room));
            norep = rw front longer;
            below = rw (front, length-set m x 1) longer_below;
            flags = rw (front, length-set m x 1) flagged;
          }

    -- a dart put behind a queue where it was not, and is not null, is what `add` adds
    pub push_added : (x ≡ 0 → ⊥) → (m' o' : List ℕ) (r : ℕ) → Grown o k (take k o ++ (x ∷ [])) m' o' r → Grown o k (add (take k o) x) m' o' r
    push_added z m' o' r = subst (λ (l : List ℕ). Grown o k l m' o' r) (sym (add_new (take k o) x z absent))

-- ---- a dart that is not there

module _ (marks queue : List ℕ) (k x : ℕ) (q : Queue marks queue k) (h : x < length marks) where
  -- it has no mark
  pub absent_unmarked : (In x (take k queue) → ⊥) → get_or marks x 0 ≡ 0
  absent_unmarked n = q.flags x h ∙ ap flag (mem_not x (take k queue) n)

  -- and a dart that has none is not there
  pub unmarked_absent : get_or marks x 0 ≡ 0 → In x (take k queue) → ⊥
  unmarked_absent e = not_mem x (take k queue) (flag_zero (mem x (take k queue)) (sym (q.flags x h) ∙ e))

  pub push_last : length marks ≤ length queue → (In x (take k queue) → ⊥) →
      Grown queue k (take k queue ++ (x ∷ [])) (set marks x 1) (set queue k x) (k + 1)
  push_last w n =
      let e = absent_unmarked n in
      record {
        front = front marks queue k x q h e w;
        back = drop-set-lt (k + 1) queue k x (omega arith);
        more = omega arith;
        queue = push_queue marks queue k x q h e w;
      }

-- ---- the empty queue

module _ (m o : List ℕ) where
  pub queue_none : Zero m → Queue m o 0
  unfolding mem
  queue_none z =
      record { room = zero-le; norep = tt; below = λ x i. absurd (Memᴰ.not-nil i); flags = λ x h. z.place x }

  pub queue_n : (k : ℕ) → Queue m o k → k ≤ length m
  queue_n k q = omega (arith, pigeonhole (length m) (take k o) q.norep q.below, length-take-le k o q.room)

-- ---- clearing: the marks of l are 0, and the others as they were

pub cleared_none : (m : List ℕ) → Cleared [] m m
unfolding mem
cleared_none m = record { mark = λ x. refl }

pub cleared_more : (l m₀ m : List ℕ) (y : ℕ) → y < length m → Cleared l m₀ m → Cleared (l ++ (y ∷ [])) m₀ (set m y 0)
cleared_more l m₀ m y h c =
    record {
      mark = λ x.
          ⊎_elim
          (λ t.
          let s = eqb-true x y t in
          subst (λ (v : ℕ). get_or (set m y 0) v 0 ≡ cond (mem v (l ++ (y ∷ []))) 0 (get_or m₀ v 0)) (sym s)
          (get_or-set_same m y 0 0 h ∙ ap (λ (b : Bool). cond b 0 (get_or m₀ y 0)) (sym (in_mem (Memᴰ.append_right l (Memᴰ.head refl))))))
          (λ t.
          let s = eqb-false x y t in
          get_or-set_other m y x 0 0 s ∙ c.mark x ∙ ap (λ (b : Bool). cond b 0 (get_or m₀ x 0)) (sym (mem_snoc_other x y l s)))
          (bool (eqb x y));
    }

flag_gone : (b : Bool) → cond b 0 (flag b) ≡ 0
flag_gone true = refl
flag_gone false = refl

-- with the queue's marks cleared, the marks are what they were when all were 0
pub cleared_all : (m₀ m o m' : List ℕ) (k : ℕ) → Zero m₀ → length m ≡ length m₀ → length m' ≡ length m → Queue m o k → Cleared (take k o) m m' → m' ≡ m₀
cleared_all m₀ m o m' k z e e' q c =
    ext_get_or 0 m' m₀ (e' ∙ e)
    (λ i h.
    c.mark i ∙ ap (λ (v : ℕ). cond (mem i (take k o)) 0 v) (q.flags i (omega arith)) ∙ flag_gone (mem i (take k o)) ∙ sym (z.place i))

pub cleared_step : (list m₀ m : List ℕ) (i : ℕ) → i < length list → get_or list i 0 < length m → Cleared (take i list) m₀ m →
    Cleared (take (i + 1) list) m₀ (set m (get_or list i 0) 0)
cleared_step list m₀ m i w h c = rw (add-one, take-suc list i 0 w) (cleared_more (take i list) m₀ m (get_or list i 0) h c)
