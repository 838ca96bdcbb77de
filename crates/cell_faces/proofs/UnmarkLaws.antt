-- A queue that has grown, and of which what was added is unmarked again.
--   unmarked   the marks and the first places are a queue as before
--   part_below   what was added, as the part of the queue that the code lends
-- Assumes nothing.
use Prim.Native.Nat.{ℕ, zero, suc, ◌-◌, ◌≤◌, ◌<◌}
use native.Mathlib.Nat.{sub-zero, not-suc-le-zero, le_of_suc-le-suc}
use native.Mathlib.Omega.{arith}
use mathlib.Core.Path.{◌≡◌, sym, ap, ◌∙◌, subst}
use mathlib.Core.Bool.{Bool, false, cond, ◌||◌}
use mathlib.Core.Logic.{⊎_elim}
use mathlib.Core.List.Memᴰ
use mathlib.Core.List.{List, [], ◌∷◌, ◌++◌}
use lib.Dec.{eqb}
use lib.ListN.{length, get_or, take, drop}
use lib.Seq.{length-take-le, take_at, drop_at, take-take, take-nil}
use Rattle.cell_steps.specs.Search.{In, mem}
use Rattle.cell_steps.specs.Loans.{flag, Queue, Grown, Cleared}
use Rattle.cell_steps.proofs.Lists.{bool, mem_in, mem_not, norep_parts}

mem_left : (x : ℕ) (a b : List ℕ) → mem x b ≡ false → mem x (a ++ b) ≡ mem x a
unfolding mem
mem_left x [] b e = e
mem_left x (y ∷ a) b e = ap (λ (t : Bool). eqb x y || t) (mem_left x a b e)

take_drop : (m k : ℕ) (l : List ℕ) → m ≤ k → take (k - m) (drop m l) ≡ drop m (take k l)
take_drop zero k l h = ap (λ (i : ℕ). take i l) (sub-zero k)
take_drop (suc m) zero l h = absurd (not-suc-le-zero h)
take_drop (suc m) (suc k) [] h = take-nil {A = ℕ} (suc k - suc m)
take_drop (suc m) (suc k) (x ∷ l) h =
    let e : suc k - suc m ≡ k - m = omega arith in
    ap (λ (i : ℕ). take i (drop m l)) e ∙ take_drop m k l (le_of_suc-le-suc h)

-- ---- the queue

module _ (queue : List ℕ) (known : ℕ) (new m₁ q₁ : List ℕ) (k : ℕ) (room : known ≤ length queue) (g : Grown queue known (take known queue ++ new) m₁ q₁ k) where
  abbrev old : List ℕ
  old = take known queue

  old_length : length old ≡ known
  old_length = length-take-le known queue room

  pub old_same : take known q₁ ≡ take known queue
  old_same = sym (take-take known k q₁ g.more) ∙ ap (take known) g.front ∙ take_at old new known old_length

  pub new_same : take (k - known) (drop known q₁) ≡ new
  new_same = take_drop known k q₁ g.more ∙ ap (drop known) g.front ∙ drop_at old new known old_length

  pub unmarked : (m₂ : List ℕ) → Cleared (take (k - known) (drop known q₁)) m₁ m₂ → length m₂ ≡ length m₁ → Queue m₂ q₁ known
  unmarked m₂ c e =
      let n = norep_parts old new (rw (← g.front) g.queue.norep) in
      record {
        room = omega (arith, g.more, g.queue.room);
        norep = rw old_same n.0;
        below = λ x m.
            let i : In x (take k q₁) = rw g.front (Memᴰ.append_left new (rw old_same at m)) in
            omega (arith, g.queue.below x i);
        flags = λ x h.
            c.mark x
            ∙ ap (λ (l : List ℕ). cond (mem x l) 0 (get_or m₁ x 0)) new_same
            ∙ ap (λ (v : ℕ). cond (mem x new) 0 v) (g.queue.flags x (omega arith) ∙ ap (λ (l : List ℕ). flag (mem x l)) g.front)
            ∙ gone x (n.2 x)
            ∙ ap (λ (l : List ℕ). flag (mem x l)) (sym old_same);
      }
    where
      gone : (x : ℕ) → (In x old → In x new → ⊥) → cond (mem x new) 0 (flag (mem x (old ++ new))) ≡ flag (mem x old)
      gone x apart =
          ⊎_elim
          (λ t.
          ap (λ (b : Bool). cond b 0 (flag (mem x (old ++ new)))) t
          ∙ ap flag (sym (mem_not x old (λ m. apart m (mem_in x new t)))))
          (λ t.
          ap (λ (b : Bool). cond b 0 (flag (mem x (old ++ new)))) t ∙ ap flag (mem_left x old new t))
          (bool (mem x new))

  -- what was added, as the part of the queue from `known` on, has marks
  pub part_below : (x : ℕ) → In x (take (k - known) (drop known q₁)) → x < length m₁
  part_below x m =
      let i : In x new = subst (In x) new_same m in
      g.queue.below x (subst (In x) (sym g.front) (Memᴰ.append_right old i))
