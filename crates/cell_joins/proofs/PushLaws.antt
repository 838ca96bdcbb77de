-- A push adds nothing to the queue, or its dart.
--   Stays    the dart is null or there, and the queue as it was
--   Enters   it is neither, and now the queue's last
--   pushed   one of the two
--   grown_there  what was there is there
--   push_adds    a dart without a mark put behind the queue, where the null dart is there
--   grown_both   two growths of the queue, one after the other
-- Assumes nothing.
use Prim.Native.Nat.{ℕ, ◌≤◌, ◌<◌}
use native.Mathlib.Nat.{le_trans}
use native.Mathlib.Omega.{arith}
use mathlib.Core.Path.{◌≡◌, sym, ap, ◌∙◌}
use mathlib.Core.Logic.{◌⊎◌, inl, inr}
use mathlib.Core.List.Memᴰ
use mathlib.Core.List.{List, [], ◌∷◌, ◌++◌}
use lib.ListN.{length, get_or, take, length-append}
use lib.Seq.{length-take-le}
use Rattle.cell_steps.specs.Search.{In, add}
use Rattle.cell_steps.specs.Loans.{Queue, Grown}
use Rattle.cell_steps.proofs.QueueLaws.{unmarked_absent, push_added}
use Rattle.cell_steps.proofs.SearchLaws.{Added, null, old, new, added, added_ext, ext_in}
use Rattle.cell_steps.proofs.TurnLaws.{drop_more}

pub record Stays (queue : List ℕ) (k x : ℕ) (queue' : List ℕ) (r : ℕ) : Type 0 where
  pub why : (x ≡ 0) ⊎ In x (take k queue)
  pub same : take r queue' ≡ take k queue
  pub none : r ≡ k

pub record Enters (queue : List ℕ) (k x : ℕ) (queue' : List ℕ) (r : ℕ) : Type 0 where
  pub real : x ≡ 0 → ⊥
  pub out : In x (take k queue) → ⊥
  pub last : take r queue' ≡ take k queue ++ (x ∷ [])
  pub more : k < r

module _ (queue : List ℕ) (k x : ℕ) (marks' queue' : List ℕ) (r : ℕ) (room : k ≤ length queue) (g : Grown queue k (add (take k queue) x) marks' queue' r) where
  stays : (x ≡ 0) ⊎ In x (take k queue) → take r queue' ≡ take k queue → Stays queue k x queue' r
  stays w e =
      record { why = w; same = e; none = sym (length-take-le r queue' g.queue.room) ∙ ap length e ∙ length-take-le k queue room }

  pub pushed : Stays queue k x queue' r ⊎ Enters queue k x queue' r
  pushed = go (add (take k queue) x) (added (take k queue) x) g.front
    where
      go : (m : List ℕ) → Added (take k queue) x m → take r queue' ≡ m → Stays queue k x queue' r ⊎ Enters queue k x queue' r
      go m (null z) e = inl (stays (inl z) e)
      go m (old i) e = inl (stays (inr i) e)
      go m (new z o) e =
          inr
          (record {
            real = z;
            out = o;
            last = e;
            more = omega (arith, length-take-le r queue' g.queue.room, ap length e, length-append (take k queue) (x ∷ []), length-take-le k queue room);
          })

pub grown_both : (q : List ℕ) (f : ℕ) (l m₁ q₁ : List ℕ) (k : ℕ) (t m₂ q₂ : List ℕ) (r : ℕ) → Grown q f l m₁ q₁ k → Grown q₁ k t m₂ q₂ r → Grown q f t m₂ q₂ r
grown_both q f l m₁ q₁ k t m₂ q₂ r a b =
    record {
      front = b.front;
      back = b.back ∙ drop_more q₁ q k r b.more a.back;
      more = le_trans a.more b.more;
      queue = b.queue;
    }

-- what was there is there
pub grown_there : (queue : List ℕ) (k x : ℕ) (marks' queue' : List ℕ) (r y : ℕ) → Grown queue k (add (take k queue) x) marks' queue' r →
    In y (take k queue) → In y (take r queue')
grown_there queue k x marks' queue' r y g m = rw g.front (ext_in (added_ext (added (take k queue) x)) m)

-- where the null dart is there, a dart put behind the queue where it was not is what `add` adds
pub push_adds : (marks queue : List ℕ) (k x : ℕ) → Queue marks queue k → x < length marks → In 0 (take k queue) → get_or marks x 0 ≡ 0 →
    (marks' queue' : List ℕ) (r : ℕ) → Grown queue k (take k queue ++ (x ∷ [])) marks' queue' r → Grown queue k (add (take k queue) x) marks' queue' r
push_adds marks queue k x q h z e =
    push_added marks queue k x q h e (λ o. unmarked_absent marks queue k x q h e (Memᴰ.cast o z))
