-- The loops of the search, and that a turn keeps their invariants.
--   drop_more              what is as it was behind k places is so behind more
--   Visiting, visiting-..  the loop of `visit`
--   Flooding, flooding-.., dart_below, count_n   the loop of `flood`
--   seeded, flooded        an orbit's start and end
--   listed_take, -room, -drop   what a caller of the core learns
-- Assumes nothing.
use mathlib.Core.Path.{◌≡◌, refl, sym, ap, ◌∙◌, subst}
use mathlib.Core.List.{List, [], ◌∷◌, ◌++◌}
use Prim.Native.Nat.{ℕ, suc, ◌+◌, ◌-◌, ◌≤◌, ◌<◌}
use native.Mathlib.Nat.{le_refl, le_trans, sub-zero}
use native.Mathlib.Numerals.{add-one}
use native.Mathlib.Omega.{arith}
use lib.ListN.{length, get_or, take, drop, set, take-append-drop, length-append}
use lib.Seq.{drop-cons, drop-drop, drop-length, drop-set-lt, get_or-take, length-take-le, take-suc-set, take_at, drop_at}
use Rattle.map_betas.specs.Betas.{darts}
use Rattle.cell_steps.specs.Loans.{Queue, Grown, Listed, Zero}
use Rattle.cell_steps.specs.Search.{add, visit, search, orbit}
use Rattle.cell_steps.specs.Steps.{image}
use Rattle.cell_steps.proofs.Lists.{in_at}
use Rattle.cell_steps.proofs.SearchLaws.{search_more, search_done}
use Rattle.cell_steps.proofs.QueueLaws.{queue_none, queue_n, push_queue}

pub drop_more : (a b : List ℕ) (k r : ℕ) → k ≤ r → drop k a ≡ drop k b → drop r a ≡ drop r b
drop_more a b k r h e =
    let s : k + (r - k) ≡ r = omega arith in
    subst (λ (n : ℕ). drop n a ≡ drop n b) s (sym (drop-drop (r - k) k a) ∙ ap (drop (r - k)) e ∙ drop-drop (r - k) k b)

-- the loop of `visit`: j steps are done, and those left lead to the whole visit's list
pub record Visiting (rows steps : List ℕ) (d : ℕ) (marks₀ out₀ : List ℕ) (count : ℕ) (marks out : List ℕ) (k j : ℕ) : Type 0 where
  pub upto : j ≤ length steps
  pub marks_n : length marks ≡ length marks₀
  pub out_n : length out ≡ length out₀
  pub left : visit rows (drop j steps) d (take k out) ≡ visit rows steps d (take count out₀)
  pub back : drop k out ≡ drop k out₀
  pub more : count ≤ k
  pub queue : Queue marks out k

module _ (rows steps : List ℕ) (d : ℕ) (marks₀ out₀ : List ℕ) (count : ℕ) where
  pub visiting_starts : Queue marks₀ out₀ count → Visiting rows steps d marks₀ out₀ count marks₀ out₀ count 0
  visiting_starts q =
      record { upto = omega arith; marks_n = refl; out_n = refl; left = refl; back = refl; more = le_refl count; queue = q }

  visit_one : (j : ℕ) (l : List ℕ) → j < length steps → visit rows (drop j steps) d l
      ≡ visit rows (drop (j + 1) steps) d (add l (image rows (get_or steps j 0) d))
  unfolding visit
  visit_one j l h = rw (add-one, drop-cons steps j 0)

  pub visiting_turn : (marks out : List ℕ) (k j x : ℕ) (marks' out' : List ℕ) (r : ℕ) → Visiting rows steps d marks₀ out₀ count marks out k j →
      j < length steps → x ≡ image rows (get_or steps j 0) d → length marks' ≡ length marks → length out' ≡ length out →
      Grown out k (add (take k out) x) marks' out' r → Visiting rows steps d marks₀ out₀ count marks' out' r (j + 1)
  visiting_turn marks out k j x marks' out' r v h e m o g =
      record {
        upto = omega arith;
        marks_n = m ∙ v.marks_n;
        out_n = o ∙ v.out_n;
        left =
            ap (visit rows (drop (j + 1) steps) d) (g.front ∙ ap (add (take k out)) e)
            ∙ sym (visit_one j (take k out) h)
            ∙ v.left;
        back = g.back ∙ drop_more out out₀ k r g.more v.back;
        more = le_trans v.more g.more;
        queue = g.queue;
      }

  pub visiting_ends : (marks out : List ℕ) (k j : ℕ) → Visiting rows steps d marks₀ out₀ count marks out k j → length steps ≤ j →
      Grown out₀ count (visit rows steps d (take count out₀)) marks out k
  unfolding visit
  visiting_ends marks out k j v h = record { front = ends; back = v.back; more = v.more; queue = v.queue }
    where
      ends : take k out ≡ visit rows steps d (take count out₀)
      ends =
          let s : j ≡ length steps = omega (arith, v.upto) in
          ap (λ (t : List ℕ). visit rows t d (take k out)) (sym (ap (λ (n : ℕ). drop n steps) s ∙ drop-length steps)) ∙ v.left

-- ---- the loop of `flood`: k of the queue's darts are visited, and the search from here on gives the whole search's list

pub record Flooding (rows steps marks₀ out₀ : List ℕ) (from₀ count₀ : ℕ) (marks out : List ℕ) (k count : ℕ) : Type 0 where
  pub marks_n : length marks ≡ length marks₀
  pub out_n : length out ≡ length out₀
  pub upto : k ≤ count
  pub left : search rows steps (darts rows - k) k (take count out) ≡ search rows steps (darts rows - from₀) from₀ (take count₀ out₀)
  pub back : drop count out ≡ drop count out₀
  pub more : count₀ ≤ count
  pub queue : Queue marks out count

module _ (rows steps marks₀ out₀ : List ℕ) (from₀ count₀ : ℕ) (n-is : length marks₀ ≡ darts rows) where
  pub flooding_starts : from₀ ≤ count₀ → Queue marks₀ out₀ count₀ → Flooding rows steps marks₀ out₀ from₀ count₀ marks₀ out₀ from₀ count₀
  flooding_starts h q =
      record { marks_n = refl; out_n = refl; upto = h; left = refl; back = refl; more = le_refl count₀; queue = q }

  module _ (marks out : List ℕ) (k count : ℕ) (v : Flooding rows steps marks₀ out₀ from₀ count₀ marks out k count) where
    pub count_n : count ≤ darts rows
    count_n = omega (arith, queue_n marks out count v.queue, v.marks_n, n-is)

    queue_length : length (take count out) ≡ count
    queue_length = length-take-le count out v.queue.room

    pub dart_below : k < count → get_or out k 0 < darts rows
    dart_below h =
        let i : k < length (take count out) = omega (arith, queue_length) in
        let lt : get_or (take count out) k 0 < darts rows = omega (arith, v.queue.below _ (in_at (take count out) k i), v.marks_n, n-is) in
        subst (λ (x : ℕ). x < darts rows) (get_or-take count out k 0 h) lt

    pub flooding_turn : (marks' out' : List ℕ) (r : ℕ) → k < count → length marks' ≡ length marks → length out' ≡ length out →
        Grown out count (visit rows steps (get_or out k 0) (take count out)) marks' out' r → Flooding rows steps marks₀ out₀ from₀ count₀ marks' out' (k + 1) r
    flooding_turn marks' out' r h m o g =
        let i : k < length (take count out) = omega (arith, queue_length) in
        let e : darts rows - k ≡ suc (darts rows - (k + 1)) = omega (arith, count_n) in
        record {
          marks_n = m ∙ v.marks_n;
          out_n = o ∙ v.out_n;
          upto = omega (arith, g.more);
          left =
              ap (search rows steps (darts rows - (k + 1)) (k + 1))
              (g.front ∙ ap (λ (x : ℕ). visit rows steps x (take count out)) (sym (get_or-take count out k 0 h)))
              ∙ sym (search_more rows steps (darts rows - (k + 1)) k (take count out) i)
              ∙ ap (λ (f : ℕ). search rows steps f k (take count out)) (sym e)
              ∙ v.left;
          back = g.back ∙ drop_more out out₀ count r g.more v.back;
          more = le_trans v.more g.more;
          queue = g.queue;
        }

    pub flooding_ends : count ≤ k → Grown out₀ count₀ (search rows steps (darts rows - from₀) from₀ (take count₀ out₀)) marks out count
    flooding_ends h =
        record {
          front = sym (search_done rows steps (darts rows - k) k (take count out) (omega (arith, queue_length))) ∙ v.left;
          back = v.back;
          more = v.more;
          queue = v.queue;
        }

-- ---- an orbit's start and end

-- the queue of d alone
pub seeded : (d : ℕ) (marks out : List ℕ) → d < length marks → length marks ≤ length out → Zero marks → Queue (set marks d 1) (set out 0 d) 1
seeded d marks out h w z = push_queue marks out 0 d (queue_none marks out z) h (z.place d) w

-- what the search of d alone leaves in out is the orbit's list
pub flooded : (rows steps : List ℕ) (d : ℕ) (out marks' out' : List ℕ) (r : ℕ) → 0 < length out →
    Grown (set out 0 d) 1 (search rows steps (darts rows - 0) 0 (take 1 (set out 0 d))) marks' out' r → Listed (orbit rows steps d) out out' r
unfolding orbit
flooded rows steps d out marks' out' r w g =
    let l : List ℕ = search rows steps (darts rows) 0 (d ∷ []) in
    let f : take r out' ≡ l = g.front ∙ rw (sub-zero, take-suc-set out 0 d w) in
    let c : r ≡ length l = sym (length-take-le r out' g.queue.room) ∙ ap length f in
    record {
      count = c;
      places =
          sym (take-append-drop r out')
          ∙ ap (λ (t : List ℕ). t ++ drop r out') f
          ∙ ap (λ (t : List ℕ). l ++ t) (g.back ∙ drop-set-lt r out 0 d g.more ∙ ap (λ (k : ℕ). drop k out) c);
    }

-- ---- what a caller of `orbit` learns

module _ {l o o' : List ℕ} {r : ℕ} (h : Listed l o o' r) where
  pub listed_take : take r o' ≡ l
  listed_take = rw h.places (take_at l (drop (length l) o) r (sym h.count))

  pub listed_room : r ≤ length o'
  listed_room = omega (arith, h.count, ap length h.places, length-append l (drop (length l) o))

  pub listed_drop : drop r o' ≡ drop r o
  listed_drop = rw h.places (drop_at l (drop (length l) o) r (sym h.count)) ∙ ap (λ (k : ℕ). drop k o) (sym h.count)
