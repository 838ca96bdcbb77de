-- Marking a dart, and a leg of the face walk: what a turn keeps.
--   add_cases, insert_left, insert_cases   marking lengthens the list by one, or changes nothing
--   inserted_left, inserted_right, unchanged   a push of l, and where that changes nothing one of r
--   leg_more, leg_done                     the step laws of a leg
--   Walking, walking_starts, -turn, -ends  the loop of a leg
--   walked_one, walked_two                 both legs
--   lower_null, lower_real                 the cases of `lower`
-- Assumes nothing.
use mathlib.Core.Path.{◌≡◌, refl, sym, ap, ◌∙◌, subst}
use mathlib.Core.Bool.{Bool, true, false, cond, not, ◌||◌, or-true}
use mathlib.Core.Logic.{◌⊎◌, inl, inr, ⊎_elim}
use mathlib.Core.List.{List, [], ◌∷◌}
use Prim.Native.Nat.{ℕ, zero, suc, ◌+◌, ◌-◌, ◌≤◌, ◌<◌, min}
use native.Mathlib.Nat.{le_refl, le_trans}
use native.Mathlib.Omega.{arith}
use lib.Dec.{eqb}
use lib.ListN.{length, take, drop, length-append}
use lib.Seq.{length-take-le}
use borrow.Author.Tests.{eq-eqb, ne_eqb}
use Rattle.map_betas.specs.Betas.{beta, darts}
use Rattle.cell_steps.specs.Loans.{Queue, Grown}
use Rattle.cell_steps.specs.Search.{mem, add, Bounded}
use Rattle.cell_steps.proofs.Lists.{in_mem, mem_not}
use Rattle.cell_steps.proofs.SearchLaws.{Added, null, old, new, added}
use Rattle.cell_steps.proofs.QueueLaws.{queue_n}
use Rattle.cell_steps.proofs.TurnLaws.{drop_more}
use Rattle.cell_joins.proofs.PushLaws.{grown_both}
use Rattle.cell_faces.specs.Faces.{fresh, insert, lower, Walk, turn, leg, forward, backward, face_walk, Walked}

-- ---- one insertion

-- either x is fresh, and the list one longer, or it is not, and the list the same
pub record Fresh (s : List ℕ) (x : ℕ) (m : List ℕ) : Type 0 where
  pub is : fresh s x ≡ true
  pub longer : length m ≡ suc (length s)

pub record Stale (s : List ℕ) (x : ℕ) (m : List ℕ) : Type 0 where
  pub is : fresh s x ≡ false
  pub same : m ≡ s

freshness : (s : List ℕ) (x : ℕ) {m : List ℕ} → Added s x m → Fresh s x m ⊎ Stale s x m
unfolding fresh
freshness s x (null e) = inr (record { is = ap (λ (b : Bool). not (b || mem x s)) (eq-eqb x 0 e); same = refl })
freshness s x (old i) =
    inr (record { is = ap (λ (b : Bool). not (eqb x 0 || b)) (in_mem i) ∙ ap not (or-true (eqb x 0)); same = refl })
freshness s x (new a b) =
    inl
    (record {
      is = ap (λ (t : Bool). not (t || mem x s)) (ne_eqb x 0 a) ∙ ap not (mem_not x s b);
      longer = length-append s (x ∷ []) ∙ omega arith;
    })

pub add_cases : (s : List ℕ) (x : ℕ) → Fresh s x (add s x) ⊎ Stale s x (add s x)
add_cases s x = freshness s x (added s x)

pub insert_left : (s : List ℕ) (l r : ℕ) → fresh s l ≡ true → insert s l r ≡ add s l
unfolding insert
insert_left s l r e = ap (λ (b : Bool). cond b (add s l) (add s r)) e

insert_right : (s : List ℕ) (l r : ℕ) → fresh s l ≡ false → insert s l r ≡ add s r
unfolding insert
insert_right s l r e = ap (λ (b : Bool). cond b (add s l) (add s r)) e

-- the queue's length is its list's
pub grown_length : {q l m q' : List ℕ} {k r : ℕ} → Grown q k l m q' r → r ≡ length l
grown_length {q' = q'} {r = r} g = sym (length-take-le r q' g.queue.room) ∙ ap length g.front

-- ---- `insert`: a push of l, and where that changes nothing one of r

module _ (q : List ℕ) (k l r : ℕ) (w : k ≤ length q) where
  s_length : length (take k q) ≡ k
  s_length = length-take-le k q w

  pub inserted_left : (m q' : List ℕ) (a : ℕ) → Grown q k (add (take k q) l) m q' a → k < a → Grown q k (insert (take k q) l r) m q' a
  inserted_left m q' a g h =
      ⊎_elim
      (λ f. rw (insert_left (take k q) l r f.is) g)
      (λ f. absurd (omega (arith, grown_length g, ap length f.same, s_length)))
      (add_cases (take k q) l)

  -- a push that changed nothing
  pub unchanged : (m q' : List ℕ) (a : ℕ) → Grown q k (add (take k q) l) m q' a → a ≤ k → Stale (take k q) l (add (take k q) l) × (a ≡ k)
  unchanged m q' a g h =
      ⊎_elim
      (λ f. absurd (omega (arith, grown_length g, f.longer, s_length)))
      (λ f. (f, omega (arith, g.more)))
      (add_cases (take k q) l)

  pub inserted_right : (m q' : List ℕ) (a : ℕ) → Grown q k (add (take k q) l) m q' a → a ≤ k → (m₂ q₂ : List ℕ) (c : ℕ) →
      Grown q' k (add (take k q') r) m₂ q₂ c → Grown q k (insert (take k q) l r) m₂ q₂ c
  inserted_right m q' a g h m₂ q₂ c g₂ =
      let u = unchanged m q' a g h in
      let e : a ≡ k = u.1 in
      let f : take k q' ≡ take k q = ap (λ (i : ℕ). take i q') (sym e) ∙ g.front ∙ u.0.same in
      let b : drop k q' ≡ drop k q = ap (λ (i : ℕ). drop i q') (sym e) ∙ g.back ∙ ap (λ (i : ℕ). drop i q) e in
      record {
        front = g₂.front ∙ ap (λ (t : List ℕ). add t r) f ∙ sym (insert_right (take k q) l r u.0.is);
        back = g₂.back ∙ drop_more q' q k c g₂.more b;
        more = g₂.more;
        queue = g₂.queue;
      }

-- ---- the step laws of a leg

module _ (rows : List ℕ) (i j : ℕ) (w : Walk) where
  pub leg_more : (f : ℕ) → (fresh w.seen w.l || fresh w.seen w.r) ≡ true → leg rows i j (suc f) w ≡ leg rows i j f (turn rows i j w)
  unfolding leg
  leg_more f e = ap (λ (b : Bool). cond b (leg rows i j f (turn rows i j w)) w) e

  pub leg_done : (f : ℕ) → (fresh w.seen w.l || fresh w.seen w.r) ≡ false → leg rows i j f w ≡ w
  unfolding leg
  leg_done zero e = refl
  leg_done (suc f) e = ap (λ (b : Bool). cond b (leg rows i j f (turn rows i j w)) w) e

-- an insertion lengthens the list by one, or neither dart is fresh
pub insert_cases : (s : List ℕ) (l r : ℕ) →
    (((fresh s l || fresh s r) ≡ true) × (length (insert s l r) ≡ suc (length s))) ⊎ (((fresh s l || fresh s r) ≡ false) × (insert s l r ≡ s))
insert_cases s l r =
    ⊎_elim
    (λ f. inl (ap (λ (b : Bool). b || fresh s r) f.is, ap length (insert_left s l r f.is) ∙ f.longer))
    (λ f.
    ⊎_elim
    (λ g. inl (ap (λ (b : Bool). b || fresh s r) f.is ∙ g.is, ap length (insert_right s l r f.is) ∙ g.longer))
    (λ g. inr (ap (λ (b : Bool). b || fresh s r) f.is ∙ g.is, insert_right s l r f.is ∙ g.same))
    (add_cases s r))
    (add_cases s l)

-- ---- the loop of `leg`

pub record Walking (rows : List ℕ) (i j : ℕ) (marks₀ queue₀ : List ℕ) (k₀ l₀ r₀ low₀ : ℕ) (marks queue : List ℕ) (k l r low : ℕ) : Type 0 where
  pub marks_n : length marks ≡ length marks₀
  pub queue_same : length queue ≡ length queue₀
  pub left : leg rows i j (darts rows - (k - k₀)) (record { seen = take k queue; l = l; r = r; low = low }) ≡ leg rows i j (darts rows)
      (record { seen = take k₀ queue₀; l = l₀; r = r₀; low = low₀ })
  pub back : drop k queue ≡ drop k queue₀
  pub more : k₀ ≤ k
  pub held : Queue marks queue k
  pub l_lt : l < darts rows
  pub r_lt : r < darts rows

module _ (rows : List ℕ) (i j : ℕ) (marks₀ queue₀ : List ℕ) (k₀ l₀ r₀ low₀ : ℕ) where
  pub walking_starts : Queue marks₀ queue₀ k₀ → l₀ < darts rows → r₀ < darts rows → Walking rows i j marks₀ queue₀ k₀ l₀ r₀ low₀ marks₀ queue₀ k₀ l₀ r₀ low₀
  walking_starts q a b =
      record {
        marks_n = refl;
        queue_same = refl;
        left =
            let e : darts rows - (k₀ - k₀) ≡ darts rows = omega arith in
            ap (λ (f : ℕ). leg rows i j f (record { seen = take k₀ queue₀; l = l₀; r = r₀; low = low₀ })) e;
        back = refl;
        more = le_refl k₀;
        held = q;
        l_lt = a;
        r_lt = b;
      }

  module _ (marks queue : List ℕ) (k l r low : ℕ) (v : Walking rows i j marks₀ queue₀ k₀ l₀ r₀ low₀ marks queue k l r low) (marks' queue' : List ℕ) (m : ℕ)
      (g : Grown queue k (insert (take k queue) l r) marks' queue' m) where
    s_is : length (take k queue) ≡ k
    s_is = length-take-le k queue v.held.room

    pub walking_turn : k < m → length marks' ≡ length marks → length queue' ≡ length queue → Bounded rows → length marks₀ ≡ darts rows →
        (l' r' low₁ low' : ℕ) → l' ≡ beta rows i l → r' ≡ beta rows j r → low₁ ≡ lower low l' → low' ≡ lower low₁ r' →
        Walking rows i j marks₀ queue₀ k₀ l₀ r₀ low₀ marks' queue' m l' r' low'
    unfolding turn
    walking_turn h e-m e-q b n-is l' r' low₁ low' e-l e-r e_1 e_2 =
        let n : ℕ = darts rows in
        let w : Walk = record { seen = take k queue; l = l; r = r; low = low } in
        let c : ((fresh (take k queue) l || fresh (take k queue) r) ≡ true) × (length (insert (take k queue) l r) ≡ suc (length (take k queue))) =
        ⊎_elim (λ p. p) (λ p. absurd (omega (arith, grown_length g, ap length p.1, s_is))) (insert_cases (take k queue) l r) in
        let m-is : m ≡ k + 1 = omega (arith, grown_length g, c.1, s_is) in
        let f : n - (k - k₀) ≡ suc (n - (m - k₀)) = omega (arith, queue_n marks' queue' m g.queue, v.marks_n, v.more, n-is) in
        let low_is : low' ≡ lower (lower low (beta rows i l)) (beta rows j r) =
        e_2 ∙ ap (λ (x : ℕ). lower low₁ x) e-r ∙ ap (λ (x : ℕ). lower x (beta rows j r)) (e_1 ∙ ap (lower low) e-l) in
        record {
          marks_n = e-m ∙ v.marks_n;
          queue_same = e-q ∙ v.queue_same;
          left =
              ap (leg rows i j (n - (m - k₀))) (λ t. record { seen = g.front t; l = e-l t; r = e-r t; low = low_is t })
              ∙ sym (leg_more rows i j w (n - (m - k₀)) c.0)
              ∙ ap (λ (x : ℕ). leg rows i j x w) (sym f)
              ∙ v.left;
          back = g.back ∙ drop_more queue queue₀ k m g.more v.back;
          more = le_trans v.more g.more;
          held = g.queue;
          l_lt = rw e-l (b _ _);
          r_lt = rw e-r (b _ _);
        }

    pub walking_ends : m ≤ k →
        Walked (leg rows i j (darts rows) (record { seen = take k₀ queue₀; l = l₀; r = r₀; low = low₀ })) queue₀ k₀ marks' queue' k l r low
    walking_ends h =
        let n : ℕ = darts rows in
        let w : Walk = record { seen = take k queue; l = l; r = r; low = low } in
        let c : ((fresh (take k queue) l || fresh (take k queue) r) ≡ false) × (insert (take k queue) l r ≡ take k queue) =
        ⊎_elim (λ p. absurd (omega (arith, grown_length g, p.1, s_is))) (λ p. p) (insert_cases (take k queue) l r) in
        let e : w ≡ leg rows i j n (record { seen = take k₀ queue₀; l = l₀; r = r₀; low = low₀ }) =
        sym (leg_done rows i j w (n - (k - k₀)) c.0) ∙ v.left in
        let m-is : m ≡ k = omega (arith, g.more) in
        record {
          l_is = ap (λ (x : Walk). x.l) e;
          r_is = ap (λ (x : Walk). x.r) e;
          low_is = ap (λ (x : Walk). x.low) e;
          grown =
              record {
                front = ap (λ (x : ℕ). take x queue') (sym m-is) ∙ g.front ∙ c.1 ∙ ap (λ (x : Walk). x.seen) e;
                back = ap (λ (x : ℕ). drop x queue') (sym m-is) ∙ g.back ∙ drop_more queue queue₀ k m g.more v.back ∙ ap (λ (x : ℕ). drop x queue₀) m-is;
                more = v.more;
                queue = subst (λ (x : ℕ). Queue marks' queue' x) m-is g.queue;
              };
        }

-- ---- both legs

module _ (rows s : List ℕ) (d b low₀ : ℕ) (e-b : b ≡ beta rows 3 d) (e-low : low₀ ≡ lower d b) where
  forward_is : leg rows 1 0 (darts rows) (record { seen = s; l = d; r = b; low = low₀ }) ≡ forward rows s d
  unfolding forward
  forward_is = ap (leg rows 1 0 (darts rows)) (λ t. record { seen = s; l = d; r = e-b t; low = (e-low ∙ ap (lower d) e-b) t })

  backward_is : (w : Walk) (bl br : ℕ) → bl ≡ beta rows 0 d → br ≡ beta rows 1 b →
      leg rows 0 1 (darts rows) (record { seen = w.seen; l = bl; r = br; low = w.low }) ≡ backward rows d w
  unfolding backward
  backward_is w bl br e-l e-r =
      ap (leg rows 0 1 (darts rows)) (λ t. record { seen = w.seen; l = e-l t; r = (e-r ∙ ap (beta rows 1) e-b) t; low = w.low })

  module _ (q : List ℕ) (k₀ : ℕ) (m q' : List ℕ) (k l r low : ℕ)
      (h : Walked (leg rows 1 0 (darts rows) (record { seen = s; l = d; r = b; low = low₀ })) q k₀ m q' k l r low) where
    first : Walked (forward rows s d) q k₀ m q' k l r low
    first = subst (λ (w : Walk). Walked w q k₀ m q' k l r low) forward_is h

    choice : (x y : Bool) → eqb (forward rows s d).l 0 ≡ x → eqb (forward rows s d).r 0 ≡ y →
        face_walk rows s d ≡ cond x (backward rows d (forward rows s d)) (cond y (backward rows d (forward rows s d)) (forward rows s d))
    unfolding face_walk
    choice x y e f =
        ap (λ (t : Bool). cond t (backward rows d (forward rows s d))
        (cond (eqb (forward rows s d).r 0) (backward rows d (forward rows s d)) (forward rows s d))) e
        ∙ ap (λ (t : Bool). cond x (backward rows d (forward rows s d)) (cond t (backward rows d (forward rows s d)) (forward rows s d))) f

    pub walked_one : (l ≡ 0 → ⊥) → (r ≡ 0 → ⊥) → Walked (face_walk rows s d) q k₀ m q' k l r low
    walked_one a c =
        rw (choice false false (ne_eqb _ 0 (λ z. a (first.l_is ∙ z))) (ne_eqb _ 0 (λ z. c (first.r_is ∙ z)))) first

    both : (l ≡ 0) ⊎ (r ≡ 0) → face_walk rows s d ≡ backward rows d (forward rows s d)
    both o =
        ⊎_elim
        (λ z. choice true _ (eq-eqb _ 0 (sym first.l_is ∙ z)) refl)
        (λ z. choice _ true refl (eq-eqb _ 0 (sym first.r_is ∙ z)) ∙ either (eqb (forward rows s d).l 0))
        o
      where
        either : (x : Bool) →
            cond x (backward rows d (forward rows s d)) (cond true (backward rows d (forward rows s d)) (forward rows s d)) ≡ backward rows d (forward rows s d)
        either true = refl
        either false = refl

    pub walked_two : (l ≡ 0) ⊎ (r ≡ 0) → (bl br : ℕ) → bl ≡ beta rows 0 d → br ≡ beta rows 1 b → (m₂ q₂ : List ℕ) (k₂ l₂ r₂ low₂ : ℕ) →
        Walked (leg rows 0 1 (darts rows) (record { seen = take k q'; l = bl; r = br; low = low })) q' k m₂ q₂ k₂ l₂ r₂ low₂ →
        Walked (face_walk rows s d) q k₀ m₂ q₂ k₂ l₂ r₂ low₂
    walked_two o bl br e-l e-r m₂ q₂ k₂ l₂ r₂ low₂ g =
        let f : Walk = forward rows s d in
        let e : leg rows 0 1 (darts rows) (record { seen = take k q'; l = bl; r = br; low = low }) ≡ face_walk rows s d =
        ap (leg rows 0 1 (darts rows)) (λ t. record { seen = first.grown.front t; l = bl; r = br; low = first.low_is t })
        ∙ backward_is f bl br e-l e-r
        ∙ sym (both o) in
        let g' : Walked (face_walk rows s d) q' k m₂ q₂ k₂ l₂ r₂ low₂ = subst (λ (w : Walk). Walked w q' k m₂ q₂ k₂ l₂ r₂ low₂) e g in
        record {
          l_is = g'.l_is;
          r_is = g'.r_is;
          low_is = g'.low_is;
          grown = grown_both q k₀ _ m q' k _ m₂ q₂ k₂ first.grown g'.grown;
        }

-- ---- the cases of `lower`

module _ (low x : ℕ) where
  pub lower_null : x ≡ 0 → low ≡ lower low x
  unfolding lower
  lower_null e = simp (eq-eqb x 0 e)

  pub lower_real : (x ≡ 0 → ⊥) → min low x ≡ lower low x
  unfolding lower
  lower_real n = simp (ne_eqb x 0 n)
