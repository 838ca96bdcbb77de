-- What the face walk stands on is of the Face orbit.
--   fresh_new            a dart that is real and not marked can be marked
--   lower_le, lower_at   the least so far is no more than it was, and no more than the dart
--   leg_low              a leg only lowers it
--   by_1, by_0, by_3     from a dart of the orbit, or null, a step leads to one
--   walk_facts           what the walk gives is of the orbit, and no more than the forward leg gave
-- Assumes nothing.
use mathlib.Core.Path.{◌≡◌, refl, sym, ap, ◌∙◌, subst}
use mathlib.Core.Bool.{Bool, true, false, cond, ◌||◌, not}
use mathlib.Core.Logic.{◌⊎◌, inl, inr, ⊎_elim}
use mathlib.Core.List.Memᴰ
use mathlib.Core.List.{List, []}
use mathlib.Mathlib.Logic.Relation.ReflTransGenᴰ
use Prim.Native.Nat.{ℕ, zero, suc, ◌≤◌, ◌<◌, min}
use native.Mathlib.Nat.{le_refl, le_trans, min-le_left, min-le_right}
use lib.Dec.{eqb, lit<}
use borrow.Author.Tests.{eqb-true, eqb-false, ne_eqb}
use Rattle.map_betas.specs.Betas.{beta, darts}
use Rattle.map_betas.specs.Maps.{WellFormed}
use Rattle.cell_steps.specs.Search.{In, mem, Reach}
use Rattle.cell_steps.specs.Steps.{image, face}
use Rattle.cell_steps.proofs.Lists.{bool, mem_not}
use Rattle.cell_steps.proofs.IdentLaws.{min_one}
use Rattle.cell_faces.specs.Faces.{fresh, lower, Walk, turn, leg, forward, backward, face_walk}

-- ---- a dart that is real and not seen is inserted

pub fresh_new : (s : List ℕ) (x : ℕ) → (x ≡ 0 → ⊥) → (In x s → ⊥) → fresh s x ≡ true
unfolding fresh
fresh_new s x a b = ap (λ (t : Bool). not (t || mem x s)) (ne_eqb x 0 a) ∙ ap not (mem_not x s b)

-- ---- the least so far

pub lower_le : (low x : ℕ) → lower low x ≤ low
unfolding lower
lower_le low x = go (eqb x 0)
  where
    go : (t : Bool) → cond t low (min low x) ≤ low
    go true = le_refl low
    go false = min-le_left low x

pub lower_at : (low x : ℕ) → (x ≡ 0) ⊎ (lower low x ≤ x)
unfolding lower
lower_at low x =
    ⊎_elim (λ e. inl (eqb-true x 0 e)) (λ e. inr (subst (λ (t : Bool). cond t low (min low x) ≤ x) (sym e) (min-le_right low x))) (bool (eqb x 0))

-- it is the old least or the dart
lower_one : (low x : ℕ) → (lower low x ≡ low) ⊎ ((lower low x ≡ x) × (x ≡ 0 → ⊥))
unfolding lower
lower_one low x =
    ⊎_elim
    (λ e. inl (ap (λ (t : Bool). cond t low (min low x)) e))
    (λ e.
    ⊎_elim
    (λ f. inl (ap (λ (t : Bool). cond t low (min low x)) e ∙ f))
    (λ f. inr (ap (λ (t : Bool). cond t low (min low x)) e ∙ f, eqb-false x 0 e))
    (min_one low x))
    (bool (eqb x 0))

-- a leg only lowers it
pub leg_low : (rows : List ℕ) (i j f : ℕ) (w : Walk) → (leg rows i j f w).low ≤ w.low
unfolding leg turn
leg_low rows i j zero w = le_refl w.low
leg_low rows i j (suc f) w = go (leg_low rows i j f (turn rows i j w)) (fresh w.seen w.l || fresh w.seen w.r)
  where
    go : (leg rows i j f (turn rows i j w)).low ≤ (turn rows i j w).low → (t : Bool) → (cond t (leg rows i j f (turn rows i j w)) w).low ≤ w.low
    go h true = le_trans h (le_trans (lower_le (lower w.low (beta rows i w.l)) (beta rows j w.r)) (lower_le w.low (beta rows i w.l)))
    go h false = le_refl w.low

-- ---- what a leg stands on is null or of the Face orbit, and its least is of the orbit

pub record Sound (rows : List ℕ) (d : ℕ) (w : Walk) : Type 0 where
  pub on_l : (w.l ≡ 0) ⊎ Reach rows face d w.l
  pub on_r : (w.r ≡ 0) ⊎ Reach rows face d w.r
  pub on_low : Reach rows face d w.low

module _ (rows : List ℕ) (m : WellFormed rows) (d : ℕ) where
  -- from a dart of the orbit, or null, by one of the face's betas
  onward : (i : ℕ) → i < 4 → In i face → (x : ℕ) → image rows i x ≡ beta rows i x → (x ≡ 0) ⊎ Reach rows face d x →
      (beta rows i x ≡ 0) ⊎ Reach rows face d (beta rows i x)
  onward i lt s x e h =
      ⊎_elim
      (λ z. inl (ap (beta rows i) z ∙ m.null i lt))
      (λ r.
      ⊎_elim
      (λ z. inl (eqb-true (beta rows i x) 0 z))
      (λ z. inr (ReflTransGenᴰ.tail r (record { by = i; listed = s; leads = e; real = eqb-false (beta rows i x) 0 z })))
      (bool (eqb (beta rows i x) 0)))
      h

  pub by_1 : (x : ℕ) → (x ≡ 0) ⊎ Reach rows face d x → (beta rows 1 x ≡ 0) ⊎ Reach rows face d (beta rows 1 x)
  unfolding image
  by_1 x h = onward 1 (lit< tt) (Memᴰ.head refl) x refl h

  pub by_0 : (x : ℕ) → (x ≡ 0) ⊎ Reach rows face d x → (beta rows 0 x ≡ 0) ⊎ Reach rows face d (beta rows 0 x)
  unfolding image
  by_0 x h = onward 0 (lit< tt) (Memᴰ.tail (Memᴰ.head refl)) x refl h

  pub by_3 : (x : ℕ) → (x ≡ 0) ⊎ Reach rows face d x → (beta rows 3 x ≡ 0) ⊎ Reach rows face d (beta rows 3 x)
  unfolding image
  by_3 x h = onward 3 (lit< tt) (Memᴰ.tail (Memᴰ.tail (Memᴰ.head refl))) x refl h

  lower_on : (low x : ℕ) → Reach rows face d low → (x ≡ 0) ⊎ Reach rows face d x → Reach rows face d (lower low x)
  lower_on low x a h =
      ⊎_elim
      (λ e. subst (Reach rows face d) (sym e) a)
      (λ e. subst (Reach rows face d) (sym e.0) (⊎_elim (λ z. absurd (e.1 z)) (λ r. r) h))
      (lower_one low x)

  module _ (i j : ℕ) (go-i : (x : ℕ) → (x ≡ 0) ⊎ Reach rows face d x → (beta rows i x ≡ 0) ⊎ Reach rows face d (beta rows i x))
      (go-j : (x : ℕ) → (x ≡ 0) ⊎ Reach rows face d x → (beta rows j x ≡ 0) ⊎ Reach rows face d (beta rows j x)) where
    turn_sound : (w : Walk) → Sound rows d w → Sound rows d (turn rows i j w)
    unfolding turn
    turn_sound w s =
        record {
          on_l = go-i w.l s.on_l;
          on_r = go-j w.r s.on_r;
          on_low = lower_on _ _ (lower_on _ _ s.on_low (go-i w.l s.on_l)) (go-j w.r s.on_r);
        }

    leg_sound : (f : ℕ) (w : Walk) → Sound rows d w → Sound rows d (leg rows i j f w)
    unfolding leg
    leg_sound zero w s = s
    leg_sound (suc f) w s = pick (leg_sound f (turn rows i j w) (turn_sound w s)) (fresh w.seen w.l || fresh w.seen w.r)
      where
        pick : Sound rows d (leg rows i j f (turn rows i j w)) → (t : Bool) → Sound rows d (cond t (leg rows i j f (turn rows i j w)) w)
        pick h true = h
        pick h false = s

  forward_sound : Sound rows d (forward rows [] d)
  unfolding forward
  forward_sound =
      let b = by_3 d (inr ReflTransGenᴰ.refl) in
      leg_sound 1 0 by_1 by_0 (darts rows) _ (record { on_l = inr ReflTransGenᴰ.refl; on_r = b; on_low = lower_on d (beta rows 3 d) ReflTransGenᴰ.refl b })

  backward_sound : (w : Walk) → Sound rows d w → Sound rows d (backward rows d w)
  unfolding backward
  backward_sound w s =
      let b = by_3 d (inr ReflTransGenᴰ.refl) in
      leg_sound 0 1 by_0 by_1 (darts rows) _ (record { on_l = by_0 d (inr ReflTransGenᴰ.refl); on_r = by_1 (beta rows 3 d) b; on_low = s.on_low })

  -- what the walk gives is of the orbit, and no more than the forward leg gave
  pub walk_facts : Reach rows face d (face_walk rows [] d).low × ((face_walk rows [] d).low ≤ (forward rows [] d).low)
  unfolding face_walk backward
  walk_facts = pick (eqb (forward rows [] d).l 0) (eqb (forward rows [] d).r 0)
    where
      second : Reach rows face d (backward rows d (forward rows [] d)).low × ((backward rows d (forward rows [] d)).low ≤ (forward rows [] d).low)
      second = ((backward_sound (forward rows [] d) forward_sound).on_low, leg_low rows 0 1 (darts rows) _)

      pick : (x y : Bool) →
          Reach rows face d (cond x (backward rows d (forward rows [] d)) (cond y (backward rows d (forward rows [] d)) (forward rows [] d))).low ×
          ((cond x (backward rows d (forward rows [] d)) (cond y (backward rows d (forward rows [] d)) (forward rows [] d))).low ≤ (forward rows [] d).low)
      pick true y = second
      pick false true = second
      pick false false = (forward_sound.on_low, le_refl _)
