-- A 3-unlink walks back what a 3-link did.
--   kept_image, less   a step of a link without the image of a dart that was linked before
--   alike              a leg leaves every image by beta 0, 1 and 2
--   fewer, without     a leg is the same without the images of darts that were linked before, and keeps them
--   back_pair, back_all   an unlink of a leg's pairs, in the same order, leaves what the rest of the link makes of the rows at first
-- Assumes nothing.
use Prim.Native.Nat.{ℕ, zero, suc, ◌<◌}
use native.Mathlib.Omega.{arith}
use mathlib.Core.Path.{◌≡◌, refl, sym, ap, ◌∙◌}
use mathlib.Core.Logic.{◌≢◌}
use mathlib.Core.List.{List}
use mathlib.Core.Bool.{true, false}
use lib.ListN.{set}
use lib.Seq.{set_comm, get_or-set_other}
use Rattle.map_betas.specs.Betas.{place, beta}
use Rattle.map_betas.specs.Answers.{out, nothing, done}
use Rattle.map_betas.proofs.Stores.{pair_others, pair_l, pair_r, pair_back}
use Rattle.map_betas.proofs.CoreLaws.{unlink_done}
use Rattle.link_walk.specs.Walk.{step_of, LegOut, leg_out, leg_at, walk}
use Rattle.link_walk.specs.Undo.{Inside}
use Rattle.link_walk.proofs.Stores.{beta_set}
use Rattle.link_walk.proofs.StepLaws.{Changed, link_step_done, step_unlink}
use Rattle.link_glue.proofs.Turns.{step_again, onto, Turn, ends, goes, turn_of_lem, done_of}
use Rattle.std.specs.Prelude.{is_ok}

-- a step of an unlink, from what holds of the pair

module _ (ld rd : ℕ) (rows : List ℕ) (l r : ℕ) where
  pub unlink_again : beta rows 3 l ≡ r → beta rows 3 r ≡ l → r ≢ 0 → out (done r 0) (set (set rows (place 3 l) 0) (place 3 r) 0) ≡ step_of true ld rd rows l r
  unlink_again el er n =
      unlink_done rows 3 l 3 r (set rows (place 3 l) 0) (set (set rows (place 3 l) 0) (place 3 r) 0) refl (sym el) n refl refl
      ∙ step_unlink ld rd rows l r (sym er)

-- a link without the image of a, which is another dart
module _ (rows : List ℕ) (l r : ℕ) (rows' : List ℕ) (h : Changed false rows l r rows') (a : ℕ) (n : beta rows 3 a ≢ 0) where
  not_l : a ≢ l
  not_l e = n (rw e h.was_l)

  not_r : a ≢ r
  not_r e = n (rw e h.was_r)

  kept_image : beta rows' 3 a ≡ beta rows 3 a
  kept_image =
      let al = not_l in
      let ar = not_r in
      pair_others false rows 3 l r rows' h 3 a (omega arith) (omega arith)

  less : Changed false (set rows (place 3 a) 0) l r (set rows' (place 3 a) 0)
  less =
      let al = not_l in
      let ar = not_r in
      record {
        was_l = get_or-set_other rows (place 3 a) (place 3 l) 0 0 (omega arith) ∙ h.was_l;
        was_r = get_or-set_other rows (place 3 a) (place 3 r) 0 0 (omega arith) ∙ h.was_r;
        apart = h.apart;
        real = h.real;
        put =
            rw h.put
            (set_comm (set rows (place 3 l) r) (place 3 r) (place 3 a) l 0 (omega arith)
            ∙ ap (λ (x : List ℕ). set x (place 3 r) l) (set_comm rows (place 3 l) (place 3 a) r 0 (omega arith)));
      }

-- one leg of a link
module _ (ld rd i j stop : ℕ) (hi : i < 3) (hj : j < 3) where
  abbrev links : ℕ → List ℕ → ℕ → ℕ → ℕ → LegOut
  links f rows l r k = walk (step_of false ld rd) f rows i j stop l r k

  -- the other images stay
  abbrev Alike : ℕ → Type 0
  Alike f = (rows : List ℕ) (l r k : ℕ) (w : LegOut) → links f rows l r k ≡ w → is_ok w.leg.answer ≡ true → (b d : ℕ) → b < 3 →
      beta w.rows b d ≡ beta rows b d

  alike_on : (f : ℕ) → Alike f → Alike (suc f)
  alike_on f ih rows l r k w e t b d hb =
      go (turn_of_lem false ld rd i j stop f rows l r k (λ nl d. link_step_done rows _ _ ld rd l r refl d)
      (done_of false ld rd i j stop (suc f) rows l r k w e t))
    where
      go : Turn false ld rd i j stop f rows l r k → beta w.rows b d ≡ beta rows b d
      go (ends z q) = ap (λ (x : LegOut). beta x.rows b d) (sym e ∙ q (step_of false ld rd) rows)
      go (goes nl ns rows' h q) =
          ih rows' (beta rows' i l) (beta rows' j r) (suc k) w (sym q ∙ e) t b d hb
          ∙ ap (λ (x : List ℕ). beta x b d) h.put
          ∙ beta_set (set rows (place 3 l) r) b d r l hb
          ∙ beta_set rows b d l r hb

  alike_not : Alike zero
  unfolding walk
  alike_not rows l r k w e t b d hb = ap (λ (x : LegOut). beta x.rows b d) (sym e)

  pub alike : (f : ℕ) → Alike f
  alike zero = alike_not
  alike (suc f) = alike_on f (alike f)

  -- the same walk without the image of a dart that was linked before, which it keeps
  abbrev Less : ℕ → Type 0
  Less f =
      (rows : List ℕ) (l r k : ℕ) (w : LegOut) (a : ℕ) → links f rows l r k ≡ w → is_ok w.leg.answer ≡ true → beta rows 3 a ≢ 0 →
      (links f (set rows (place 3 a) 0) l r k ≡ leg_out w.leg (set w.rows (place 3 a) 0)) × (beta w.rows 3 a ≡ beta rows 3 a)

  less_on : (f : ℕ) → Less f → Less (suc f)
  less_on f ih rows l r k w a e t n =
      go (turn_of_lem false ld rd i j stop f rows l r k (λ nl d. link_step_done rows _ _ ld rd l r refl d)
      (done_of false ld rd i j stop (suc f) rows l r k w e t))
    where
      go : Turn false ld rd i j stop f rows l r k →
          (links (suc f) (set rows (place 3 a) 0) l r k ≡ leg_out w.leg (set w.rows (place 3 a) 0)) × (beta w.rows 3 a ≡ beta rows 3 a)
      go (ends z q) =
          let p : w ≡ leg_out (leg_at nothing l r k) rows = sym e ∙ q (step_of false ld rd) rows in (
            q (step_of false ld rd) (set rows (place 3 a) 0) ∙ ap (λ (x : LegOut). leg_out x.leg (set x.rows (place 3 a) 0)) (sym p),
            ap (λ (x : LegOut). beta x.rows 3 a) p,
          )
      go (goes nl ns rows' h q) =
          let kept = kept_image rows l r rows' h a n in
          let v = ih rows' (beta rows' i l) (beta rows' j r) (suc k) w a (sym q ∙ e) t (λ z. n (sym kept ∙ z)) in (
            onto i j stop (step_of false ld rd) f (set rows (place 3 a) 0) l r k nl ns nothing (set rows' (place 3 a) 0)
                (step_again false ld rd (set rows (place 3 a) 0) l r (set rows' (place 3 a) 0) (less rows l r rows' h a n)) refl
                ∙ rw (beta_set rows' i l a 0 hi, beta_set rows' j r a 0 hj) v.0,
            v.1 ∙ kept,
          )

  less_not : Less zero
  unfolding walk
  less_not rows l r k w a e t n =
      (ap (λ (x : LegOut). leg_out x.leg (set x.rows (place 3 a) 0)) e, ap (λ (x : LegOut). beta x.rows 3 a) (sym e))

  pub fewer : (f : ℕ) → Less f
  fewer zero = less_not
  fewer (suc f) = less_on f (fewer f)

  -- and without a pair
  pub without : (f : ℕ) (rows : List ℕ) (l r k : ℕ) (w : LegOut) (a b : ℕ) → links f rows l r k ≡ w → is_ok w.leg.answer ≡ true → a ≢ b →
      beta rows 3 a ≢ 0 → beta rows 3 b ≢ 0 →
      links f (set (set rows (place 3 a) 0) (place 3 b) 0) l r k ≡ leg_out w.leg (set (set w.rows (place 3 a) 0) (place 3 b) 0)
  without f rows l r k w a b e t n na nb =
      let p = fewer f rows l r k w a e t na in
      let q : beta (set rows (place 3 a) 0) 3 b ≡ beta rows 3 b = get_or-set_other rows (place 3 a) (place 3 b) 0 0 (omega arith) in
      (fewer f (set rows (place 3 a) 0) l r k (leg_out w.leg (set w.rows (place 3 a) 0)) b p.0 t (λ z. nb (sym q ∙ z))).0

-- two legs of a link, and the unlink of the first
module _ (n ld rd i j stop i₂ j₂ stop₂ f₂ l₂ r₂ k₂ : ℕ) (hi : i < 3) (hj : j < 3) (hi₂ : i₂ < 3) (hj₂ : j₂ < 3) where
  abbrev second : List ℕ → LegOut
  second rows = walk (step_of false ld rd) f₂ rows i₂ j₂ stop₂ l₂ r₂ k₂

  abbrev Back : ℕ → Type 0
  Back f =
      (rows : List ℕ) (l r k : ℕ) (w v : LegOut) → Inside n rows → l < n → r < n →
      walk (step_of false ld rd) f rows i j stop l r k ≡ w → is_ok w.leg.answer ≡ true → second w.rows ≡ v → is_ok v.leg.answer ≡ true →
      (xs : List ℕ) × (second rows ≡ leg_out v.leg xs) × (walk (step_of true ld rd) f v.rows i j stop l r k ≡ leg_out w.leg xs)

  -- a pair that was linked before both legs
  pub record Pair (f : ℕ) (rows : List ℕ) (l r k : ℕ) (rows' : List ℕ) (w v : LegOut) : Type 0 where
    pub last_l : beta v.rows 3 l ≡ r
    pub last_r : beta v.rows 3 r ≡ l
    pub low : (b d : ℕ) → b < 3 → beta (set (set v.rows (place 3 l) 0) (place 3 r) 0) b d ≡ beta rows' b d
    pub left : List ℕ
    pub linked : second rows ≡ leg_out v.leg left
    pub unlinked : walk (step_of true ld rd) f (set (set v.rows (place 3 l) 0) (place 3 r) 0) i j stop (beta rows' i l) (beta rows' j r) k
        ≡ leg_out w.leg left

  pub back_pair : (f : ℕ) → Back f → (rows : List ℕ) (l r k : ℕ) (w v : LegOut) → Inside n rows → l < n → r < n → l ≢ 0 → (rows' : List ℕ) →
      Changed false rows l r rows' →
      walk (step_of false ld rd) f rows' i j stop (beta rows' i l) (beta rows' j r) k ≡ w → is_ok w.leg.answer ≡ true → second w.rows ≡ v →
      is_ok v.leg.answer ≡ true →
      Pair f rows l r k rows' w v
  back_pair f ih rows l r k w v s hl hr nl rows' h e t e₂ t₂ =
      let ap' : l ≢ r = h.apart (omega arith) in
      let wh = s.whole in
      let same : (b d : ℕ) → b < 3 → beta rows' b d ≡ beta rows b d = λ b d hb. pair_others false rows 3 l r rows' h b d (omega arith) (omega arith) in
      let at_l : beta rows' 3 l ≡ r = pair_l false rows 3 l r rows' h (omega arith) (omega arith) (omega arith) in
      let at_r : beta rows' 3 r ≡ l = pair_r false rows 3 l r rows' h (omega arith) (omega arith) (omega arith) in
      let n-l : beta rows' 3 l ≢ 0 = λ z. h.real (sym at_l ∙ z) in
      let n-r : beta rows' 3 r ≢ 0 = λ z. nl (sym at_r ∙ z) in
      let was : set (set rows' (place 3 l) 0) (place 3 r) 0 ≡ rows = pair_back false rows 3 l r rows' h (omega arith) (omega arith) in
      -- the first leg keeps the pair, and goes the same way without it
      let keep-l : beta w.rows 3 l ≡ r = (fewer ld rd i j stop hi hj f rows' (beta rows' i l) (beta rows' j r) k w l e t n-l).1 ∙ at_l in
      let keep-r : beta w.rows 3 r ≡ l = (fewer ld rd i j stop hi hj f rows' (beta rows' i l) (beta rows' j r) k w r e t n-r).1 ∙ at_r in
      let one = without ld rd i j stop hi hj f rows' (beta rows' i l) (beta rows' j r) k w l r e t ap' n-l n-r in
      let m-l : beta w.rows 3 l ≢ 0 = λ z. h.real (sym keep-l ∙ z) in
      let m-r : beta w.rows 3 r ≢ 0 = λ z. nl (sym keep-r ∙ z) in
      -- so does the second
      let last_l : beta v.rows 3 l ≡ r = (fewer ld rd i₂ j₂ stop₂ hi₂ hj₂ f₂ w.rows l₂ r₂ k₂ v l e₂ t₂ m-l).1 ∙ keep-l in
      let last_r : beta v.rows 3 r ≡ l = (fewer ld rd i₂ j₂ stop₂ hi₂ hj₂ f₂ w.rows l₂ r₂ k₂ v r e₂ t₂ m-r).1 ∙ keep-r in
      let two = without ld rd i₂ j₂ stop₂ hi₂ hj₂ f₂ w.rows l₂ r₂ k₂ v l r e₂ t₂ ap' m-l m-r in
      let ys : List ℕ = set (set v.rows (place 3 l) 0) (place 3 r) 0 in
      let low : (b d : ℕ) → b < 3 → beta ys b d ≡ beta rows' b d =
      λ b d hb. beta_set (set v.rows (place 3 l) 0) b d r 0 hb ∙ beta_set v.rows b d l 0 hb
      ∙ alike ld rd i₂ j₂ stop₂ hi₂ hj₂ f₂ w.rows l₂ r₂ k₂ v e₂ t₂ b d hb
      ∙ alike ld rd i j stop hi hj f rows' (beta rows' i l) (beta rows' j r) k w e t b d hb in
      let rest =
      ih rows (beta rows' i l) (beta rows' j r) k (leg_out w.leg (set (set w.rows (place 3 l) 0) (place 3 r) 0)) (leg_out v.leg ys) s
      (rw (same i l hi) (s.below (place i l))) (rw (same j r hj) (s.below (place j r))) (rw was at one) t two t₂ in
      record { last_l = last_l; last_r = last_r; low = low; left = rest.0; linked = rest.1; unlinked = rest.2 }

  back_goes : (f : ℕ) → Back f → (rows : List ℕ) (l r k : ℕ) (w v : LegOut) → Inside n rows → l < n → r < n → l ≢ 0 → l ≢ stop → (rows' : List ℕ) →
      Changed false rows l r rows' →
      walk (step_of false ld rd) f rows' i j stop (beta rows' i l) (beta rows' j r) (suc k) ≡ w → is_ok w.leg.answer ≡ true → second w.rows ≡ v →
      is_ok v.leg.answer ≡ true →
      (xs : List ℕ) × (second rows ≡ leg_out v.leg xs) × (walk (step_of true ld rd) (suc f) v.rows i j stop l r k ≡ leg_out w.leg xs)
  back_goes f ih rows l r k w v s hl hr nl ns rows' h e t e₂ t₂ =
      let p : Pair f rows l r (suc k) rows' w v = back_pair f ih rows l r (suc k) w v s hl hr nl rows' h e t e₂ t₂ in (
        p.left,
        p.linked,
        onto i j stop (step_of true ld rd) f v.rows l r k nl ns (done r 0) (set (set v.rows (place 3 l) 0) (place 3 r) 0)
            (unlink_again ld rd v.rows l r p.last_l p.last_r h.real) refl
            ∙ rw (p.low i l hi, p.low j r hj) p.unlinked,
      )

  back_on : (f : ℕ) → Back f → Back (suc f)
  back_on f ih rows l r k w v s hl hr e t e₂ t₂ =
      go (turn_of_lem false ld rd i j stop f rows l r k (λ nl d. link_step_done rows _ _ ld rd l r refl d)
      (done_of false ld rd i j stop (suc f) rows l r k w e t))
    where
      go : Turn false ld rd i j stop f rows l r k →
          (xs : List ℕ) × (second rows ≡ leg_out v.leg xs) × (walk (step_of true ld rd) (suc f) v.rows i j stop l r k ≡ leg_out w.leg xs)
      go (ends z q) =
          let p : w ≡ leg_out (leg_at nothing l r k) rows = sym e ∙ q (step_of false ld rd) rows in (
            v.rows,
            ap (λ (x : LegOut). second x.rows) (sym p) ∙ e₂,
            q (step_of true ld rd) v.rows
                ∙ ap (λ (x : LegOut). leg_out x.leg v.rows) (sym p),
          )
      go (goes nl ns rows' h q) = back_goes f ih rows l r k w v s hl hr nl ns rows' h (sym q ∙ e) t e₂ t₂

  back_not : Back zero
  unfolding walk
  back_not rows l r k w v s hl hr e t e₂ t₂ =
      (v.rows, ap (λ (x : LegOut). second x.rows) e ∙ e₂, ap (λ (x : LegOut). leg_out x.leg v.rows) e)

  pub back_all : (f : ℕ) → Back f
  back_all zero = back_not
  back_all (suc f) = back_on f (back_all f)
