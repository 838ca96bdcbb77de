-- What a leg that ends well did, pair by pair, of a link and of an unlink alike.
--   Trace             the pairs of a leg: real, different, as they were and as they are; every other image stays
--   trace_on          a pair before the others
--   traced            of any leg that ends well
-- Assumes nothing.
use Prim.Native.Nat.{ℕ, zero, suc, ◌<◌, ◌≤◌}
use native.Mathlib.Omega.{arith}
use mathlib.Core.Path.{◌≡◌, refl, sym, ap, ◌∙◌}
use mathlib.Core.Logic.{◌≢◌, ◌⊎◌}
use mathlib.Core.List.{List}
use mathlib.Core.Bool.{Bool, true, false, cond}
use Rattle.map_betas.specs.Betas.{beta, darts}
use Rattle.map_betas.specs.Answers.{nothing}
use Rattle.map_betas.specs.Maps.{WellFormed}
use Rattle.map_betas.specs.Chains.{far}
use Rattle.link_walk.specs.Walk.{step_of, LegOut, leg_out, leg_at, walk}
use Rattle.link_walk.proofs.StepLaws.{Changed, step_done, changeable, changed_formed, changed_low, changed_l, changed_r, changed_far, changed_fewer}
use Rattle.link_glue.proofs.Turns.{Turn, ends, goes, turn_of_lem, done_of}
use Rattle.std.specs.Prelude.{is_ok}

-- no dart is both one that is still to change and one that has changed
pub clash : (parting : Bool) (x y : ℕ) → cond parting x 0 ≡ cond parting 0 y → x ≢ 0 → y ≢ 0 → ⊥
clash true x y e nx ny = nx e
clash false x y e nx ny = ny (sym e)

-- m pairs, the t-th of them t steps from l and r; the steps are those of the rows base
pub record Trace (parting : Bool) (base : List ℕ) (i j stop : ℕ) (rows : List ℕ) (l r m : ℕ) (w : LegOut) : Type 0 where
  pub real_l : (t : ℕ) → t < m → far base i t l ≢ 0
  pub real_r : (t : ℕ) → t < m → far base j t r ≢ 0
  pub end_l : w.leg.pair.l ≡ far base i m l
  pub end_r : w.leg.pair.r ≡ far base j m r
  pub ended : (w.leg.pair.l ≡ 0) ⊎ (w.leg.pair.l ≡ stop)
  pub few : m ≤ changeable parting rows
  pub was_l : (t : ℕ) → t < m → beta rows 3 (far base i t l) ≡ cond parting (far base j t r) 0
  pub was_r : (t : ℕ) → t < m → beta rows 3 (far base j t r) ≡ cond parting (far base i t l) 0
  pub now_l : (t : ℕ) → t < m → beta w.rows 3 (far base i t l) ≡ cond parting 0 (far base j t r)
  pub now_r : (t : ℕ) → t < m → beta w.rows 3 (far base j t r) ≡ cond parting 0 (far base i t l)
  pub distinct : (t u : ℕ) → t < u → u < m → far base i t l ≢ far base i u l
  pub apart : (t u : ℕ) → t < m → u < m → far base i t l ≢ far base j u r
  pub other : (d : ℕ) → ((t : ℕ) → t < m → (d ≢ far base i t l) × (d ≢ far base j t r)) → beta w.rows 3 d ≡ beta rows 3 d

-- a pair before the others
module _ (parting : Bool) (base : List ℕ) (i j stop : ℕ) (rows : List ℕ) (l r : ℕ) (rows' : List ℕ) (w : LegOut)
    (s : WellFormed rows) (hl : l < darts rows) (hr : r < darts rows) (nl : l ≢ 0) (h : Changed parting rows l r rows')
    (m : ℕ) (v : Trace parting base i j stop rows' (beta base i l) (beta base j r) m w) where
  at_l : beta rows' 3 l ≡ cond parting 0 r
  at_l = changed_l parting rows l r rows' s h hl hr nl

  at_r : beta rows' 3 r ≡ cond parting 0 l
  at_r = changed_r parting rows l r rows' s h hl hr nl

  -- the later darts are neither of the pair
  left_l : (t : ℕ) → t < m → far base i t (beta base i l) ≢ l
  left_l t q z = clash parting _ r (sym (v.was_l t q) ∙ ap (λ (x : ℕ). beta rows' 3 x) z ∙ at_l) (v.real_r t q) h.real

  left_r : (t : ℕ) → t < m → far base i t (beta base i l) ≢ r
  left_r t q z = clash parting _ l (sym (v.was_l t q) ∙ ap (λ (x : ℕ). beta rows' 3 x) z ∙ at_r) (v.real_r t q) nl

  right_l : (t : ℕ) → t < m → far base j t (beta base j r) ≢ l
  right_l t q z = clash parting _ r (sym (v.was_r t q) ∙ ap (λ (x : ℕ). beta rows' 3 x) z ∙ at_l) (v.real_l t q) h.real

  right_r : (t : ℕ) → t < m → far base j t (beta base j r) ≢ r
  right_r t q z = clash parting _ l (sym (v.was_r t q) ∙ ap (λ (x : ℕ). beta rows' 3 x) z ∙ at_r) (v.real_l t q) nl

  same : (d : ℕ) → d ≢ l → d ≢ r → beta rows' 3 d ≡ beta rows 3 d
  same d a b = changed_far parting rows l r rows' s h hl hr nl d a b

  -- a fact of each of the pairs, from the first and the others
  each : (P : ℕ → Type 0) → P 0 → ((t : ℕ) → t < m → P (suc t)) → (t : ℕ) → t < suc m → P t
  each P a b zero q = a
  each P a b (suc t) q = b t (omega arith)

  apart_on : (t u : ℕ) → t < suc m → u < suc m → far base i t l ≢ far base j u r
  unfolding far
  apart_on zero zero p q = h.apart (omega arith)
  apart_on zero (suc u) p q = λ z. right_l u (omega arith) (sym z)
  apart_on (suc t) zero p q = left_r t (omega arith)
  apart_on (suc t) (suc u) p q = v.apart t u (omega arith) (omega arith)

  distinct_on : (t u : ℕ) → t < u → u < suc m → far base i t l ≢ far base i u l
  unfolding far
  distinct_on t zero p q = absurd (omega arith)
  distinct_on zero (suc u) p q = λ z. left_l u (omega arith) (sym z)
  distinct_on (suc t) (suc u) p q = v.distinct t u (omega arith) (omega arith)

  pub trace_on : Trace parting base i j stop rows l r (suc m) w
  unfolding far
  trace_on =
      record {
        real_l = each (λ t. far base i t l ≢ 0) nl v.real_l;
        real_r = each (λ t. far base j t r ≢ 0) h.real v.real_r;
        end_l = v.end_l;
        end_r = v.end_r;
        ended = v.ended;
        few = let a = v.few in let b = changed_fewer parting rows l r rows' s h hl hr nl in omega arith;
        was_l =
            each (λ t. beta rows 3 (far base i t l) ≡ cond parting (far base j t r) 0) h.was_l
            (λ t q. sym (same _ (left_l t q) (left_r t q)) ∙ v.was_l t q);
        was_r =
            each (λ t. beta rows 3 (far base j t r) ≡ cond parting (far base i t l) 0) h.was_r
            (λ t q. sym (same _ (right_l t q) (right_r t q)) ∙ v.was_r t q);
        now_l =
            each (λ t. beta w.rows 3 (far base i t l) ≡ cond parting 0 (far base j t r))
            (v.other l (λ t q. ((λ z. left_l t q (sym z)), (λ z. right_l t q (sym z)))) ∙ at_l) v.now_l;
        now_r =
            each (λ t. beta w.rows 3 (far base j t r) ≡ cond parting 0 (far base i t l))
            (v.other r (λ t q. ((λ z. left_r t q (sym z)), (λ z. right_r t q (sym z)))) ∙ at_r) v.now_r;
        distinct = distinct_on;
        apart = apart_on;
        other = λ d q. v.other d (λ t p. q (suc t) (omega arith)) ∙ same d (q 0 (omega arith)).0 (q 0 (omega arith)).1;
      }

-- a whole leg
module _ (parting : Bool) (base : List ℕ) (ld rd i j stop : ℕ) (hi : i < 3) (hj : j < 3) where
  abbrev Traced : ℕ → Type 0
  Traced f =
      (rows : List ℕ) (l r k : ℕ) (w : LegOut) → WellFormed rows → l < darts rows → r < darts rows → ((b d : ℕ) → b < 3 → beta rows b d ≡ beta base b d) →
      walk (step_of parting ld rd) f rows i j stop l r k ≡ w → is_ok w.leg.answer ≡ true → changeable parting rows < f →
      (m : ℕ) × Trace parting base i j stop rows l r m w

  none : (rows : List ℕ) (l r k : ℕ) → (l ≡ 0) ⊎ (l ≡ stop) → Trace parting base i j stop rows l r 0 (leg_out (leg_at nothing l r k) rows)
  unfolding far
  none rows l r k z =
      record {
        real_l = λ t q. absurd (omega arith);
        real_r = λ t q. absurd (omega arith);
        end_l = refl;
        end_r = refl;
        ended = z;
        few = omega arith;
        was_l = λ t q. absurd (omega arith);
        was_r = λ t q. absurd (omega arith);
        now_l = λ t q. absurd (omega arith);
        now_r = λ t q. absurd (omega arith);
        distinct = λ t u q k. absurd (omega arith);
        apart = λ t u q. absurd (omega arith);
        other = λ d q. refl;
      }

  more : (f : ℕ) → Traced f → (rows : List ℕ) (l r k : ℕ) (w : LegOut) → WellFormed rows → l < darts rows → r < darts rows →
      ((b d : ℕ) → b < 3 → beta rows b d ≡ beta base b d) →
      l ≢ 0 → (rows' : List ℕ) → Changed parting rows l r rows' → walk (step_of parting ld rd) f rows' i j stop (beta rows' i l) (beta rows' j r) (suc k) ≡ w →
      is_ok w.leg.answer ≡ true → changeable parting rows < suc f → (m : ℕ) × Trace parting base i j stop rows l r m w
  more f ih rows l r k w s hl hr same nl rows' h e t z =
      let same' : (b d : ℕ) → b < 3 → beta rows' b d ≡ beta base b d = λ b d hb. changed_low parting rows l r rows' s h hl hr nl b d hb ∙ same b d hb in
      let s' = changed_formed parting rows l r rows' s h hl hr nl in
      let fell = changed_fewer parting rows l r rows' s h hl hr nl in
      let e' : walk (step_of parting ld rd) f rows' i j stop (beta base i l) (beta base j r) (suc k) ≡ w = rw (same' i l hi, same' j r hj) at e in
      let v =
      ih rows' (beta base i l) (beta base j r) (suc k) w s' (rw (← same' i l hi) (s'.below i l)) (rw (← same' j r hj) (s'.below j r)) same' e' t
      (omega arith) in
      (suc v.0, trace_on parting base i j stop rows l r rows' w s hl hr nl h v.0 v.1)

  traced_on : (f : ℕ) → Traced f → Traced (suc f)
  traced_on f ih rows l r k w s hl hr same e t z =
      go (turn_of_lem parting ld rd i j stop f rows l r k (λ nl d. step_done rows _ _ ld rd l r parting s nl refl d)
      (done_of parting ld rd i j stop (suc f) rows l r k w e t))
    where
      go : Turn parting ld rd i j stop f rows l r k → (m : ℕ) × Trace parting base i j stop rows l r m w
      go (ends y q) = (0, rw (sym e ∙ q (step_of parting ld rd) rows) (none rows l r k y))
      go (goes nl ns rows' h q) = more f ih rows l r k w s hl hr same nl rows' h (sym q ∙ e) t z

  pub traced : (f : ℕ) → Traced f
  traced zero = λ rows l r k w s hl hr same e t z. absurd (omega arith)
  traced (suc f) = traced_on f (traced f)
