-- Partners that face the darts of ld's face chain are all that a 3-link or a 3-unlink asks: it is done.
--   Partners          partners: rd of ld, facing the chain, real, outside it, no two the same
--   along          the partners of the darts from ld on
--   down_pair      the partner of the dart before
--   fresh₁, fresh₂       the pairs ahead of each leg are real, different and still to change
--   asked          the walk is done
--   link_asked     a matching makes a 3-link done
--   unlink_asked   a chain whose darts face their beta 3 images makes a 3-unlink done
-- Assumes nothing.
use Prim.Native.Nat.{ℕ, zero, suc, ◌+◌, ◌-◌, ◌<◌, ◌≤◌}
use native.Mathlib.Omega.{arith}
use native.Mathlib.Decide.{ℕ_discrete}
use mathlib.Core.Path.{◌≡◌, refl, sym, ap, subst, ◌∙◌}
use mathlib.Core.Logic.{◌≢◌, by_cases}
use mathlib.Core.List.{List}
use mathlib.Core.Bool.{Bool, true, false, cond}
use lib.ListN.{length}
use borrow.Author.Tests.{eq-eqb, ne_eqb}
use Rattle.map_betas.specs.Betas.{beta, darts}
use Rattle.map_betas.specs.Answers.{Out}
use Rattle.map_betas.specs.Maps.{WellFormed}
use Rattle.map_betas.proofs.Stores.{paired}
use Rattle.map_betas.specs.Chains.{far}
use Rattle.map_betas.proofs.Chains.{Run, far_zero, far_suc, far_last, far_plus, far_real, far_undo, far_again, round_real, chain_far}
use Rattle.link_walk.specs.Walk.{step_of, LegOut}
use Rattle.link_walk.specs.Three.{leg_on, leg_back, after_leg, after_core, three_link_on, three_unlink_on}
use Rattle.link_glue.specs.Matching.{Chain, first, back, ClosedChain, Facing, Matching, Unlinkable}
use Rattle.link_walk.proofs.StepLaws.{Changed, changeable_le, changed_formed, changed_low, changed_length, changed_far}
use Rattle.link_walk.proofs.ThreeLaws.{on_link, on_unlink}
use Rattle.link_glue.proofs.Turns.{said_done, step_again}
use Rattle.link_glue.proofs.Trace.{Trace}
use Rattle.link_glue.proofs.Found.{leaves₁, trace₁}
use Rattle.link_glue.proofs.Fresh.{Fresh, finishes}
use Rattle.std.specs.Prelude.{is_ok}

pub record Partners (rows : List ℕ) (ld rd : ℕ) (p : ℕ → ℕ) : Type 0 where
  pub starts : p ld ≡ rd
  pub facing : Facing rows ld p
  pub real : (d : ℕ) → Chain rows ld d → p d ≢ 0
  pub outside : (d : ℕ) → Chain rows ld d → Chain rows ld (p d) → ⊥
  pub different : (d e : ℕ) → Chain rows ld d → Chain rows ld e → p d ≡ p e → d ≡ e

-- `was` is how the pairs are before: free for a link, linked for an unlink
module _ (parting : Bool) (rows : List ℕ) (ld rd : ℕ) (p : ℕ → ℕ) (s : WellFormed rows) (nl : ld ≢ 0) (hl : ld < darts rows) (hr : rd < darts rows)
    (q : Partners rows ld rd p)
    (was : (d : ℕ) → Chain rows ld d → (beta rows 3 d ≡ cond parting (p d) 0) × (beta rows 3 (p d) ≡ cond parting d 0)) where
  pub nr : rd ≢ 0
  nr e = q.real ld first (q.starts ∙ e)

  -- as long as the chain goes on, and is not round, partners go back
  pub along : (t : ℕ) → ((u : ℕ) → u < t → (far rows 1 (suc u) ld ≢ 0) × (ClosedChain rows ld → far rows 1 (suc u) ld ≢ ld)) →
      p (far rows 1 t ld) ≡ far rows 0 t rd
  along zero g = rw (far_zero rows 1 ld, far_zero rows 0 rd) q.starts
  along (suc t) g =
      let h = g t (omega arith) in
      let n : far rows 1 t ld ≢ 0 = far_real rows s 1 (omega arith) t (suc t) ld (omega arith) h.0 in
      let st =
      q.facing.steps (far rows 1 t ld) (chain_far rows s ld 1 (omega arith) t n) (λ z. h.0 (far_last rows 1 t ld ∙ z))
      (λ k z. h.1 k (far_last rows 1 t ld ∙ z)) in
      rw (far_last rows 1 t ld, far_last rows 0 t rd) (sym st ∙ ap (λ (y : ℕ). beta rows 0 y) (along t (λ u k. g u (omega arith))))

  down_pair : (d x : ℕ) → Chain rows ld d → p d ≡ x → beta rows 0 d ≢ 0 → (ClosedChain rows ld → ⊥) →
      Chain rows ld (beta rows 0 d) × (p (beta rows 0 d) ≡ beta rows 1 x)
  down_pair d x c e n o =
      let b : beta rows 1 (beta rows 0 d) ≡ d = s.back 0 d (omega arith) n in
      let c' : Chain rows ld (beta rows 0 d) = back c n in
      let nd : beta rows 1 (beta rows 0 d) ≢ 0 = λ z. n (ap (λ (y : ℕ). beta rows 0 y) (sym b ∙ z) ∙ s.null 0 (omega arith)) in
      let st : beta rows 0 (p (beta rows 0 d)) ≡ x = q.facing.steps (beta rows 0 d) c' nd (λ k. absurd (o k)) ∙ ap p b ∙ e in
      let nx : beta rows 0 (p (beta rows 0 d)) ≢ 0 = λ z. q.real d c (e ∙ sym st ∙ z) in
      (c', sym (s.back 0 (p (beta rows 0 d)) (omega arith) nx) ∙ ap (λ (y : ℕ). beta rows 1 y) st)

  -- the first leg

  abbrev l₁ : ℕ
  l₁ = beta rows 1 ld

  abbrev r₁ : ℕ
  r₁ = beta rows 0 rd

  abbrev Run₁ : ℕ → Type 0
  Run₁ n = Run rows 1 ld l₁ n

  fewer₁ : (u v : ℕ) → u ≤ v → Run₁ v → Run₁ u
  fewer₁ u v h g w k = g w (omega arith)

  real₁ : (u : ℕ) → Run₁ (suc u) → far rows 1 (suc u) ld ≢ 0
  real₁ u g z = (g u (omega arith)).0 (sym (far_suc rows 1 u ld) ∙ z)

  chain₁ : (u : ℕ) → Run₁ (suc u) → Chain rows ld (far rows 1 u l₁) × (p (far rows 1 u l₁) ≡ far rows 0 u r₁)
  chain₁ u g = (
    rw (far_suc rows 1 u ld) at (chain_far rows s ld 1 (omega arith) (suc u) (real₁ u g)),
    rw (far_suc rows 1 u ld, far_suc rows 0 u rd) at
        (along (suc u) (λ w k. (real₁ w (fewer₁ (suc w) (suc u) (omega arith) g), λ c z. (g w k).1 (sym (far_suc rows 1 w ld) ∙ z)))),
  )

  diff₁ : (u v : ℕ) → u < v → Run₁ (suc v) → far rows 1 u l₁ ≢ far rows 1 v l₁
  diff₁ u v h g e =
      let k : suc v - suc u ≡ suc (v - suc u) = omega arith in
      let r = far_again rows s 1 (omega arith) (suc u) (suc v) ld (omega arith) (real₁ v g) (far_suc rows 1 u ld ∙ e ∙ sym (far_suc rows 1 v ld)) in
      (g (v - suc u) (omega arith)).1 (sym (far_suc rows 1 (v - suc u) ld) ∙ ap (λ (t : ℕ). far rows 1 t ld) (sym k) ∙ r)

  abbrev rows₁ : List ℕ
  rows₁ = paired parting rows 3 ld rd

  pair₁ : Changed parting rows ld rd rows₁
  pair₁ =
      record {
        was_l = (was ld first).0 ∙ ap (λ (y : ℕ). cond parting y 0) q.starts;
        was_r = ap (λ (y : ℕ). beta rows 3 y) (sym q.starts) ∙ (was ld first).1;
        apart = λ h e. q.outside ld first (subst (λ (y : ℕ). Chain rows ld y) (e ∙ sym q.starts) first);
        real = nr;
        put = refl;
      }

  still₁ : (d : ℕ) → d ≢ ld → d ≢ rd → beta rows₁ 3 d ≡ beta rows 3 d
  still₁ d a b = changed_far parting rows ld rd rows₁ s pair₁ hl hr nl d a b

  fresh₁ : Fresh parting rows 1 0 ld rows₁ l₁ r₁
  fresh₁ =
      record {
        real_r = λ u g z. let c = chain₁ u g in q.real _ c.0 (c.1 ∙ z);
        diff_l = diff₁;
        diff_r =
            λ u v h g e.
            let a = chain₁ u (fewer₁ (suc u) (suc v) (omega arith) g) in
            let b = chain₁ v g in
            diff₁ u v h g (q.different _ _ a.0 b.0 (a.1 ∙ e ∙ sym b.1));
        apart =
            λ u v g k e.
            let a = chain₁ u g in
            let b = chain₁ v k in
            q.outside _ b.0 (subst (λ (y : ℕ). Chain rows ld y) (e ∙ sym b.1) a.0);
        was_l =
            λ u g.
            let a = chain₁ u g in
            still₁ _ (g u (omega arith)).1 (λ e. q.outside ld first (subst (λ (y : ℕ). Chain rows ld y) (e ∙ sym q.starts) a.0)) ∙ (was _ a.0).0
            ∙ ap (λ (y : ℕ). cond parting y 0) a.1;
        was_r =
            λ u g.
            let a = chain₁ u g in
            still₁ _ (λ e. q.outside _ a.0 (subst (λ (y : ℕ). Chain rows ld y) (sym (a.1 ∙ e)) first))
            (λ e. (g u (omega arith)).1 (q.different _ ld a.0 first (a.1 ∙ e ∙ sym q.starts)))
            ∙ ap (λ (y : ℕ). beta rows 3 y) (sym a.1)
            ∙ (was _ a.0).1;
      }

  s₁ : WellFormed rows₁
  s₁ = changed_formed parting rows ld rd rows₁ s pair₁ hl hr nl

  low₁ : (b d : ℕ) → b < 3 → beta rows₁ b d ≡ beta rows b d
  low₁ = changed_low parting rows ld rd rows₁ s pair₁ hl hr nl

  leg₁ : is_ok (leg_on parting rows₁ ld rd).leg.answer ≡ true
  leg₁ =
      let k = changed_length parting rows ld rd rows₁ s pair₁ hl hr nl in
      let z = changeable_le parting rows₁ in
      let a = s.below 1 ld in
      let b = s.below 0 rd in
      rw (low₁ 1 ld (omega arith), low₁ 0 rd (omega arith))
      (finishes parting rows 1 0 ld ld rd (omega arith) (omega arith) (suc (length rows₁)) rows₁ l₁ r₁ 0 s₁ (omega arith) (omega arith) low₁ (omega arith)
      fresh₁)

  -- the second leg, where the first came to an end
  module _ (w : LegOut) (m : ℕ) (v : Trace parting rows 1 0 ld rows ld rd (suc m) w) (zl : w.leg.pair.l ≡ 0) where
    end_front : far rows 1 (suc m) ld ≡ 0
    end_front = sym v.end_l ∙ zl

    in_chain : (t : ℕ) → t < suc m → Chain rows ld (far rows 1 t ld)
    in_chain t h = chain_far rows s ld 1 (omega arith) t (v.real_l t h)

    not_closed : ClosedChain rows ld → ⊥
    not_closed k = k.never_null _ (in_chain m (omega arith)) (sym (far_last rows 1 m ld) ∙ end_front)

    pub partner : (t : ℕ) → t < suc m → p (far rows 1 t ld) ≡ far rows 0 t rd
    partner t h = along t (λ u k. (v.real_l (suc u) (omega arith), λ c. absurd (not_closed c)))

    null_for_null : w.leg.pair.r ≡ 0
    null_for_null =
        v.end_r
        ∙ far_last rows 0 m rd
        ∙ ap (λ (y : ℕ). beta rows 0 y) (sym (partner m (omega arith)))
        ∙ q.facing.ends _ (in_chain m (omega arith)) (sym (far_last rows 1 m ld) ∙ end_front)

    -- the chain does not come back to ld
    no_return : (t : ℕ) → far rows 1 (suc t) ld ≢ ld
    no_return t e = round_real rows s 1 (omega arith) t ld nl e (suc m) end_front

    abbrev pub l₂ : ℕ
    l₂ = beta rows 0 ld

    abbrev pub r₂ : ℕ
    r₂ = beta rows 1 rd

    abbrev pub Run₂ : ℕ → Type 0
    Run₂ n = Run rows 0 0 l₂ n

    fewer₂ : (u x : ℕ) → u ≤ x → Run₂ x → Run₂ u
    fewer₂ u x h g y k = g y (omega arith)

    pub chain₂ : (u : ℕ) → Run₂ (suc u) → Chain rows ld (far rows 0 u l₂) × (p (far rows 0 u l₂) ≡ far rows 1 u r₂)
    chain₂ zero g =
        let a = g 0 (omega arith) in
        rw (far_zero rows 0 l₂, far_zero rows 1 r₂) (down_pair ld rd first q.starts (λ z. a.0 (far_zero rows 0 l₂ ∙ z)) not_closed)
    chain₂ (suc u) g =
        let c = chain₂ u (fewer₂ (suc u) (suc (suc u)) (omega arith) g) in
        let a = g (suc u) (omega arith) in
        rw (far_last rows 0 u l₂, far_last rows 1 u r₂)
        (down_pair (far rows 0 u l₂) (far rows 1 u r₂) c.0 c.1 (λ z. a.0 (far_last rows 0 u l₂ ∙ z)) not_closed)

    -- a dart behind ld is none from ld on
    real₂ : (u : ℕ) → Run₂ (suc u) → far rows 0 (suc u) ld ≢ 0
    real₂ u g z = (g u (omega arith)).0 (sym (far_suc rows 0 u ld) ∙ z)

    behind : (u t : ℕ) → Run₂ (suc u) → t < suc m → far rows 0 u l₂ ≢ far rows 1 t ld
    behind u t g h e =
        let k : t + suc u ≡ suc (t + u) = omega arith in
        no_return (t + u)
        (ap (λ (x : ℕ). far rows 1 x ld) (sym k)
        ∙ far_plus rows 1 t (suc u) ld
        ∙ ap (far rows 1 (suc u)) (sym e ∙ sym (far_suc rows 0 u ld))
        ∙ far_undo rows s 0 (omega arith) (suc u) ld (real₂ u g))

    diff₂ : (u x : ℕ) → u < x → Run₂ (suc x) → far rows 0 u l₂ ≢ far rows 0 x l₂
    diff₂ u x h g e =
        let k : suc x - suc u ≡ suc (x - suc u) = omega arith in
        let r : far rows 0 (suc x - suc u) ld ≡ ld =
        far_again rows s 0 (omega arith) (suc u) (suc x) ld (omega arith) (real₂ x g) (far_suc rows 0 u ld ∙ e ∙ sym (far_suc rows 0 x ld)) in
        no_return (x - suc u)
        (ap (λ (t : ℕ). far rows 1 t ld) (sym k)
        ∙ ap (far rows 1 (suc x - suc u)) (sym r)
        ∙ far_undo rows s 0 (omega arith) (suc x - suc u) ld (λ z. nl (sym r ∙ z)))

    fresh₂ : Fresh parting rows 0 1 0 w.rows l₂ r₂
    fresh₂ =
        record {
          real_r = λ u g z. let c = chain₂ u g in q.real _ c.0 (c.1 ∙ z);
          diff_l = diff₂;
          diff_r =
              λ u x h g e.
              let a = chain₂ u (fewer₂ (suc u) (suc x) (omega arith) g) in
              let b = chain₂ x g in
              diff₂ u x h g (q.different _ _ a.0 b.0 (a.1 ∙ e ∙ sym b.1));
          apart =
              λ u x g k e.
              let a = chain₂ u g in
              let b = chain₂ x k in
              q.outside _ b.0 (subst (λ (y : ℕ). Chain rows ld y) (e ∙ sym b.1) a.0);
          was_l =
              λ u g.
              let a = chain₂ u g in
              v.other _ (λ t h. (behind u t g h, λ e. q.outside _ (in_chain t h) (subst (λ (y : ℕ). Chain rows ld y) (e ∙ sym (partner t h)) a.0)))
              ∙ (was _ a.0).0 ∙ ap (λ (y : ℕ). cond parting y 0) a.1;
          was_r =
              λ u g.
              let a = chain₂ u g in
              v.other _
              (λ t h. (
                λ e. q.outside _ a.0 (subst (λ (y : ℕ). Chain rows ld y) (sym (a.1 ∙ e)) (in_chain t h)),
                λ e. behind u t g h (q.different _ _ a.0 (in_chain t h) (a.1 ∙ e ∙ sym (partner t h))),
              ))
              ∙ ap (λ (y : ℕ). beta rows 3 y) (sym a.1)
              ∙ (was _ a.0).1;
        }

  -- the whole
  second : (w : LegOut) → leg_on parting rows₁ ld rd ≡ w → w.leg.pair.l ≡ 0 → (w.leg.pair.r ≡ 0) × (is_ok (leg_back parting w.rows ld rd).leg.answer ≡ true)
  second w e zl =
      let t : is_ok w.leg.answer ≡ true = ap (λ (x : LegOut). is_ok x.leg.answer) (sym e) ∙ leg₁ in
      let v = trace₁ parting rows ld rd s hl nl hr rows₁ pair₁ w e t in
      let g = leaves₁ parting rows ld rd s hl nl hr rows₁ pair₁ w e in
      let low = g.low in
      let long = g.long in
      let z = changeable_le parting w.rows in
      let a = s.below 0 ld in
      let b = s.below 1 rd in (
        null_for_null w v.0 v.1 zl,
        rw (low 0 ld (omega arith), low 1 rd (omega arith))
            (finishes parting rows 0 1 0 ld rd (omega arith) (omega arith) (suc (length w.rows)) w.rows (beta rows 0 ld) (beta rows 1 rd) 0
            g.formed (omega arith) (omega arith) low (omega arith) (fresh₂ w v.0 v.1 zl)),
      )

  finish : (x : ℕ) (w : LegOut) → leg_on parting rows₁ ld rd ≡ w → is_ok (after_leg parting x rows ld rd w).answer ≡ true
  finish x w e =
      let t : is_ok w.leg.answer ≡ true = ap (λ (y : LegOut). is_ok y.leg.answer) (sym e) ∙ leg₁ in
      by_cases (ℕ_discrete w.leg.pair.l 0)
      (λ (z : w.leg.pair.l ≡ 0).
      let y = second w e z in
      simp (t, eq-eqb w.leg.pair.l 0 z, eq-eqb w.leg.pair.r 0 y.0, y.1))
      (λ (z : w.leg.pair.l ≢ 0). simp (t, ne_eqb w.leg.pair.l 0 z))

  -- x is the dart to answer
  pub asked : (x : ℕ) → is_ok (after_core parting x rows ld rd (step_of parting ld rd rows ld rd)).answer ≡ true
  asked x =
      ap (λ (o : Out). is_ok (after_core parting x rows ld rd o).answer) (sym (step_again parting ld rd rows ld rd rows₁ pair₁))
      ∙ simp (said_done parting rd) (finish x (leg_on parting rows₁ ld rd) refl)

-- a matching, and a chain whose darts face their images, are such partners

pub link_partners : (rows : List ℕ) (ld rd : ℕ) (p : ℕ → ℕ) → Matching rows ld rd p → Partners rows ld rd p
link_partners rows ld rd p q =
    record { starts = q.starts; facing = q.facing; real = λ d c. (q.real d c).0; outside = q.outside; different = q.different }

unlink_partners : (rows : List ℕ) (ld rd : ℕ) → WellFormed rows → rd ≡ beta rows 3 ld → Unlinkable rows ld → Partners rows ld rd (λ d. beta rows 3 d)
unlink_partners rows ld rd s e q =
    record {
      starts = sym e;
      facing = q.facing;
      real = q.real;
      outside = q.outside;
      different =
          λ d x c g z. sym (s.back 3 d (omega arith) (q.real d c)) ∙ ap (λ (y : ℕ). beta rows 3 y) z ∙ s.back 3 x (omega arith) (q.real x g);
    }

module _ (rows : List ℕ) (ld rd : ℕ) (s : WellFormed rows) (nl : ld ≢ 0) (hl : ld < darts rows) where
  pub link_asked : (p : ℕ → ℕ) → rd < darts rows → Matching rows ld rd p → is_ok (three_link_on rows ld rd).answer ≡ true
  link_asked p hr q =
      let f = link_partners rows ld rd p q in
      ap (λ (o : Out). is_ok o.answer) (sym (on_link rows ld rd (nr false rows ld rd p s nl hl hr f q.free)))
      ∙ asked false rows ld rd p s nl hl hr f q.free 0

  pub unlink_asked : rd ≡ beta rows 3 ld → rd ≢ 0 → Unlinkable rows ld → is_ok (three_unlink_on rows ld).answer ≡ true
  unlink_asked e nr' q =
      let hr : rd < darts rows = rw e (s.below 3 ld) in
      ap (λ (o : Out). is_ok o.answer) (sym (on_unlink rows ld rd s e nr'))
      ∙ asked true rows ld rd (λ d. beta rows 3 d) s nl hl hr (unlink_partners rows ld rd s e q)
      (λ d c. (refl, s.back 3 d (omega arith) (q.real d c))) rd
