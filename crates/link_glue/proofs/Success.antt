-- The two ways in which a 3-link or a 3-unlink is done.
--   done_through, done_if   an answer that is done came by the way that is no refusal
--   Success                 the face was closed and one leg did it, or it was open and two legs did it
--   link_success, unlink_success   that a 3-link, a 3-unlink which is done went one of the two ways
-- Assumes nothing.
use Prim.Native.Nat.{ℕ}
use native.Mathlib.Decide.{ℕ_discrete}
use mathlib.Core.Path.{◌≡◌, refl, sym, ap, ◌∙◌}
use mathlib.Core.Logic.{◌≢◌, by_cases}
use mathlib.Core.List.{List}
use mathlib.Core.Bool.{Bool, true, false, cond, true≢false}
use lib.Dec.{eqb}
use borrow.Author.Tests.{eq-eqb, ne_eqb}
use Rattle.map_betas.specs.declared.error.Refusal.TheVariants.{AsymmetricalFaces}
use Rattle.map_betas.specs.Betas.{beta}
use Rattle.map_betas.specs.Answers.{Out, out, Answer, done}
use Rattle.map_betas.specs.Maps.{WellFormed}
use Rattle.link_walk.specs.Walk.{step_of, LegOut}
use Rattle.link_walk.specs.Three.{leg_on, leg_back, last_leg, after_leg, after_core, three_link_on, three_unlink_on}
use Rattle.link_walk.proofs.StepLaws.{Changed, step_done}
use Rattle.link_walk.proofs.ThreeLaws.{on_link, on_unlink}
use Rattle.std.specs.Prelude.{Err, is_ok}

done_through : (a : Answer) (x : Out) (xs : List ℕ) → is_ok (cond (is_ok a) x (out a xs)).answer ≡ true →
    (is_ok a ≡ true) × (cond (is_ok a) x (out a xs) ≡ x)
done_through a x xs = go (is_ok a) refl
  where
    go : (b : Bool) → is_ok a ≡ b → is_ok (cond b x (out a xs)).answer ≡ true → (b ≡ true) × (cond b x (out a xs) ≡ x)
    go true e t = (refl, refl)
    go false e t = absurd (true≢false (sym t ∙ e))

done_if : (b : Bool) (x y : Out) → is_ok y.answer ≡ false → is_ok (cond b x y).answer ≡ true → (b ≡ true) × (cond b x y ≡ x)
done_if true x y f t = (refl, refl)
done_if false x y f t = absurd (true≢false (sym t ∙ f))

pub data Success (parting : Bool) (d : ℕ) (entry : List ℕ) (ld rd : ℕ) (o : Out) : Type 0 where
  closed : (rows₁ : List ℕ) → Changed parting entry ld rd rows₁ → (w : LegOut) → leg_on parting rows₁ ld rd ≡ w → is_ok w.leg.answer ≡ true →
      w.leg.pair.l ≢ 0 → o ≡ out (done d 0) w.rows → Success parting d entry ld rd o
  opened : (rows₁ : List ℕ) → Changed parting entry ld rd rows₁ → (w : LegOut) → leg_on parting rows₁ ld rd ≡ w → is_ok w.leg.answer ≡ true →
      w.leg.pair.l ≡ 0 → w.leg.pair.r ≡ 0 →
      (u : LegOut) → leg_back parting w.rows ld rd ≡ u → is_ok u.leg.answer ≡ true → o ≡ out (done d 0) u.rows → Success parting d entry ld rd o

module _ (parting : Bool) (d : ℕ) (entry : List ℕ) (ld rd : ℕ) where
  after_leg_lem : (rows₁ : List ℕ) → Changed parting entry ld rd rows₁ → (w : LegOut) → leg_on parting rows₁ ld rd ≡ w →
      is_ok (after_leg parting d entry ld rd w).answer ≡ true → Success parting d entry ld rd (after_leg parting d entry ld rd w)
  after_leg_lem rows₁ h w e t =
      let p = done_through w.leg.answer _ entry t in
      let last : Out = last_leg d entry (leg_back parting w.rows ld rd) in
      let uneven : Out = out (Err (AsymmetricalFaces ld rd)) entry in
      let way : Bool → Out = λ (x : Bool). cond x (cond (eqb w.leg.pair.r 0) last uneven) (out (done d 0) w.rows) in
      by_cases (ℕ_discrete w.leg.pair.l 0)
      (λ (z : w.leg.pair.l ≡ 0).
      let b : eqb w.leg.pair.l 0 ≡ true = eq-eqb _ _ z in
      let q = p.1 ∙ ap way b in
      let t₂ = done_if (eqb w.leg.pair.r 0) last uneven refl (ap (λ (o : Out). is_ok o.answer) (sym q) ∙ t) in
      by_cases (ℕ_discrete w.leg.pair.r 0)
      (λ (y : w.leg.pair.r ≡ 0).
      let t₃ = done_through (leg_back parting w.rows ld rd).leg.answer (out (done d 0) (leg_back parting w.rows ld rd).rows) entry
      (ap (λ (o : Out). is_ok o.answer) (sym (q ∙ t₂.1)) ∙ t) in
      opened rows₁ h w e p.0 z y (leg_back parting w.rows ld rd) refl t₃.0 (q ∙ t₂.1 ∙ t₃.1))
      (λ (y : w.leg.pair.r ≢ 0). absurd (true≢false (sym t₂.0 ∙ ne_eqb _ _ y))))
      (λ (z : w.leg.pair.l ≢ 0).
      let b : eqb w.leg.pair.l 0 ≡ false = ne_eqb _ _ z in
      closed rows₁ h w e p.0 z (p.1 ∙ ap way b))

  success : WellFormed entry → ld ≢ 0 → is_ok (after_core parting d entry ld rd (step_of parting ld rd entry ld rd)).answer ≡ true →
      Success parting d entry ld rd (after_core parting d entry ld rd (step_of parting ld rd entry ld rd))
  success s nl = go (step_of parting ld rd entry ld rd) refl
    where
      go : (o : Out) → o ≡ step_of parting ld rd entry ld rd → is_ok (after_core parting d entry ld rd o).answer ≡ true →
          Success parting d entry ld rd (after_core parting d entry ld rd o)
      go o e t =
          let p = done_through o.answer (after_leg parting d entry ld rd (leg_on parting o.rows ld rd)) entry t in
          let h = step_done entry o.answer o.rows ld rd ld rd parting s nl e p.0 in
          rw p.1 (after_leg_lem o.rows h (leg_on parting o.rows ld rd) refl (ap (λ (x : Out). is_ok x.answer) (sym p.1) ∙ t))

pub link_success : (entry : List ℕ) (ld rd : ℕ) → WellFormed entry → ld ≢ 0 → rd ≢ 0 → is_ok (three_link_on entry ld rd).answer ≡ true →
    Success false 0 entry ld rd (three_link_on entry ld rd)
link_success entry ld rd s nl nr t =
    let e = on_link entry ld rd nr in
    rw (sym e) (success false 0 entry ld rd s nl (ap (λ (o : Out). is_ok o.answer) e ∙ t))

pub unlink_success : (entry : List ℕ) (ld rd : ℕ) → WellFormed entry → ld ≢ 0 → rd ≡ beta entry 3 ld → rd ≢ 0 →
    is_ok (three_unlink_on entry ld).answer ≡ true →
    Success true rd entry ld rd (three_unlink_on entry ld)
unlink_success entry ld rd s nl b nr t =
    let e = on_unlink entry ld rd s b nr in
    rw (sym e) (success true rd entry ld rd s nl (ap (λ (o : Out). is_ok o.answer) e ∙ t))
