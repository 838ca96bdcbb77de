-- What a 3-link and a 3-unlink that are done did, from the traces of their legs.
--   Leaves        what they leave: a map of as many darts, with every image by beta 0, 1 and 2
--   trace₁, trace₂   the traces of the two legs, ld and rd in the first
--   found         a fact of the last rows, from their cover
--   link_found    a 3-link that is done gave each dart of ld's face chain a partner, and linked exactly these pairs
--   unlink_found  a 3-unlink that is done found each dart of the chain facing its image, and unlinked exactly these pairs
-- Assumes nothing.
use Prim.Native.Nat.{ℕ, suc, ◌<◌}
use native.Mathlib.Omega.{arith}
use mathlib.Core.Path.{◌≡◌, sym, ◌∙◌}
use mathlib.Core.Logic.{◌≢◌, ⊎_elim}
use mathlib.Core.List.{List}
use mathlib.Core.Bool.{Bool, true, false, cond}
use lib.ListN.{length}
use Rattle.map_betas.specs.Betas.{beta, darts}
use Rattle.map_betas.specs.Answers.{Out}
use Rattle.map_betas.specs.Maps.{WellFormed}
use Rattle.link_walk.specs.Walk.{step_of, LegOut, walk}
use Rattle.link_walk.specs.Three.{leg_on, leg_back, three_link_on, three_unlink_on}
use Rattle.link_glue.specs.Matching.{Matching, Linked, Unlinkable, Unlinked}
use Rattle.link_walk.proofs.StepLaws.{Changed, changeable_le, changed_formed, changed_low, changed_length}
use Rattle.link_walk.proofs.UndoLaws.{Walked, walked}
use Rattle.link_glue.proofs.Trace.{Trace, trace_on, traced}
use Rattle.link_glue.proofs.Success.{Success, closed, opened, link_success, unlink_success}
use Rattle.link_glue.proofs.Covers.{Cover, cover_closed, matching, linked, unlinkable, unlinked}
use Rattle.link_glue.proofs.OpenCover.{cover_open}
use Rattle.std.specs.Prelude.{is_ok}

pub record Leaves (rows rows' : List ℕ) : Type 0 where
  pub formed : WellFormed rows'
  pub long : length rows' ≡ length rows
  pub low : (b d : ℕ) → b < 3 → beta rows' b d ≡ beta rows b d

module _ (parting : Bool) (entry : List ℕ) (ld rd : ℕ) (s : WellFormed entry) (hl : ld < darts entry) (nl : ld ≢ 0) (hr : rd < darts entry) where
  -- the first leg, with ld and rd before it
  module _ (rows₁ : List ℕ) (h : Changed parting entry ld rd rows₁) (w : LegOut) (e : leg_on parting rows₁ ld rd ≡ w) where
    pub leaves₁ : Leaves entry w.rows
    leaves₁ =
        let s₁ = changed_formed parting entry ld rd rows₁ s h hl hr nl in
        let g : Walked parting rows₁ 1 0 (beta rows₁ 1 ld) (beta rows₁ 0 rd) 0 w =
        rw (sym e) (walked parting ld rd 1 0 ld (omega arith) (omega arith) (suc (length rows₁)) rows₁ (beta rows₁ 1 ld) (beta rows₁ 0 rd) 0 s₁ (s₁.below 1 ld)
        (s₁.below 0 rd)) in
        record {
          formed = g.formed;
          long = g.long ∙ changed_length parting entry ld rd rows₁ s h hl hr nl;
          low = λ b d hb. g.alike b d hb ∙ changed_low parting entry ld rd rows₁ s h hl hr nl b d hb;
        }

    pub trace₁ : is_ok w.leg.answer ≡ true → (m : ℕ) × Trace parting entry 1 0 ld entry ld rd (suc m) w
    trace₁ t =
        let low = changed_low parting entry ld rd rows₁ s h hl hr nl in
        let s₁ = changed_formed parting entry ld rd rows₁ s h hl hr nl in
        let q = changed_length parting entry ld rd rows₁ s h hl hr nl in
        let z = changeable_le parting rows₁ in
        let a = s.below 1 ld in
        let b = s.below 0 rd in
        let e' : walk (step_of parting ld rd) (suc (length rows₁)) rows₁ 1 0 ld (beta entry 1 ld) (beta entry 0 rd) 0 ≡ w =
        rw (low 1 ld (omega arith), low 0 rd (omega arith)) at e in
        let v = traced parting entry ld rd 1 0 ld (omega arith) (omega arith) (suc (length rows₁)) rows₁ (beta entry 1 ld) (beta entry 0 rd) 0 w
        s₁ (omega arith) (omega arith) low e' t (omega arith) in
        (v.0, trace_on parting entry 1 0 ld entry ld rd rows₁ w s hl hr nl h v.0 v.1)

    -- the second leg
    module _ (u : LegOut) (e₂ : leg_back parting w.rows ld rd ≡ u) where
      pub leaves₂ : Leaves entry u.rows
      leaves₂ =
          let a = leaves₁ in
          let f = a.formed in
          let g : Walked parting w.rows 0 1 (beta w.rows 0 ld) (beta w.rows 1 rd) 0 u =
          rw (sym e₂) (walked parting ld rd 0 1 0 (omega arith) (omega arith) (suc (length w.rows)) w.rows (beta w.rows 0 ld) (beta w.rows 1 rd) 0 f
          (f.below 0 ld) (f.below 1 rd)) in
          record { formed = g.formed; long = g.long ∙ a.long; low = λ b d hb. g.alike b d hb ∙ a.low b d hb }

      pub trace₂ : is_ok u.leg.answer ≡ true → (k : ℕ) × Trace parting entry 0 1 0 w.rows (beta entry 0 ld) (beta entry 1 rd) k u
      trace₂ t =
          let a = leaves₁ in
          let low = a.low in
          let q = a.long in
          let z = changeable_le parting w.rows in
          let b = s.below 0 ld in
          let c = s.below 1 rd in
          let e' : walk (step_of parting ld rd) (suc (length w.rows)) w.rows 0 1 0 (beta entry 0 ld) (beta entry 1 rd) 0 ≡ u =
          rw (low 0 ld (omega arith), low 1 rd (omega arith)) at e₂ in
          traced parting entry ld rd 0 1 0 (omega arith) (omega arith) (suc (length w.rows)) w.rows (beta entry 0 ld) (beta entry 1 rd) 0 u
          a.formed (omega arith) (omega arith) low e' t (omega arith)

  pub found : (d : ℕ) (P : List ℕ → Type 0) →
      ((last : List ℕ) → Cover entry ld rd (cond parting entry last) (cond parting last entry) → Leaves entry last → P last) →
      (o : Out) → Success parting d entry ld rd o → P o.rows
  found d P k o (closed rows₁ h w e t z q) =
      let v = trace₁ rows₁ h w e t in
      let y : w.leg.pair.l ≡ ld = ⊎_elim (λ a. absurd (z a)) (λ a. a) v.1.ended in
      rw q (k w.rows (cover_closed parting entry ld rd s nl v.0 w v.1 y) (leaves₁ rows₁ h w e))
  found d P k o (opened rows₁ h w e t zl zr u e₂ t₂ q) =
      let v = trace₁ rows₁ h w e t in
      let x = trace₂ rows₁ h w e u e₂ t₂ in
      rw q (k u.rows (cover_open parting entry ld rd s nl v.0 w v.1 zl zr x.0 u x.1) (leaves₂ rows₁ h w e u e₂))

module _ (rows : List ℕ) (ld rd : ℕ) (s : WellFormed rows) (hl : ld < darts rows) (nl : ld ≢ 0) where
  pub link_found : rd < darts rows → rd ≢ 0 → is_ok (three_link_on rows ld rd).answer ≡ true →
      Matching rows ld rd (λ d. beta (three_link_on rows ld rd).rows 3 d)
      × Linked rows ld (λ d. beta (three_link_on rows ld rd).rows 3 d) (three_link_on rows ld rd).rows
  link_found hr nr t =
      found false rows ld rd s hl nl hr 0 (λ last. Matching rows ld rd (λ d. beta last 3 d) × Linked rows ld (λ d. beta last 3 d) last)
      (λ last c a. (matching rows ld rd last c a.formed a.long, linked rows ld rd last c a.low a.long))
      (three_link_on rows ld rd) (link_success rows ld rd s nl nr t)

  pub unlink_found : rd ≡ beta rows 3 ld → rd ≢ 0 → is_ok (three_unlink_on rows ld).answer ≡ true →
      Unlinkable rows ld × Unlinked rows ld (three_unlink_on rows ld).rows
  unlink_found e nr t =
      let hr : rd < darts rows = rw e (s.below 3 ld) in
      found true rows ld rd s hl nl hr rd (λ last. Unlinkable rows ld × Unlinked rows ld last)
      (λ last c a. (unlinkable rows ld rd last c, unlinked rows ld rd last c a.low a.long))
      (three_unlink_on rows ld) (unlink_success rows ld rd s nl e nr t)
