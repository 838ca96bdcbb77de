-- A 3-link that is done leaves a map, and a 3-unlink of ld as the very next call answers rd and restores every row (`restored`), whether the face
-- was closed (`restore_closed`) or open (`restore_opened`). Assumes nothing.
use Prim.Native.Nat.{ℕ, suc, ◌<◌}
use native.Mathlib.Omega.{arith}
use mathlib.Core.Path.{◌≡◌, refl, sym, ap, ◌∙◌}
use mathlib.Core.Logic.{◌≢◌}
use mathlib.Core.List.{List}
use mathlib.Core.Bool.{Bool, true, false}
use lib.ListN.{length, set, length-set}
use borrow.Author.Tests.{eq-eqb, ne_eqb}
use Rattle.map_betas.specs.Betas.{place, beta, darts}
use Rattle.map_betas.specs.Answers.{Out, out, nothing, done}
use Rattle.map_betas.specs.Maps.{WellFormed}
use Rattle.link_walk.specs.Walk.{step_of, LegOut, leg_out, leg_at, walk}
use Rattle.link_walk.specs.Three.{leg_on, leg_back, last_leg, after_leg, after_core, three_link_on, three_unlink_on}
use Rattle.link_walk.proofs.StepLaws.{Changed, formed_inside, changed_formed, changed_length, changed_low}
use Rattle.link_walk.proofs.UndoLaws.{Walked, walked}
use Rattle.link_walk.proofs.ThreeLaws.{on_unlink}
use Rattle.link_glue.proofs.Mirror.{Pair, back_pair, back_all, unlink_again}
use Rattle.link_glue.proofs.Success.{Success, closed, opened, link_success}
use Rattle.std.specs.Prelude.{is_ok}

-- the unlink after a link

-- its first step: ld and rd are a pair, and the legs follow
unlink_starts : (rows : List ℕ) (ld rd : ℕ) → WellFormed rows → beta rows 3 ld ≡ rd → beta rows 3 rd ≡ ld → rd ≢ 0 →
    after_leg true rd rows ld rd (leg_on true (set (set rows (place 3 ld) 0) (place 3 rd) 0) ld rd) ≡ three_unlink_on rows ld
unlink_starts rows ld rd s el er n =
    ap (λ (o : Out). after_core true rd rows ld rd o) (unlink_again ld rd rows ld rd el er n) ∙ on_unlink rows ld rd s (sym el) n

module _ (entry : List ℕ) (ld rd : ℕ) (s : WellFormed entry) (hl : ld < darts entry) (nl : ld ≢ 0) (hr : rd < darts entry) (nr : rd ≢ 0) where
  -- a leg's length and start depend on nothing that a link changes
  same_leg : (parting : Bool) (i j stop : ℕ) (xs ys : List ℕ) → i < 3 → j < 3 → length xs ≡ length ys → ((b d : ℕ) → b < 3 → beta xs b d ≡ beta ys b d) →
      (zs : List ℕ) → walk (step_of parting ld rd) (suc (length xs)) zs i j stop (beta xs i ld) (beta xs j rd) 0
      ≡ walk (step_of parting ld rd) (suc (length ys))
      zs i j stop (beta ys i ld) (beta ys j rd) 0
  same_leg parting i j stop xs ys hi hj e same zs = rw (e, same i ld hi, same j rd hj)

  restore_closed : (rows₁ : List ℕ) → Changed false entry ld rd rows₁ → (w : LegOut) → leg_on false rows₁ ld rd ≡ w → is_ok w.leg.answer ≡ true →
      w.leg.pair.l ≢ 0 →
      WellFormed w.rows × (length w.rows ≡ length entry) × (three_unlink_on w.rows ld ≡ out (done rd 0) entry)
  unfolding walk
  restore_closed rows₁ h w e t z =
      let s₁ = changed_formed false entry ld rd rows₁ s h hl hr nl in
      let g : Walked false rows₁ 1 0 (beta rows₁ 1 ld) (beta rows₁ 0 rd) 0 w =
      rw (sym e) (walked false ld rd 1 0 ld (omega arith) (omega arith) (suc (length rows₁)) rows₁ (beta rows₁ 1 ld) (beta rows₁ 0 rd) 0 s₁ (s₁.below 1 ld)
      (s₁.below 0 rd)) in
      let p : Pair (darts entry) ld rd 1 0 ld 0 1 0 0 0 0 0 (omega arith) (omega arith) (omega arith) (omega arith) (suc (length rows₁)) entry ld rd 0 rows₁ w
      (leg_out (leg_at nothing 0 0 0) w.rows) =
      back_pair (darts entry) ld rd 1 0 ld 0 1 0 0 0 0 0 (omega arith) (omega arith) (omega arith) (omega arith) (suc (length rows₁))
      (back_all (darts entry) ld rd 1 0 ld 0 1 0 0 0 0 0 (omega arith) (omega arith) (omega arith) (omega arith) (suc (length rows₁)))
      entry ld rd 0 w (leg_out (leg_at nothing 0 0 0) w.rows) (formed_inside entry s) hl hr nl rows₁ h e t refl refl in
      let ys : List ℕ = set (set w.rows (place 3 ld) 0) (place 3 rd) 0 in
      let len : length ys ≡ length rows₁ = simp length-set g.long in
      let leg : leg_on true ys ld rd ≡ leg_out w.leg p.left = same_leg true 1 0 ld ys rows₁ (omega arith) (omega arith) len p.low ys ∙ p.unlinked in
      let is : p.left ≡ entry = ap (λ (x : LegOut). x.rows) (sym p.linked) in (
        g.formed,
        g.long ∙ changed_length false entry ld rd rows₁ s h hl hr nl,
        sym (unlink_starts w.rows ld rd g.formed p.last_l p.last_r nr)
            ∙ ap (λ (x : LegOut). after_leg true rd w.rows ld rd x) leg
            ∙ simp (t, ne_eqb w.leg.pair.l 0 z, is),
      )

  restore_opened : (rows₁ : List ℕ) → Changed false entry ld rd rows₁ → (w : LegOut) → leg_on false rows₁ ld rd ≡ w → is_ok w.leg.answer ≡ true →
      w.leg.pair.l ≡ 0 → w.leg.pair.r ≡ 0 →
      (v : LegOut) → leg_back false w.rows ld rd ≡ v → is_ok v.leg.answer ≡ true →
      WellFormed v.rows × (length v.rows ≡ length entry) × (three_unlink_on v.rows ld ≡ out (done rd 0) entry)
  unfolding walk
  restore_opened rows₁ h w e t z y v e₂ t₂ =
      let s₁ = changed_formed false entry ld rd rows₁ s h hl hr nl in
      let low₁ = changed_low false entry ld rd rows₁ s h hl hr nl in
      let g : Walked false rows₁ 1 0 (beta rows₁ 1 ld) (beta rows₁ 0 rd) 0 w =
      rw (sym e) (walked false ld rd 1 0 ld (omega arith) (omega arith) (suc (length rows₁)) rows₁ (beta rows₁ 1 ld) (beta rows₁ 0 rd) 0 s₁ (s₁.below 1 ld)
      (s₁.below 0 rd)) in
      let g₂ : Walked false w.rows 0 1 (beta w.rows 0 ld) (beta w.rows 1 rd) 0 v =
      rw (sym e₂)
      (walked false ld rd 0 1 0 (omega arith) (omega arith) (suc (length w.rows)) w.rows (beta w.rows 0 ld) (beta w.rows 1 rd) 0 g.formed
      (g.formed.below 0 ld) (g.formed.below 1 rd)) in
      let f₂ : ℕ = suc (length w.rows) in
      let l₂ : ℕ = beta w.rows 0 ld in
      let r₂ : ℕ = beta w.rows 1 rd in
      let p : Pair (darts entry) ld rd 1 0 ld 0 1 0 f₂ l₂ r₂ 0 (omega arith) (omega arith) (omega arith) (omega arith) (suc (length rows₁))
      entry ld rd 0 rows₁ w v =
      back_pair (darts entry) ld rd 1 0 ld 0 1 0 f₂ l₂ r₂ 0 (omega arith) (omega arith) (omega arith) (omega arith) (suc (length rows₁))
      (back_all (darts entry) ld rd 1 0 ld 0 1 0 f₂ l₂ r₂ 0 (omega arith) (omega arith) (omega arith) (omega arith) (suc (length rows₁)))
      entry ld rd 0 w v (formed_inside entry s) hl hr nl rows₁ h e t e₂ t₂ in
      let long₁ = changed_length false entry ld rd rows₁ s h hl hr nl in
      let ys : List ℕ = set (set v.rows (place 3 ld) 0) (place 3 rd) 0 in
      let len : length ys ≡ length rows₁ = simp length-set (g₂.long ∙ g.long) in
      let leg : leg_on true ys ld rd ≡ leg_out w.leg p.left = same_leg true 1 0 ld ys rows₁ (omega arith) (omega arith) len p.low ys ∙ p.unlinked in
      -- the second leg, linked from the entry rows, and unlinked
      let to₂ : (b d : ℕ) → b < 3 → beta w.rows b d ≡ beta entry b d = λ b d hb. g.alike b d hb ∙ low₁ b d hb in
      let at₂ : beta w.rows 0 ld < darts entry = rw (to₂ 0 ld (omega arith)) (s.below 0 ld) in
      let at₃ : beta w.rows 1 rd < darts entry = rw (to₂ 1 rd (omega arith)) (s.below 1 rd) in
      let q = back_all (darts entry) ld rd 0 1 0 0 1 0 0 0 0 0 (omega arith) (omega arith) (omega arith) (omega arith) f₂
      entry l₂ r₂ 0 (leg_out v.leg p.left) (leg_out (leg_at nothing 0 0 0) p.left) (formed_inside entry s) at₂ at₃ p.linked t₂ refl refl in
      let is : q.0 ≡ entry = ap (λ (x : LegOut). x.rows) (sym q.1) in
      let g₃ : Walked false entry 0 1 l₂ r₂ 0 (leg_out v.leg p.left) =
      rw (sym p.linked) (walked false ld rd 0 1 0 (omega arith) (omega arith) f₂ entry l₂ r₂ 0 s at₂ at₃) in
      let len₃ : length p.left ≡ length w.rows = g₃.long ∙ sym (g.long ∙ long₁) in
      let leg₂ : leg_back true p.left ld rd ≡ leg_out v.leg entry =
      same_leg true 0 1 0 p.left w.rows (omega arith) (omega arith) len₃ (λ b d hb. g₃.alike b d hb ∙ sym (to₂ b d hb)) p.left
      ∙ q.2
      ∙ ap (λ (x : List ℕ). leg_out v.leg x) is in (
        g₂.formed,
        g₂.long ∙ g.long ∙ long₁,
        sym (unlink_starts v.rows ld rd g₂.formed p.last_l p.last_r nr)
            ∙ ap (λ (x : LegOut). after_leg true rd v.rows ld rd x) leg
            ∙ simp (t, eq-eqb w.leg.pair.l 0 z, eq-eqb w.leg.pair.r 0 y)
            (ap (λ (x : LegOut). last_leg rd v.rows x) leg₂ ∙ simp t₂),
      )

  -- a 3-link that succeeds leaves a map, of which a 3-unlink of ld answers rd and leaves the rows as they were
  pub restored : is_ok (three_link_on entry ld rd).answer ≡ true →
      WellFormed (three_link_on entry ld rd).rows × (length (three_link_on entry ld rd).rows ≡ length entry) ×
      (three_unlink_on (three_link_on entry ld rd).rows ld ≡ out (done rd 0) entry)
  restored t = go (three_link_on entry ld rd) (link_success entry ld rd s nl nr t)
    where
      go : (o : Out) → Success false 0 entry ld rd o →
          WellFormed o.rows × (length o.rows ≡ length entry) × (three_unlink_on o.rows ld ≡ out (done rd 0) entry)
      go o (closed rows₁ h w e d z q) = rw q (restore_closed rows₁ h w e d z)
      go o (opened rows₁ h w e d z y v e₂ d₂ q) = rw q (restore_opened rows₁ h w e d z y v e₂ d₂)
