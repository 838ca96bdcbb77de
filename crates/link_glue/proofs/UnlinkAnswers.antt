-- What a 3-unlink of a dart with an image can answer: that image, or 9 with ld and the image. Its walk meets no dart that is already free.
--   step_answers, walk_answers   a step, a leg: done, or refused with 9
--   unlink_answers               the whole
-- Assumes nothing.
use Prim.Native.Nat.{ℕ, zero, suc, ◌<◌}
use native.Mathlib.Omega.{arith}
use native.Mathlib.Decide.{ℕ_discrete}
use mathlib.Core.Path.{◌≡◌, refl, sym, ap, ◌∙◌}
use mathlib.Core.Logic.{◌≢◌, by_cases, ◌⊎◌, inl, inr, ⊎_elim}
use mathlib.Core.List.{List}
use mathlib.Core.Bool.{Bool, true, false, cond}
use lib.Dec.{eqb}
use lib.ListN.{length}
use Rattle.map_betas.specs.declared.error.Refusal.TheVariants.{AsymmetricalFaces}
use Rattle.map_betas.specs.Betas.{beta, darts}
use Rattle.map_betas.specs.Answers.{Out, out, Answer, done}
use Rattle.map_betas.specs.Maps.{WellFormed}
use Rattle.map_betas.proofs.CoreLaws.{unlink_done}
use Rattle.link_walk.specs.Walk.{step_of, LegOut, walk}
use Rattle.link_walk.specs.Three.{leg_on, leg_back, last_leg, after_leg, after_core, three_unlink_on}
use Rattle.link_walk.proofs.StepLaws.{step_done, step_stray, step_unlink, changed_formed}
use Rattle.link_walk.proofs.UndoLaws.{Walked, walked}
use Rattle.link_walk.proofs.ThreeLaws.{on_unlink}
use Rattle.link_glue.proofs.Turns.{onto, stays, at_null, at_stop}
use Rattle.std.specs.Prelude.{Err, is_ok}

module _ (ld rd : ℕ) where
  abbrev uneven : Answer
  uneven = Err (AsymmetricalFaces ld rd)

  abbrev DoneOrUneven : Answer → Type 0
  DoneOrUneven a = (is_ok a ≡ true) ⊎ (a ≡ uneven)

  module _ (rows : List ℕ) (s : WellFormed rows) (l r : ℕ) (nl : l ≢ 0) where
    step_answers : DoneOrUneven (step_of true ld rd rows l r).answer
    step_answers =
        by_cases (ℕ_discrete l (beta rows 3 r))
        (λ (e : l ≡ beta rows 3 r).
        let nr : beta rows 3 r ≢ 0 = λ z. nl (e ∙ z) in
        let b : beta rows 3 l ≡ r = ap (λ (d : ℕ). beta rows 3 d) e ∙ s.back 3 r (omega arith) nr in
        let n : beta rows 3 l ≢ 0 = λ z. nr (ap (λ (d : ℕ). beta rows 3 d) (sym b ∙ z) ∙ s.null 3 (omega arith)) in
        inl (ap (λ (o : Out). is_ok o.answer) (sym (unlink_done rows 3 l 3 (beta rows 3 l) _ _ refl refl n refl refl ∙ step_unlink ld rd rows l r e))))
        (λ (e : l ≢ beta rows 3 r). inr (ap (λ (o : Out). o.answer) (sym (step_stray ld rd rows l r e))))

  module _ (i j stop : ℕ) where
    abbrev Answers : ℕ → Type 0
    Answers f = (rows : List ℕ) (l r k : ℕ) → WellFormed rows → l < darts rows → r < darts rows →
        DoneOrUneven (walk (step_of true ld rd) f rows i j stop l r k).leg.answer

    after : (f : ℕ) → Answers f → (rows : List ℕ) (l r k : ℕ) → WellFormed rows → l < darts rows → r < darts rows → l ≢ 0 → l ≢ stop →
        DoneOrUneven (walk (step_of true ld rd) (suc f) rows i j stop l r k).leg.answer
    after f ih rows l r k s hl hr nl ns =
        let o : Out = step_of true ld rd rows l r in
        ⊎_elim
        (λ (t : is_ok (step_of true ld rd rows l r).answer ≡ true).
        let h = step_done rows o.answer o.rows ld rd l r true s nl refl t in
        let s' = changed_formed true rows l r o.rows s h hl hr nl in
        rw (onto i j stop (step_of true ld rd) f rows l r k nl ns o.answer o.rows refl t)
        (ih o.rows (beta o.rows i l) (beta o.rows j r) (suc k) s' (s'.below i l) (s'.below j r)))
        (λ (e : (step_of true ld rd rows l r).answer ≡ uneven).
        inr (ap (λ (w : LegOut). w.leg.answer) (stays i j stop (step_of true ld rd) f rows l r k nl ns o.answer o.rows refl (ap is_ok e)) ∙ e))
        (step_answers rows s l r nl)

    answers_on : (f : ℕ) → Answers f → Answers (suc f)
    answers_on f ih rows l r k s hl hr =
        by_cases (ℕ_discrete l 0)
        (λ (e : l ≡ 0). inl (ap (λ (w : LegOut). is_ok w.leg.answer) (at_null i j stop (step_of true ld rd) f rows l r k e)))
        (λ (nl : l ≢ 0). by_cases (ℕ_discrete l stop)
        (λ (e : l ≡ stop). inl (ap (λ (w : LegOut). is_ok w.leg.answer) (at_stop i j stop (step_of true ld rd) f rows l r k e)))
        (λ (ns : l ≢ stop). after f ih rows l r k s hl hr nl ns))

    answers_not : Answers zero
    unfolding walk
    answers_not rows l r k s hl hr = inl refl

    walk_answers : (f : ℕ) → Answers f
    walk_answers zero = answers_not
    walk_answers (suc f) = answers_on f (walk_answers f)

  -- the whole: d is answered, or 9, and then the rows are as they were
  module _ (d : ℕ) (entry : List ℕ) where
    abbrev Two : Out → Type 0
    Two o = (o.answer ≡ done d 0) ⊎ (o ≡ out uneven entry)

    last_two : (v : LegOut) → DoneOrUneven v.leg.answer → Two (last_leg d entry v)
    last_two v (inl t) = inl (ap (λ (b : Bool). (cond b (out (done d 0) v.rows) (out v.leg.answer entry)).answer) t)
    last_two v (inr e) = inr (ap (λ (a : Answer). cond (is_ok a) (out (done d 0) v.rows) (out a entry)) e)

    leg_two : (w : LegOut) → DoneOrUneven w.leg.answer → Two (last_leg d entry (leg_back true w.rows ld rd)) → Two (after_leg true d entry ld rd w)
    leg_two w (inl t) k = rw t (go (eqb w.leg.pair.l 0) (eqb w.leg.pair.r 0))
      where
        go : (b c : Bool) → Two (cond b (cond c (last_leg d entry (leg_back true w.rows ld rd)) (out uneven entry)) (out (done d 0) w.rows))
        go true true = k
        go true false = inr refl
        go false c = inl refl
    leg_two w (inr e) k =
        inr (ap
        (λ (a : Answer). cond (is_ok a)
        (cond (eqb w.leg.pair.l 0) (cond (eqb w.leg.pair.r 0) (last_leg d entry (leg_back true w.rows ld rd)) (out uneven entry)) (out (done d 0) w.rows))
        (out a entry)) e)

pub unlink_answers : (rows : List ℕ) (ld rd : ℕ) → WellFormed rows → ld < darts rows → ld ≢ 0 → rd ≡ beta rows 3 ld → rd ≢ 0 →
    ((three_unlink_on rows ld).answer ≡ done rd 0) ⊎ (three_unlink_on rows ld ≡ out (Err (AsymmetricalFaces ld rd)) rows)
unlink_answers rows ld rd s hl nl b nr = rw (sym (on_unlink rows ld rd s b nr)) (go (step_of true ld rd rows ld rd) refl (step_answers ld rd rows s ld rd nl))
  where
    go : (o : Out) → o ≡ step_of true ld rd rows ld rd → DoneOrUneven ld rd (step_of true ld rd rows ld rd).answer →
        Two ld rd rd rows (after_core true rd rows ld rd o)
    go o e (inr t) = inr (ap (λ (a : Answer). cond (is_ok a) (after_leg true rd rows ld rd (leg_on true o.rows ld rd)) (out a rows))
        (ap (λ (x : Out). x.answer) e ∙ t))
    go o e (inl t) =
        let t' : is_ok o.answer ≡ true = ap (λ (x : Out). is_ok x.answer) e ∙ t in
        let hr : rd < darts rows = rw b (s.below 3 ld) in
        let h = step_done rows o.answer o.rows ld rd ld rd true s nl e t' in
        let s₁ = changed_formed true rows ld rd o.rows s h hl hr nl in
        let w : LegOut = leg_on true o.rows ld rd in
        let g : Walked true o.rows 1 0 (beta o.rows 1 ld) (beta o.rows 0 rd) 0 w =
        walked true ld rd 1 0 ld (omega arith) (omega arith) (suc (length o.rows)) o.rows (beta o.rows 1 ld) (beta o.rows 0 rd) 0 s₁
        (s₁.below 1 ld) (s₁.below 0 rd) in
        let s₂ = g.formed in
        rw t'
        (leg_two ld rd rd rows w
        (walk_answers ld rd 1 0 ld (suc (length o.rows)) o.rows (beta o.rows 1 ld) (beta o.rows 0 rd) 0 s₁ (s₁.below 1 ld) (s₁.below 0 rd))
        (last_two ld rd rd rows (leg_back true w.rows ld rd)
        (walk_answers ld rd 0 1 0 (suc (length w.rows)) w.rows (beta w.rows 0 ld) (beta w.rows 1 rd) 0 s₂ (s₂.below 0 ld) (s₂.below 1 rd))))
