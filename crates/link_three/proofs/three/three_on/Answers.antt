-- `three::three_on` meets its contract: each way that it ends is one of the cases of `after_core`. Assumes nothing.
use native.Mathlib.Omega.{arith}
use Prim.Native.Nat.{ℕ, ◌+◌, ◌<◌}
use mathlib.Core.Path.{◌≡◌, sym, ap, ◌∙◌}
use mathlib.Core.List.{List}
use mathlib.Core.Bool.{true, cond}
use Rattle.map_betas.specs.Betas.{darts}
use Rattle.map_betas.specs.Maps.{WellFormed}
use Rattle.link_walk.specs.Three.{leg_on, leg_back, last_leg}
use Rattle.link_walk.specs.Undo.{undone, Inside}
use Rattle.link_walk.specs.Walk.{leg_out}
use Rattle.link_walk.proofs.StepLaws.{Changed, step_done, step_kept, changeable_le}
use Rattle.link_walk.proofs.UndoLaws.{Walked, turn}
use Rattle.link_walk.proofs.ThreeLaws.{inside_now, leg_start, leg_walked, on_refused, on_leg_refused, on_closed, on_uneven, on_back, on_undone}
use Rattle.link_three.proofs.three.three_on.Given.{Over}
use Rattle.link_three.proofs.three.three_on.Goals.{After-next-first, After-walk_leg-leg}
use Rattle.std.specs.Prelude.{Err, IsErrAnd, is_ok}
use Rattle.map_betas.specs.Answers.{Answer}
use Rattle.map_betas.specs.declared.error.Refusal.{Refusal}
use Rattle.std.proofs.lemmas.Result.{err_from_is_err_and}
use Rattle.link_three.proofs.three.three_on.Goals as goal

-- the step at ld and rd was done
done : (g : Over) (c : After-next-first g) → is_ok c.step.result ≡ true
done g c = ap is_ok c.in_ok-step.was

changed : (g : Over) (c : After-next-first g) → Changed g.S.Step.parting c.args.rows.now c.args.call.l c.args.call.r c.step.new.rows
changed g c =
    step_done _ _ _ _ _ _ _ _ c.requires.0 (omega (arith, c.requires.1)) c.step.ensures (done g c)

formed : (g : Over) (c : After-next-first g) → WellFormed c.step.new.rows
formed g c =
    (turn _ _ _ _ _ _ _ _ c.requires.0 c.requires.2 c.requires.3 (omega (arith, c.requires.1)) c.step.ensures (done g c)).0

-- where the first leg starts
on_left : (g : Over) (c : After-next-first g) → c.next-first.result.l < darts c.step.new.rows
on_left g c = rw c.next-first.ensures.l ((formed g c).below _ _)

on_right : (g : Over) (c : After-next-first g) → c.next-first.result.r < darts c.step.new.rows
on_right g c = rw c.next-first.ensures.r ((formed g c).below _ _)

-- how it ends
ends : (g : Over) (c : After-walk_leg-leg g) →
    leg_out c.walk_leg-leg.result c.walk_leg-leg.new.rows ≡ leg_on g.S.Step.parting c.step.new.rows c.args.call.l c.args.call.r
ends g c = leg_start _ _ _ _ _ _ _ _ _ _ _ _ c.next-first.ensures.l c.next-first.ensures.r c.walk_leg-leg.ensures

goes : (g : Over) (c : After-walk_leg-leg g) → Walked g.S.Step.parting c.step.new.rows 1 0 c.next-first.result.l c.next-first.result.r 0
    (leg_out c.walk_leg-leg.result c.walk_leg-leg.new.rows)
goes g c =
    let b = c.before.before in
    leg_walked _ _ _ _ _ _ _ _ _ _ _ _ c.walk_leg-leg.ensures (omega arith) (omega arith) (formed g b) (on_left g b) (on_right g b)

ready : (g : Over) (c : After-walk_leg-leg g) →
    Inside (darts c.walk_leg-leg.new.rows) c.walk_leg-leg.new.rows
    × (c.args.call.l < darts c.walk_leg-leg.new.rows) × (c.args.call.r < darts c.walk_leg-leg.new.rows)
ready g c = inside_now c.args.rows.now _ _ _ ((goes g c).long ∙ c.step.auto.rows) (goes g c).formed c.requires.2 c.requires.3

-- the first leg is undone
again : (g : Over) (c : After-walk_leg-leg g) →
    undone g.S.Step.parting (c.walk_leg-leg.result.steps + 1) c.walk_leg-leg.new.rows 1 0 c.args.call.l c.args.call.r ≡ c.args.rows.now
again g c =
    on_undone _ _ _ _ _ _ _ c.requires.0 c.requires.2 c.requires.3 (omega (arith, c.requires.1)) (changed g c.before.before) (ends g c)

-- what the `?` returns is what the step answered
as_answered : {w : Refusal} (a r : Answer) → a ≡ Err w → IsErrAnd r (λ x. x ≡ w) → r ≡ a
as_answered {w} a r e h = let p = err_from_is_err_and {Q = λ x. x ≡ w} r h in p.1 ∙ ap Err p.2 ∙ sym e

pub returns-in_err-step : goal.returns-in_err-step
returns-in_err-step g c =
    let t = ap is_ok c.in_err-step.was in
    rw (as_answered _ _ c.in_err-step.was c.from_residual.ensures.1)
    (on_refused _ _ _ _ _ _ _ _ c.step.ensures t (step_kept _ _ _ _ _ _ _ _ c.step.ensures t))

pub walk_leg-leg-requires : goal.walk_leg-leg-requires
walk_leg-leg-requires g c =
    let b = (goal.at.walk_leg-leg-requires g c).After-next-first in
    (formed g b, omega arith, omega arith, on_left g b, on_right g b)

pub overflow_add-steps : goal.overflow_add-steps
overflow_add-steps g c =
    let p = goal.at.overflow_add-steps g c in
    let w = goes g p.After-walk_leg-leg in
    let s = formed g p.After-next-first in
    omega (arith, w.steps, w.fell, changeable_le g.S.Step.parting c.step.new.rows, s.sized.whole, s.sized.few)

pub undo_leg-requires : goal.undo_leg-requires
undo_leg-requires g c =
    let t = ready g (goal.at.undo_leg-requires g c).After-walk_leg-leg in
    (t.0, omega arith, omega arith, t.1, t.2)

pub returns-in-Err : goal.returns-in-Err
returns-in-Err g c =
    let p = goal.at.returns-in-Err g c in
    rw (← c.in-Err.is) (on_leg_refused _ _ _ _ _ _ _ _ c.step.ensures (done g p.After-next-first) _ _ (ends g p.After-walk_leg-leg) _
    (ap is_ok c.in-Err.is)
    (c.undo_leg.ensures ∙ again g p.After-walk_leg-leg))

pub returns-then-leg-ne0 : goal.returns-then-leg-ne0
returns-then-leg-ne0 g c =
    let p = goal.at.returns-then-leg-ne0 g c in
    on_closed _ _ _ _ _ _ _ _ c.step.ensures (done g p.After-next-first) _ _ (ends g p.After-walk_leg-leg) _ c.former.ensures
    (ap is_ok c.in_default.is) c.if-leg-ne0.true

pub undo_leg-requires-then-leg-ne0-2 : goal.undo_leg-requires-then-leg-ne0-2
undo_leg-requires-then-leg-ne0-2 g c =
    let t = ready g (goal.at.undo_leg-requires-then-leg-ne0-2 g c).After-walk_leg-leg in
    (t.0, omega arith, omega arith, t.1, t.2)

pub returns-then-leg-ne0-2 : goal.returns-then-leg-ne0-2
returns-then-leg-ne0-2 g c =
    let p = goal.at.returns-then-leg-ne0-2 g c in
    on_uneven _ _ _ _ _ _ _ _ c.step.ensures (done g p.After-next-first) _ _ (ends g p.After-walk_leg-leg) _
    (ap is_ok c.in_default.is) c.if-leg-ne0.false c.if-leg-ne0-2.true
    (c.undo_leg-then-leg-ne0-2.ensures ∙ again g p.After-walk_leg-leg)

pub back-requires : goal.back-requires
back-requires g c =
    let p = goal.at.back-requires g c in
    let t = ready g p.After-walk_leg-leg in
    ((goes g p.After-walk_leg-leg).formed, t.1, t.2)

pub returns : goal.returns
returns g c =
    let p = goal.at.returns g c in
    c.back.ensures
    ∙ ap (λ (x : List ℕ). last_leg (cond g.S.Step.parting c.args.call.r 0) x (leg_back g.S.Step.parting c.walk_leg-leg.new.rows
    c.args.call.l c.args.call.r)) (again g p.After-walk_leg-leg)
    ∙ on_back _ _ _ _ _ _ _ _ c.step.ensures (done g p.After-next-first) _ _ (ends g p.After-walk_leg-leg)
    (ap is_ok c.in_default.is) c.if-leg-ne0.false c.if-leg-ne0-2.false
