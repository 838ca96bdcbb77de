-- `back::back` meets its contract: after a refusal the second leg is undone, and then the first. Assumes nothing.
use native.Mathlib.Omega.{arith}
use mathlib.Core.Path.{◌≡◌, ap, ◌∙◌}
use mathlib.Core.List.{List}
use Prim.Native.Nat.{ℕ}
use Rattle.std.specs.Prelude.{is_ok}
use Rattle.link_walk.specs.Three.{leg_back}
use Rattle.link_walk.specs.Undo.{undone}
use Rattle.link_walk.specs.Walk.{leg_out}
use Rattle.link_walk.proofs.StepLaws.{formed_inside}
use Rattle.link_walk.proofs.UndoLaws.{Walked}
use Rattle.link_walk.proofs.ThreeLaws.{inside_now, leg_start, leg_walked, leg_undone, last_refused}
use Rattle.link_back.proofs.back.back.Given.{Over}
use Rattle.link_back.proofs.back.back.Goals.{After-walk_leg-leg, After-undo_leg}
use Rattle.link_back.proofs.back.back.Goals as goal

-- how the second leg ends
ends : (g : Over) (c : After-walk_leg-leg g) →
    leg_out c.walk_leg-leg.result c.walk_leg-leg.new.rows ≡ leg_back g.S.Step.parting c.args.rows.now c.args.call.l c.args.call.r
ends g c = leg_start _ _ _ _ _ _ _ _ _ _ _ _ c.next-first.ensures.l c.next-first.ensures.r c.walk_leg-leg.ensures

goes : (g : Over) (c : After-walk_leg-leg g) → Walked g.S.Step.parting c.args.rows.now 0 1 c.next-first.result.l c.next-first.result.r 0
    (leg_out c.walk_leg-leg.result c.walk_leg-leg.new.rows)
goes g c =
    leg_walked _ _ _ _ _ _ _ _ _ _ _ _ c.walk_leg-leg.ensures (omega arith) (omega arith) c.requires.0
    (rw c.next-first.ensures.l (c.requires.0.below _ _)) (rw c.next-first.ensures.r (c.requires.0.below _ _))

-- the second leg is undone
again : (g : Over) (c : After-undo_leg g) → c.undo_leg.new.rows ≡ c.args.rows.now
again g c =
    c.undo_leg.ensures
    ∙ leg_undone _ _ _ _ _ _ _ _ _ _ _ _ c.walk_leg-leg.ensures (omega arith) (omega arith) c.requires.0
    (rw c.next-first.ensures.l (c.requires.0.below _ _)) (rw c.next-first.ensures.r (c.requires.0.below _ _))

pub undo_leg-requires : goal.undo_leg-requires
undo_leg-requires g c =
    let w = goes g (goal.at.undo_leg-requires g c).After-walk_leg-leg in
    let n = c.next-first.ensures in
    let t = inside_now c.args.rows.now c.walk_leg-leg.new.rows _ _ w.long w.formed (rw n.l (c.requires.0.below _ _)) (rw n.r (c.requires.0.below _ _)) in
    (t.0, omega arith, omega arith, t.1, t.2)

pub undo_leg-requires-in-Err : goal.undo_leg-requires-in-Err
undo_leg-requires-in-Err g c =
    rw (again g (goal.at.undo_leg-requires-in-Err g c).After-undo_leg) (formed_inside _ c.requires.0, omega arith, omega arith, c.requires.1, c.requires.2)

pub returns-in-Err : goal.returns-in-Err
returns-in-Err g c =
    let p = goal.at.returns-in-Err g c in
    rw (← c.in-Err.is) (last_refused _ _ _ _ _ (ends g p.After-walk_leg-leg) _ (ap is_ok c.in-Err.is)
    (c.undo_leg-in-Err.ensures ∙ ap (λ (x : List ℕ). undone g.S.Step.parting c.args.steps x 1 0 c.args.call.l
    c.args.call.r) (again g p.After-undo_leg)))
