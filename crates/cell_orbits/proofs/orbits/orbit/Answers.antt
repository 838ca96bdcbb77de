-- `orbits::orbit` meets its contract: refused by the guard, or the orbit under the policy's steps. Assumes nothing.
use Rattle.std.specs.Prelude.{List, ℕ, is_ok}
use mathlib.Core.Path.{sym, ap, ◌∙◌}
use Rattle.map_betas.proofs.AnswerLaws.{behind_refused, behind_done}
use Rattle.map_betas.proofs.GuardLaws.{ready}
use Rattle.cell_steps.specs.Calls.{orbit_done, orbit_call}
use Rattle.cell_orbits.proofs.orbits.orbit.Goals as goal

pub returns-in_err-orbit_guard : goal.returns-in_err-orbit_guard
unfolding orbit_call
returns-in_err-orbit_guard c = behind_refused c.orbit_guard.ensures _ _ _ c.in_err-orbit_guard.was c.from_residual.ensures.1

pub invariant_of-list_orbit : goal.invariant_of-list_orbit
invariant_of-list_orbit c =
    let r = ready _ _ _ _ _ _ (ap is_ok (sym c.orbit_guard.ensures ∙ c.in_ok-orbit_guard.was)) in
    record { formed = r.map.formed }

pub list_orbit-requires : goal.list_orbit-requires
list_orbit-requires c =
    let r = ready _ _ _ _ _ _ (ap is_ok (sym c.orbit_guard.ensures ∙ c.in_ok-orbit_guard.was)) in
    (r.lent.marks, r.lent.output, r.left.below)

pub returns : goal.returns
unfolding orbit_call
returns c =
    c.list_orbit.ensures
    ∙ ap (λ (steps : List ℕ). orbit_done c.args.rows.now c.args.marks.now c.args.output.now steps c.args.d) c.steps_of.ensures.1
    ∙ behind_done c.orbit_guard.ensures _ _ c.in_ok-orbit_guard.was
