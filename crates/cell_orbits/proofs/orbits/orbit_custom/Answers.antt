-- `orbits::orbit_custom` meets its contract: refused by the guard or by the test of the list, or the orbit under the listed betas. Assumes nothing.
use Rattle.std.specs.Prelude.{◌≡◌, List, ℕ, Err, is_ok}
use mathlib.Core.Path.{refl, sym, ap, ◌∙◌}
use Rattle.std.specs.Result.{result_and}
use Rattle.map_betas.specs.Answers.{Test}
use Rattle.map_betas.specs.declared.error.Refusal.{Refusal}
use Rattle.map_betas.proofs.AnswerLaws.{goes_on, behind_refused, behind_done}
use Rattle.map_betas.proofs.GuardLaws.{ready}
use Rattle.cell_steps.specs.Calls.{orbit_done, custom_test, custom_call}
use Rattle.cell_steps.proofs.StepLaws.{betas_are}
use Rattle.cell_steps.proofs.CallLaws.{custom_done}
use Rattle.cell_orbits.proofs.orbits.orbit_custom.Goals as goal

-- the first of two tests refuses: so do both
first_refuses : {g a : Test} (b : Test) {w : Refusal} → g ≡ a → g ≡ Err w → g ≡ result_and a b
first_refuses b e t = rw (sym e, t) refl

pub returns-in_err-orbit_guard : goal.returns-in_err-orbit_guard
unfolding custom_call
returns-in_err-orbit_guard c =
    let e = first_refuses (custom_test c.args.betas.now) c.orbit_guard.ensures c.in_err-orbit_guard.was in
    behind_refused e _ _ _ c.in_err-orbit_guard.was c.from_residual.ensures.1

pub returns-in_err-custom_test : goal.returns-in_err-custom_test
unfolding custom_call
returns-in_err-custom_test c =
    let e = c.custom_test.ensures ∙ goes_on c.orbit_guard.ensures (custom_test c.args.betas.now) c.in_ok-orbit_guard.was in
    behind_refused e _ _ _ c.in_err-custom_test.was c.from_residual-in_err-custom_test.ensures.1

pub custom_steps-requires : goal.custom_steps-requires
custom_steps-requires c = betas_are c.args.betas.now (custom_done c.args.betas.now (ap is_ok (sym c.custom_test.ensures ∙ c.in_ok-custom_test.was)))

pub invariant_of-list_orbit : goal.invariant_of-list_orbit
invariant_of-list_orbit c =
    let r = ready _ _ _ _ _ _ (ap is_ok (sym c.orbit_guard.ensures ∙ c.in_ok-orbit_guard.was)) in
    record { formed = r.map.formed }

pub list_orbit-requires : goal.list_orbit-requires
list_orbit-requires c =
    let r = ready _ _ _ _ _ _ (ap is_ok (sym c.orbit_guard.ensures ∙ c.in_ok-orbit_guard.was)) in
    (r.lent.marks, r.lent.output, r.left.below)

pub returns : goal.returns
unfolding custom_call
returns c =
    c.list_orbit.ensures
    ∙ ap (λ (steps : List ℕ). orbit_done c.args.rows.now c.args.marks.now c.args.output.now steps c.args.d) c.custom_steps.ensures.1
    ∙ behind_done (c.custom_test.ensures ∙ goes_on c.orbit_guard.ensures (custom_test c.args.betas.now) c.in_ok-orbit_guard.was)
    _ _ c.in_ok-custom_test.was
