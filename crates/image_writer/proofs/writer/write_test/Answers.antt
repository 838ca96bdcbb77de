-- `writer::write_test` meets its contract: the guard, the flag of the null dart, the points. Assumes nothing.
use mathlib.Core.Path.{sym, ◌∙◌}
use native.Mathlib.Omega.{arith}
use Rattle.image_writer.proofs.WriteLaws.{guard_refused, guard_facts, flag_refused, point_refused, test_passes}
use Rattle.image_writer.proofs.writer.write_test.Goals as goal

pub returns-in_err-guard : goal.returns-in_err-guard
returns-in_err-guard c =
    guard_refused _ _ _ _ c.reader_loans-loans.ensures c.guard.ensures _ c.in_err-guard.was c.from_residual.ensures.1

pub bounds-flags-0 : goal.bounds-flags-0
bounds-flags-0 c =
    let f = guard_facts _ _ _ _ c.reader_loans-loans.ensures c.guard.ensures c.in_ok-guard.was in
    omega (arith, f.0, f.2)

pub returns-then-flags-ne0 : goal.returns-then-flags-ne0
returns-then-flags-ne0 c = flag_refused _ _ _ _ c.reader_loans-loans.ensures c.guard.ensures c.in_ok-guard.was (omega arith)

pub overflow_cast-n : goal.overflow_cast-n
overflow_cast-n c = omega (arith, (guard_facts _ _ _ _ c.reader_loans-loans.ensures c.guard.ensures c.in_ok-guard.was).1)

pub invariant_of-n : goal.invariant_of-n
invariant_of-n c = record { few = (guard_facts _ _ _ _ c.reader_loans-loans.ensures c.guard.ensures c.in_ok-guard.was).1 }

pub points_finite-requires : goal.points_finite-requires
points_finite-requires c =
    let f = guard_facts _ _ _ _ c.reader_loans-loans.ensures c.guard.ensures c.in_ok-guard.was in
    (f.0, f.3, f.4)

pub returns-then-not-points_finite : goal.returns-then-not-points_finite
returns-then-not-points_finite c =
    point_refused _ _ _ _ c.reader_loans-loans.ensures c.guard.ensures c.in_ok-guard.was (omega arith)
    (sym c.points_finite.ensures ∙ c.if-not-points_finite.true)

pub returns : goal.returns
returns c =
    test_passes _ _ _ _ c.reader_loans-loans.ensures c.guard.ensures c.in_ok-guard.was (omega arith)
    (sym c.points_finite.ensures ∙ c.if-not-points_finite.false)
