-- The tests of a link or an unlink, which has no loans and refuses the null dart.
--   passed   what holds once they have passed: a map, and real darts of it in use
--   admits   they pass on a map and real darts of it in use
--   through  a call that is done is its core, and its tests passed
--   inside   a call on a map and real darts of it in use is its core
--   behind_tests   what the code returns where they refuse, and what it goes on to where they pass
-- Assumes nothing.
use Prim.Native.Nat.{ℕ}
use native.Mathlib.Omega.{arith}
use mathlib.Core.Path.{◌≡◌, refl, sym, ap, ◌∙◌}
use mathlib.Core.List.{List}
use mathlib.Core.Bool.{true, true≢false}
use Rattle.map_betas.specs.Answers.{Outcome, pass, behind, Test}
use Rattle.map_betas.specs.Guards.{no_loans, guard_of}
use Rattle.link_walk.specs.Calls.{Used}
use Rattle.map_betas.proofs.AnswerLaws.{behind_refused, behind_done}
use Rattle.map_betas.proofs.GuardLaws.{ready}
use Rattle.map_betas.proofs.Guarded.{no_loans_lent, guard_iff}
use Rattle.std.specs.Prelude.{Err, Ok, is_ok}

pub ruleset behind_tests = (behind_refused, behind_done)

pub passed : {rows flags : List ℕ} {a b : ℕ} {g : Test} → g ≡ guard_of rows flags no_loans 1 a b → is_ok g ≡ true → Used rows flags a b
passed {rows} {flags} {a} {b} {g} e t =
    let h = ready rows flags no_loans 1 a b (ap is_ok (sym e) ∙ t) in
    let l = h.left in
    let r = h.right in
    record {
      map = h.map;
      real = (h.map.formed, l.allowed, l.below, r.allowed, r.below);
      left = h.used_left (omega arith);
      right = h.used_right (omega arith);
    }

pub admits : (rows flags : List ℕ) (a b : ℕ) → Used rows flags a b → pass ≡ guard_of rows flags no_loans 1 a b
admits rows flags a b h =
    let r = h.real in
    sym ((guard_iff rows flags no_loans 1 a b).1
    (record {
      map = h.map;
      lent = no_loans_lent rows r.0;
      left = record { allowed = r.1; below = r.2 };
      right = record { allowed = r.3; below = r.4 };
      used_left = λ o. h.left;
      used_right = λ o. h.right;
    }))

module _ (rows flags : List ℕ) (a b : ℕ) (o : Outcome (List ℕ)) where
  pub through : is_ok (behind (guard_of rows flags no_loans 1 a b) rows o).answer ≡ true →
      Used rows flags a b × (behind (guard_of rows flags no_loans 1 a b) rows o ≡ o)
  through = go (guard_of rows flags no_loans 1 a b) refl
    where
      go : (g : Test) → g ≡ guard_of rows flags no_loans 1 a b → is_ok (behind g rows o).answer ≡ true →
          Used rows flags a b × (behind g rows o ≡ o)
      go (Ok x) e t = (passed e refl, refl)
      go (Err w) e t = absurd (true≢false (sym t))

  pub inside : Used rows flags a b → behind (guard_of rows flags no_loans 1 a b) rows o ≡ o
  inside h = sym (behind_done (admits rows flags a b h) rows o refl)
