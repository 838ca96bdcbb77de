-- Each turn of the walk, over any step, with the values as the code has them.
--   walk_null, walk_stop   l is null, or at the stop
--   walk_refuse            the step refuses
--   walk_next              the step is done, and the walk goes on
-- Assumes nothing.
use Prim.Native.Nat.{ℕ, suc, ◌+◌, ◌-◌, ◌<◌}
use native.Mathlib.Omega.{arith}
use native.Mathlib.Numerals.{add-one}
use mathlib.Core.Path.{◌≡◌, ap, ◌∙◌}
use mathlib.Core.Logic.{◌≢◌}
use mathlib.Core.List.{List}
use mathlib.Core.Bool.{true, false, or-true}
use borrow.Author.Tests.{eq-eqb, ne_eqb}
use Rattle.map_betas.specs.Betas.{beta}
use Rattle.map_betas.specs.Answers.{Out, out, nothing, Answer}
use Rattle.link_walk.specs.Walk.{leg_out, leg_at, walk}
use Rattle.std.specs.Prelude.{is_ok}

module _ (step : List ℕ → ℕ → ℕ → Out) (f : ℕ) (rows : List ℕ) (i j stop l r k : ℕ) where
  pub walk_null : 0 < f → l ≡ 0 → leg_out (leg_at nothing l r k) rows ≡ walk step f rows i j stop l r k
  unfolding walk
  walk_null p e =
      let q : f ≡ suc (f - 1) = omega arith in
      rw q (simp (eq-eqb l 0 e))

  pub walk_stop : 0 < f → l ≡ stop → leg_out (leg_at nothing l r k) rows ≡ walk step f rows i j stop l r k
  unfolding walk
  walk_stop p e =
      let q : f ≡ suc (f - 1) = omega arith in
      rw q (simp (eq-eqb l stop e, or-true))

  module _ (p : 0 < f) (n : l ≢ 0) (s : l ≢ stop) (a : Answer) (rows' : List ℕ) (e : out a rows' ≡ step rows l r) where
    pub walk_refuse : is_ok a ≡ false → leg_out (leg_at a l r k) rows' ≡ walk step f rows i j stop l r k
    unfolding walk
    walk_refuse d =
        let q : f ≡ suc (f - 1) = omega arith in
        rw q (simp (← e, ne_eqb l 0 n, ne_eqb l stop s, d))

    pub walk_next : (l' r' : ℕ) → is_ok a ≡ true → l' ≡ beta rows' i l → r' ≡ beta rows' j r →
        walk step f rows i j stop l r k ≡ walk step (f - 1) rows' i j stop l' r' (k + 1)
    unfolding walk
    walk_next l' r' d el er =
        let q : f ≡ suc (f - 1) = omega arith in
        rw (el, er, add-one k) (ap (λ (g : ℕ). walk step g rows i j stop l r k) q ∙ simp (← e, ne_eqb l 0 n, ne_eqb l stop s, d))
