-- A leg whose pairs ahead are real, different and still to change ends well (`finishes`), of a link and of an unlink alike. `Fresh` says what the
-- pairs ahead are, as far as the left side runs, and `fresh_on` that they are so after a step. Assumes nothing.
use Prim.Native.Nat.{ℕ, zero, suc, ◌<◌}
use native.Mathlib.Omega.{arith}
use native.Mathlib.Decide.{ℕ_discrete}
use mathlib.Core.Path.{◌≡◌, refl, sym, ap, ◌∙◌}
use mathlib.Core.Logic.{◌≢◌, by_cases}
use mathlib.Core.List.{List}
use mathlib.Core.Bool.{Bool, true, cond}
use Rattle.map_betas.specs.Betas.{beta, darts}
use Rattle.map_betas.specs.Maps.{WellFormed}
use Rattle.map_betas.proofs.Stores.{paired, pair_others}
use Rattle.map_betas.specs.Chains.{far}
use Rattle.map_betas.proofs.Chains.{Run}
use Rattle.link_walk.specs.Walk.{step_of, LegOut, walk}
use Rattle.link_walk.proofs.StepLaws.{Changed, changeable, changed_formed, changed_low, changed_fewer}
use Rattle.link_glue.proofs.Turns.{said, said_done, step_again, onto, at_null, at_stop}
use Rattle.std.specs.Prelude.{is_ok}

module _ (parting : Bool) (base : List ℕ) (i j stop : ℕ) where
  -- the pairs ahead of l and r, as far as the left side runs
  pub record Fresh (rows : List ℕ) (l r : ℕ) : Type 0 where
    pub real_r : (u : ℕ) → Run base i stop l (suc u) → far base j u r ≢ 0
    pub diff_l : (u v : ℕ) → u < v → Run base i stop l (suc v) → far base i u l ≢ far base i v l
    pub diff_r : (u v : ℕ) → u < v → Run base i stop l (suc v) → far base j u r ≢ far base j v r
    pub apart : (u v : ℕ) → Run base i stop l (suc u) → Run base i stop l (suc v) → far base i u l ≢ far base j v r
    pub was_l : (u : ℕ) → Run base i stop l (suc u) → beta rows 3 (far base i u l) ≡ cond parting (far base j u r) 0
    pub was_r : (u : ℕ) → Run base i stop l (suc u) → beta rows 3 (far base j u r) ≡ cond parting (far base i u l) 0

  module _ (rows : List ℕ) (l r : ℕ) (c : Fresh rows l r) (nl : l ≢ 0) (ns : l ≢ stop) where
    abbrev rows' : List ℕ
    rows' = paired parting rows 3 l r

    run_one : Run base i stop l 1
    unfolding far
    run_one zero h = (nl, ns)
    run_one (suc v) h = absurd (omega arith)

    run_on : (n : ℕ) → Run base i stop (beta base i l) n → Run base i stop l (suc n)
    unfolding far
    run_on n h zero q = (nl, ns)
    run_on n h (suc v) q = h v (omega arith)

    first_pair : Changed parting rows l r rows'
    unfolding far
    first_pair =
        record {
          was_l = c.was_l 0 run_one;
          was_r = c.was_r 0 run_one;
          apart = λ h. c.apart 0 0 run_one run_one;
          real = c.real_r 0 run_one;
          put = refl;
        }

    still : (d : ℕ) → d ≢ l → d ≢ r → beta rows' 3 d ≡ beta rows 3 d
    still d a b = pair_others parting rows 3 l r rows' first_pair 3 d (omega arith) (omega arith)

    fresh_on : Fresh rows' (beta base i l) (beta base j r)
    unfolding far
    fresh_on =
        record {
          real_r = λ u h. c.real_r (suc u) (run_on (suc u) h);
          diff_l = λ u v q h. c.diff_l (suc u) (suc v) (omega arith) (run_on (suc v) h);
          diff_r = λ u v q h. c.diff_r (suc u) (suc v) (omega arith) (run_on (suc v) h);
          apart = λ u v h g. c.apart (suc u) (suc v) (run_on (suc u) h) (run_on (suc v) g);
          was_l =
              λ u h. still _ (λ e. c.diff_l 0 (suc u) (omega arith) (run_on (suc u) h) (sym e)) (λ e. c.apart (suc u) 0 (run_on (suc u) h) run_one e)
              ∙ c.was_l (suc u) (run_on (suc u) h);
          was_r =
              λ u h. still _ (λ e. c.apart 0 (suc u) run_one (run_on (suc u) h) (sym e)) (λ e. c.diff_r 0 (suc u) (omega arith) (run_on (suc u) h) (sym e))
              ∙ c.was_r (suc u) (run_on (suc u) h);
        }

  module _ (ld rd : ℕ) (hi : i < 3) (hj : j < 3) where
    abbrev Finishes : ℕ → Type 0
    Finishes f =
        (rows : List ℕ) (l r k : ℕ) → WellFormed rows → l < darts rows → r < darts rows → ((b d : ℕ) → b < 3 → beta rows b d ≡ beta base b d) →
        changeable parting rows < f → Fresh rows l r →
        is_ok (walk (step_of parting ld rd) f rows i j stop l r k).leg.answer ≡ true

    finish_on : (f : ℕ) → Finishes f → Finishes (suc f)
    finish_on f ih rows l r k s hl hr same z c =
        by_cases (ℕ_discrete l 0)
        (λ (e : l ≡ 0). ap (λ (w : LegOut). is_ok w.leg.answer) (at_null i j stop (step_of parting ld rd) f rows l r k e))
        (λ (nl : l ≢ 0). by_cases (ℕ_discrete l stop)
        (λ (e : l ≡ stop). ap (λ (w : LegOut). is_ok w.leg.answer) (at_stop i j stop (step_of parting ld rd) f rows l r k e))
        (λ (ns : l ≢ stop).
        let rows' : List ℕ = paired parting rows 3 l r in
        let h : Changed parting rows l r rows' = first_pair rows l r c nl ns in
        let same' : (b d : ℕ) → b < 3 → beta rows' b d ≡ beta base b d = λ b d hb. changed_low parting rows l r rows' s h hl hr nl b d hb ∙ same b d hb in
        let s' : WellFormed rows' = changed_formed parting rows l r rows' s h hl hr nl in
        let fell : changeable parting rows' < changeable parting rows = changed_fewer parting rows l r rows' s h hl hr nl in
        ap (λ (w : LegOut). is_ok w.leg.answer)
        (onto i j stop (step_of parting ld rd) f rows l r k nl ns (said parting r) rows' (step_again parting ld rd rows l r rows' h) (said_done parting r))
        ∙ rw (same' i l hi, same' j r hj)
        (ih rows' (beta base i l) (beta base j r) (suc k) s' (rw (← same' i l hi) (s'.below i l)) (rw (← same' j r hj) (s'.below j r)) same' (omega arith)
        (fresh_on rows l r c nl ns))))

    pub finishes : (f : ℕ) → Finishes f
    finishes zero = λ rows l r k s hl hr same z c. absurd (omega arith)
    finishes (suc f) = finish_on f (finishes f)
