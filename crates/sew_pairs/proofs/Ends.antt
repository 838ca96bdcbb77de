-- No leg of a 3-unsew is cut short: on a map the first leg ends at null or back at ld, and where it ends at null the second ends at null.
--   over, not_over           whether a leg is over at a dart
--   leg_far                  a leg that ends after m pairs ends m steps on
--   first_ends, first_end_lem, first_over   the first leg ends, where, and before it has as many pairs as the rows have places
--   back_ends, back_over     and so does the second, where the first has come to null
-- Assumes nothing.
use Rattle.std.specs.Prelude.{◌≡◌, ℕ, zero, suc, ◌<◌, ◌≤◌, true, false, ◌≢◌, ◌⊎◌, List, length}
use native.Mathlib.Omega.{arith}
use native.Mathlib.Decide.{ℕ_discrete}
use mathlib.Core.Path.{refl, sym, ap, ◌∙◌}
use mathlib.Core.Logic.{inl, inr, ⊎_elim, by_cases}
use mathlib.Core.Bool.{or-true}
use borrow.Author.Tests.{eq-eqb, ne_eqb}
use Rattle.map_betas.specs.Betas.{beta, darts}
use Rattle.map_betas.specs.Maps.{WellFormed}
use Rattle.map_betas.specs.Chains.{far}
use Rattle.map_betas.proofs.Chains.{Ends, far_suc, far_undo, round_real}
use Rattle.cell_steps.proofs.ChainLaws.{chain_ends}
use Rattle.sew_pairs.specs.Pairs.{leg_over, end_from, Over}
use Rattle.sew_pairs.specs.Three.{first_end}
use Rattle.sew_pairs.proofs.LegLaws.{leg_stops, one_on}

pub over : (l stop : ℕ) → (l ≡ 0) ⊎ (l ≡ stop) → true ≡ leg_over l stop
unfolding leg_over
over l stop (inl e) = simp (eq-eqb l 0 e)
over l stop (inr e) = simp (eq-eqb l stop e, or-true)

pub not_over : (l stop : ℕ) → l ≢ 0 → l ≢ stop → false ≡ leg_over l stop
unfolding leg_over
not_over l stop n m = simp (ne_eqb l 0 n, ne_eqb l stop m)

module _ (rows : List ℕ) (i stop : ℕ) where
  pub leg_far : (m f l : ℕ) → m ≤ f → Ends rows i stop l m → end_from f rows i stop l ≡ far rows i m l
  unfolding far
  leg_far zero f l h v = (leg_stops rows i 0 stop l 0 true (over l stop v.over) refl f).1
  leg_far (suc m) zero l h v = absurd (omega arith)
  leg_far (suc m) (suc f) l h v =
      let n = v.run 0 (omega arith) in
      one_on rows i 0 stop l 0 false (not_over l stop n.0 n.1) refl f
      ∙ leg_far m f (beta rows i l) (omega arith) (record { run = λ t q. v.run (suc t) (omega arith); over = v.over })

  ends_over : (m l : ℕ) → m ≤ length rows → Ends rows i stop l m → Over rows i stop l
  ends_over m l h v = ap (λ (d : ℕ). leg_over d stop) (leg_far m (length rows) l h v) ∙ sym (over (far rows i m l) stop v.over)

module _ (rows : List ℕ) (w : WellFormed rows) (ld : ℕ) (lt : ld < darts rows) where
  pub first_ends : (m : ℕ) × (m < darts rows) × Ends rows 1 ld (beta rows 1 ld) m
  first_ends = chain_ends rows w 1 (omega arith) ld lt

  few : (m : ℕ) → m < darts rows → m ≤ length rows
  few m h = omega (arith, w.sized.whole)

  pub first_end_lem : first_end rows ld ≡ far rows 1 first_ends.0 (beta rows 1 ld)
  unfolding first_end
  first_end_lem = leg_far rows 1 ld first_ends.0 (length rows) (beta rows 1 ld) (few first_ends.0 first_ends.1) first_ends.2

  pub first_over : Over rows 1 ld (beta rows 1 ld)
  first_over = let e = first_ends in ends_over rows 1 ld e.0 (beta rows 1 ld) (few e.0 e.1) e.2

  module _ (z : first_end rows ld ≡ 0) where
    -- beta 0 does not lead back to ld, for then beta 1 would not have come to null
    not_round : (m : ℕ) → ld ≢ 0 → far rows 0 m (beta rows 0 ld) ≢ ld
    not_round m real e =
        let c : far rows 0 (suc m) ld ≡ ld = far_suc rows 0 m ld ∙ e in
        let u : far rows 1 (suc m) ld ≡ ld =
        ap (far rows 1 (suc m)) (sym c) ∙ far_undo rows w 0 (omega arith) (suc m) ld (λ n. real (sym c ∙ n)) in
        round_real rows w 1 (omega arith) m ld real u (suc first_ends.0) (far_suc rows 1 first_ends.0 ld ∙ sym first_end_lem ∙ z)

    pub back_ends : (k : ℕ) × (k < darts rows) × Ends rows 0 0 (beta rows 0 ld) k
    back_ends =
        let e = chain_ends rows w 0 (omega arith) ld lt in (
          e.0,
          e.1,
          record {
            run = λ t h. ((e.2.run t h).0, (e.2.run t h).0);
            over =
                ⊎_elim inl
                (λ q. inl (by_cases (ℕ_discrete ld 0) (λ (y : ld ≡ 0). q ∙ y) (λ (n : ld ≢ 0). absurd (not_round e.0 n q))))
                e.2.over;
          },
        )

    pub back_over : Over rows 0 0 (beta rows 0 ld)
    back_over = let e = back_ends in ends_over rows 0 0 e.0 (beta rows 0 ld) (few e.0 e.1) e.2
