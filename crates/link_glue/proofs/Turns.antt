-- How a leg of the walk goes on, of a link and of an unlink alike.
--   step_again        a pair that can change: the step is done
--   onto, at_null, at_stop   one step more; the two ways to end
--   Turn, turn_of_lem     a leg that ends well is at its end, or goes on after a step that was done
--   done_of           that a leg ends well, said of the walk
-- Assumes nothing.
use Prim.Native.Nat.{ℕ, suc}
use native.Mathlib.Decide.{ℕ_discrete}
use mathlib.Core.Path.{◌≡◌, refl, sym, ap, ◌∙◌}
use mathlib.Core.Logic.{◌≢◌, by_cases, ◌⊎◌, inl, inr}
use mathlib.Core.List.{List}
use mathlib.Core.Bool.{Bool, true, false, cond, or-true, true≢false}
use lib.ListN.{set}
use borrow.Author.Tests.{eq-eqb, ne_eqb}
use Rattle.map_betas.specs.Betas.{place, beta}
use Rattle.map_betas.specs.Answers.{Out, out, nothing, Answer, done}
use Rattle.map_betas.proofs.CoreLaws.{link_done, unlink_done}
use Rattle.link_walk.specs.Walk.{step_of, LegOut, leg_out, leg_at, walk}
use Rattle.link_walk.proofs.StepLaws.{Changed, step_link, step_unlink}
use Rattle.std.specs.Prelude.{is_ok}

-- what a step answers
abbrev pub said : Bool → ℕ → Answer
said parting r = cond parting (done r 0) nothing

pub said_done : (parting : Bool) (r : ℕ) → is_ok (said parting r) ≡ true
said_done true r = refl
said_done false r = refl

pub step_again : (parting : Bool) (ld rd : ℕ) (rows : List ℕ) (l r : ℕ) (rows' : List ℕ) → Changed parting rows l r rows' →
    out (said parting r) rows' ≡ step_of parting ld rd rows l r
step_again false ld rd rows l r rows' h =
    link_done rows 3 l r 3 (set rows (place 3 l) r) rows' refl h.was_l h.was_r h.apart refl h.put ∙ step_link ld rd rows l r h.real
step_again true ld rd rows l r rows' h =
    unlink_done rows 3 l 3 r (set rows (place 3 l) 0) rows' refl (sym h.was_l) h.real refl h.put ∙ step_unlink ld rd rows l r (sym h.was_r)

module _ (i j stop : ℕ) (s : List ℕ → ℕ → ℕ → Out) (f : ℕ) (rows : List ℕ) (l r k : ℕ) where
  pub at_null : l ≡ 0 → walk s (suc f) rows i j stop l r k ≡ leg_out (leg_at nothing l r k) rows
  unfolding walk
  at_null e = simp (eq-eqb l 0 e)

  pub at_stop : l ≡ stop → walk s (suc f) rows i j stop l r k ≡ leg_out (leg_at nothing l r k) rows
  unfolding walk
  at_stop e = simp (eq-eqb l stop e, or-true)

  module _ (nl : l ≢ 0) (ns : l ≢ stop) (a : Answer) (rows' : List ℕ) (e : out a rows' ≡ s rows l r) where
    pub onto : is_ok a ≡ true → walk s (suc f) rows i j stop l r k ≡ walk s f rows' i j stop (beta rows' i l) (beta rows' j r) (suc k)
    unfolding walk
    onto t = simp (ne_eqb l 0 nl, ne_eqb l stop ns, ← e, t)

    pub stays : is_ok a ≡ false → walk s (suc f) rows i j stop l r k ≡ leg_out (leg_at a l r k) rows'
    unfolding walk
    stays t = simp (ne_eqb l 0 nl, ne_eqb l stop ns, ← e, t)

module _ (parting : Bool) (ld rd i j stop : ℕ) where
  abbrev leg : ℕ → List ℕ → ℕ → ℕ → ℕ → LegOut
  leg f rows l r k = walk (step_of parting ld rd) f rows i j stop l r k

  -- a refusal is none of the two
  pub data Turn (f : ℕ) (rows : List ℕ) (l r k : ℕ) : Type 0 where
    ends : (l ≡ 0) ⊎ (l ≡ stop) → ((s : List ℕ → ℕ → ℕ → Out) (xs : List ℕ) → walk s (suc f) xs i j stop l r k ≡ leg_out (leg_at nothing l r k) xs) →
        Turn f rows l r k
    goes : l ≢ 0 → l ≢ stop → (rows' : List ℕ) → Changed parting rows l r rows' →
        leg (suc f) rows l r k ≡ leg f rows' (beta rows' i l) (beta rows' j r) (suc k) →
        Turn f rows l r k

  -- given that a step which is done changes its pair
  pub turn_of_lem : (f : ℕ) (rows : List ℕ) (l r k : ℕ) →
      (l ≢ 0 → is_ok (step_of parting ld rd rows l r).answer ≡ true → Changed parting rows l r (step_of parting ld rd rows l r).rows) →
      is_ok (leg (suc f) rows l r k).leg.answer ≡ true → Turn f rows l r k
  turn_of_lem f rows l r k c t =
      by_cases (ℕ_discrete l 0)
      (λ (e : l ≡ 0). ends (inl e) (λ s xs. at_null i j stop s f xs l r k e))
      (λ (nl : l ≢ 0). by_cases (ℕ_discrete l stop)
      (λ (e : l ≡ stop). ends (inr e) (λ s xs. at_stop i j stop s f xs l r k e))
      (λ (ns : l ≢ stop). go nl ns (is_ok (step_of parting ld rd rows l r).answer) refl))
    where
      go : l ≢ 0 → l ≢ stop → (b : Bool) → is_ok (step_of parting ld rd rows l r).answer ≡ b → Turn f rows l r k
      go nl ns true d =
          goes nl ns (step_of parting ld rd rows l r).rows (c nl d)
          (onto i j stop (step_of parting ld rd) f rows l r k nl ns (step_of parting ld rd rows l r).answer (step_of parting ld rd rows l r).rows refl d)
      go nl ns false d =
          absurd (true≢false (sym t
          ∙ ap (λ (w : LegOut). is_ok w.leg.answer)
          (stays i j stop (step_of parting ld rd) f rows l r k nl ns (step_of parting ld rd rows l r).answer (step_of parting ld rd rows l r).rows refl d)
          ∙ d))

  pub done_of : (f : ℕ) (rows : List ℕ) (l r k : ℕ) (w : LegOut) → leg f rows l r k ≡ w → is_ok w.leg.answer ≡ true →
      is_ok (leg f rows l r k).leg.answer ≡ true
  done_of f rows l r k w e t = ap (λ (x : LegOut). is_ok x.leg.answer) e ∙ t
