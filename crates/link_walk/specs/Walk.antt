-- The walk of a 3-link and of a 3-unlink along two faces, over the rows as written so far.
--   step_of parting ld rd rows l r   a step at the pair l and r; `parting` tells the unlink from the link
--   LegOut, leg_out, leg_at      where a leg of the walk ends, and the rows then
--   walk                       a leg: a step at each pair, until the left side ends or a step refuses
use Rattle.std.specs.Prelude.{ℕ, zero, suc, List, Bool, true, false, cond, ◌||◌, eqb, Err, is_ok}
use Rattle.map_betas.specs.declared.error.Refusal.TheVariants.{AsymmetricalFaces}
use Rattle.map_betas.specs.Betas.{beta}
use Rattle.map_betas.specs.Answers.{Out, out, nothing, Answer}
use Rattle.map_betas.specs.Cores.{link_core, unlink_core}
use Rattle.link_walk.specs.declared.walk.Leg.{Leg}

-- A pair of the walk: a link asks for an r, and goes by the core; an unlink asks l to be the beta 3 image of r, and parts them.
-- 9 says ld and rd, the darts of the call.
unfoldable pub step_of : Bool → ℕ → ℕ → List ℕ → ℕ → ℕ → Out
step_of false ld rd rows l r = cond (eqb r 0) (out (Err (AsymmetricalFaces ld rd)) rows) (link_core rows 3 l r)
step_of true ld rd rows l r = cond (eqb l (beta rows 3 r)) (unlink_core rows 3 l) (out (Err (AsymmetricalFaces ld rd)) rows)

pub record LegOut : Type 0 where
  pub leg : Leg
  pub rows : List ℕ

abbrev pub leg_out : Leg → List ℕ → LegOut
leg_out w rows = record { leg = w; rows = rows }

abbrev pub leg_at : Answer → ℕ → ℕ → ℕ → Leg
leg_at a l r k = record { answer = a; pair = record { l = l; r = r }; steps = k }

-- From l and r, l going on by beta i and r by beta j, until l is null or at the dart `stop`, or a step refuses. k counts the steps.
-- At most f steps: a walk that is given more than there are places in the rows ends before that, since each step fills or empties
-- a place (`proofs/UndoLaws.antt`, `turn`).
unfoldable pub walk : (List ℕ → ℕ → ℕ → Out) → ℕ → List ℕ → ℕ → ℕ → ℕ → ℕ → ℕ → ℕ → LegOut
walk step zero rows i j stop l r k = leg_out (leg_at nothing l r k) rows
walk step (suc f) rows i j stop l r k =
    cond (eqb l 0 || eqb l stop) (leg_out (leg_at nothing l r k) rows)
    (cond (is_ok (step rows l r).answer)
    (walk step f (step rows l r).rows i j stop (beta (step rows l r).rows i l) (beta (step rows l r).rows j r) (suc k))
    (leg_out (leg_at (step rows l r).answer l r k) (step rows l r).rows))
