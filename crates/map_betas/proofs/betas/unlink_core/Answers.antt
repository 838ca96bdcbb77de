-- `betas::unlink_core` meets its contract: each return is one of the cases of `unlink_core`. Assumes nothing.
use native.Mathlib.Omega.{arith}
use Rattle.map_betas.proofs.BetaLaws.{opp_lt}
use Rattle.map_betas.proofs.CoreLaws.{unlink_free, unlink_done}
use Rattle.map_betas.proofs.betas.unlink_core.Goals as goal

pub returns-then-x-eq0 : goal.returns-then-x-eq0
returns-then-x-eq0 c = unlink_free _ _ _ (omega arith)

pub set_beta-requires-2 : goal.set_beta-requires-2
set_beta-requires-2 c = omega (arith, opp_lt c.args.i (omega arith), c.opp_of.ensures)

pub returns : goal.returns
returns c =
    unlink_done _ _ _ _ _ _ _ c.opp_of.ensures c.beta_at-x.ensures (omega arith)
    c.set_beta.ensures c.set_beta-2.ensures
