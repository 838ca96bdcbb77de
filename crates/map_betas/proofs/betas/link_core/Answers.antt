-- `betas::link_core` meets its contract: each return is one of the cases of `link_core`. Assumes nothing.
use native.Mathlib.Omega.{arith}
use Rattle.map_betas.proofs.BetaLaws.{opp_lt}
use Rattle.map_betas.proofs.CoreLaws.{link_base, link_image, link_self, link_done}
use Rattle.map_betas.proofs.betas.link_core.Goals as goal

pub returns-then-beta_at-ne0 : goal.returns-then-beta_at-ne0
returns-then-beta_at-ne0 c = link_base _ _ _ _ (omega arith)

pub beta_at-requires-2 : goal.beta_at-requires-2
beta_at-requires-2 c = omega (arith, opp_lt c.args.i (omega arith), c.opp_of-j.ensures)

pub returns-then-beta_at-ne0-2 : goal.returns-then-beta_at-ne0-2
returns-then-beta_at-ne0-2 c = link_image _ _ _ _ _ c.opp_of-j.ensures (omega arith) (omega arith)

pub returns-then-l-r : goal.returns-then-l-r
returns-then-l-r c = link_self _ _ _ _ _ c.opp_of-j.ensures (omega arith) (omega arith) (omega arith) (omega arith)

pub set_beta-requires-2 : goal.set_beta-requires-2
set_beta-requires-2 c = omega (arith, opp_lt c.args.i (omega arith), c.opp_of-j.ensures)

pub returns : goal.returns
returns c =
    link_done _ _ _ _ _ _ _ c.opp_of-j.ensures (omega arith) (omega arith) (λ h. omega arith) c.set_beta.ensures c.set_beta-2.ensures
