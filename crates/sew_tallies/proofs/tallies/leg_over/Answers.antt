-- `tallies::leg_over` meets its contract. Assumes nothing.
use borrow.Author.Tests.{eq-eqb}
use Rattle.sew_pairs.specs.Pairs.{leg_over}
use Rattle.sew_pairs.proofs.LegLaws.{over_at}
use Rattle.sew_tallies.proofs.tallies.leg_over.Goals as goal

pub returns-then-l-eq0 : goal.returns-then-l-eq0
unfolding leg_over
returns-then-l-eq0 c = simp (eq-eqb _ _ c.if-l-eq0.true)

pub returns-else-l-eq0 : goal.returns-else-l-eq0
returns-else-l-eq0 c = over_at _ _ c.if-l-eq0.false
