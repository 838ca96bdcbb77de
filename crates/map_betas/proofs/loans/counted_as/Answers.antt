-- `loans::counted_as` meets its contract. Assumes nothing.
use borrow.Author.Tests.{le-leb, lt-leb}
use Rattle.map_betas.proofs.loans.counted_as.Goals as goal

pub returns-then-needed-lent : goal.returns-then-needed-lent
returns-then-needed-lent c = simp (le-leb _ _ c.if-needed-lent.true)

pub returns-else-needed-lent : goal.returns-else-needed-lent
returns-else-needed-lent c = simp (lt-leb _ _ c.if-needed-lent.false)
