-- `guard::loan_test` meets its contract: each return is one of the cases of `loan_test`. Assumes nothing.
use Rattle.map_betas.proofs.GuardLaws.{loan_1, loan_2, loan_3, loan_4, loan_5, loan_6, loan_none}
use Rattle.map_guard.proofs.guard.loan_test.Goals as goal

pub returns-then-loans-n : goal.returns-then-loans-n
returns-then-loans-n c = loan_1 _ _ _ c.if-loans-n.true

pub returns-then-loans-n-2 : goal.returns-then-loans-n-2
returns-then-loans-n-2 c = loan_2 _ _ _ c.if-loans-n.false c.if-loans-n-2.true

pub returns-then-loans-n-3 : goal.returns-then-loans-n-3
returns-then-loans-n-3 c = loan_3 _ _ _ c.if-loans-n.false c.if-loans-n-2.false c.if-loans-n-3.true

pub returns-then-flags-n : goal.returns-then-flags-n
returns-then-flags-n c = loan_4 _ _ _ c.if-loans-n.false c.if-loans-n-2.false c.if-loans-n-3.false c.if-flags-n.true

pub returns-then-loans-n-4 : goal.returns-then-loans-n-4
returns-then-loans-n-4 c = loan_5 _ _ _ c.if-loans-n.false c.if-loans-n-2.false c.if-loans-n-3.false c.if-flags-n.false c.if-loans-n-4.true

pub returns-then-loans-n-5 : goal.returns-then-loans-n-5
returns-then-loans-n-5 c = loan_6 _ _ _ c.if-loans-n.false c.if-loans-n-2.false c.if-loans-n-3.false c.if-flags-n.false c.if-loans-n-4.false c.if-loans-n-5.true

pub returns : goal.returns
returns c = loan_none _ _ _ c.if-loans-n.false c.if-loans-n-2.false c.if-loans-n-3.false c.if-flags-n.false c.if-loans-n-4.false c.if-loans-n-5.false
