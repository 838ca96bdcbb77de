-- `breaks_at` meets its contract: each return is one of the cases of `breaks`. Assumes nothing.
use native.Mathlib.Omega.{arith}
use Rattle.image_form.proofs.StoredLaws.{stored_far, stored_null, stored_dart0, stored_fixed, stored_back}
use Rattle.image_map.proofs.breaks_at.Goals as goal

pub returns-then-n-x : goal.returns-then-n-x
returns-then-n-x c = stored_far _ _ _ _ _ c.stored_beta-x.ensures (omega arith) (omega arith) c.if-n-x.true

pub returns-then-x-eq0 : goal.returns-then-x-eq0
returns-then-x-eq0 c = stored_null _ _ _ _ _ c.stored_beta-x.ensures (omega arith) (omega arith) (omega arith) c.if-x-eq0.true

pub returns-then-d-eq0 : goal.returns-then-d-eq0
returns-then-d-eq0 c =
    stored_dart0 _ _ _ _ _ c.stored_beta-x.ensures (omega arith) (omega arith) (omega arith) c.if-x-eq0.false
    c.if-d-eq0.true

pub returns-then-x-d : goal.returns-then-x-d
returns-then-x-d c =
    stored_fixed _ _ _ _ _ c.stored_beta-x.ensures (omega arith) (omega arith) (omega arith) c.if-x-eq0.false
    c.if-d-eq0.false c.if-i-ge2.true c.if-x-d.true

pub returns : goal.returns
returns c =
    stored_back _ _ _ _ _ c.stored_beta-x.ensures (omega arith) (omega arith) (omega arith) c.if-x-eq0.false _ _
    c.opp_of.ensures c.stored_beta.ensures c.if-d-eq0.false
    (λ l e. omega arith)
