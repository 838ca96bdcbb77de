-- `one_links::faced` meets its contract. Assumes nothing.
use Rattle.sew_ground.proofs.OneLaws.{faced_left, faced_right, faced_both}
use Rattle.sew_one_links.proofs.one_links.faced.Goals as goal

pub returns-then-l3-eq0 : goal.returns-then-l3-eq0
returns-then-l3-eq0 c = faced_left _ _ _ _ c.beta_at-l3.ensures c.if-l3-eq0.true

pub returns-then-r3-eq0 : goal.returns-then-r3-eq0
returns-then-r3-eq0 c = faced_right _ _ _ _ c.beta_at-l3.ensures c.if-l3-eq0.false _ c.beta_at-r3.ensures c.if-r3-eq0.true

pub returns : goal.returns
returns c = faced_both _ _ _ _ c.beta_at-l3.ensures c.if-l3-eq0.false _ c.beta_at-r3.ensures c.if-r3-eq0.false
