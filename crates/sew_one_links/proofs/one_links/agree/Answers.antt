-- `one_links::agree` meets its contract. Assumes nothing.
use Rattle.sew_ground.proofs.OneLaws.{not_faced, are_faced, agrees_one, agrees_two}
use Rattle.sew_one_links.proofs.one_links.agree.Goals as goal

pub returns-in-Some : goal.returns-in-Some
returns-in-Some c =
    let f = are_faced _ _ _ _ c.faced.ensures _ _ c.in-Some.is in
    agrees_two _ _ _ _ _ _ f.0 f.2 c.beta_at.ensures f.1

pub returns-in-None : goal.returns-in-None
returns-in-None c = agrees_one _ _ _ (not_faced _ _ _ _ c.faced.ensures c.in-None.is)
