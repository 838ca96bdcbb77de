-- `one_links::put_second` meets its contract. Assumes nothing.
use Rattle.sew_ground.proofs.OneLaws.{not_faced, are_faced, put_no, put_some}
use Rattle.sew_one_links.proofs.one_links.put_second.Goals as goal

pub returns-in_default : goal.returns-in_default
returns-in_default c = put_no _ _ _ (not_faced _ _ _ _ c.faced.ensures c.in_default.is)

pub returns : goal.returns
returns c =
    let f = are_faced _ _ _ _ c.faced.ensures _ _ c.in-Some.is in
    put_some _ _ _ _ _ _ _ f.0 f.2 f.1 c.link_core.ensures
