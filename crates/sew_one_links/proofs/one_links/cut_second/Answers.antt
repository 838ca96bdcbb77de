-- `one_links::cut_second` meets its contract. Assumes nothing.
use Rattle.sew_ground.proofs.OneLaws.{not_faced, are_faced, cut_none, cut_some}
use Rattle.sew_one_links.proofs.one_links.cut_second.Goals as goal

pub returns-in_default : goal.returns-in_default
returns-in_default c = cut_none _ _ _ (not_faced _ _ _ _ c.faced.ensures c.in_default.is)

pub returns : goal.returns
returns c =
    let f = are_faced _ _ _ _ c.faced.ensures _ _ c.in-Some.is in
    cut_some _ _ _ _ _ _ f.0 f.2 c.unlink_core.ensures
