-- `pairs::far_of` meets its contract. Assumes nothing.
use Rattle.sew_pairs.proofs.PairLaws.{far_is, far_below}
use Rattle.sew_pairs.proofs.pairs.far_of.Goals as goal

pub returns : goal.returns
returns c =
    let e = far_is _ _ _ _ _ c.beta.ensures c.beta-2.ensures c.max.ensures in
    (e, rw e (far_below _ _ c.args.rows.formed))
