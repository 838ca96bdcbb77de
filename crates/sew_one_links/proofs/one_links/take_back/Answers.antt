-- `one_links::take_back` meets its contract. Assumes nothing.
use native.Mathlib.Omega.{arith}
use Rattle.sew_ground.proofs.OneLaws.{formed_as, asks_unlink, cut_formed}
use Rattle.sew_one_links.proofs.one_links.take_back.Goals as goal

pub unlink_core-requires : goal.unlink_core-requires
unlink_core-requires c =
    asks_unlink _ 1 _ (formed_as _ _ c.cut_second.ensures (cut_formed _ _ _ c.requires.0).0) (omega arith) (omega arith)
    (omega (arith, c.requires.1, c.cut_second.auto.rows))
