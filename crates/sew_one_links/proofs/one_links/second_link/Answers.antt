-- `one_links::second_link` meets its contract. Assumes nothing.
use native.Mathlib.Omega.{arith}
use Rattle.sew_ground.proofs.OneLaws.{erred, formed_as, asks_unlink, rows_refused, second_refused}
use Rattle.sew_one_links.proofs.one_links.second_link.Goals as goal

pub unlink_core-requires : goal.unlink_core-requires
unlink_core-requires c =
    asks_unlink _ 1 _ (formed_as _ _ (rows_refused _ _ _ _ _ _ c.link_core-linked.ensures
    (erred _ _ c.is_err.ensures.value c.if-is_err.true)) c.requires.0)
    (omega arith) (omega arith) (omega (arith, c.requires.1, c.link_core-linked.auto.rows))

pub returns-then-is_err : goal.returns-then-is_err
returns-then-is_err c =
    second_refused _ _ _ _ _ _ c.link_core-linked.ensures _ _ (erred _ _ c.is_err.ensures.value c.if-is_err.true) c.unlink_core.ensures
