-- `volumes::visit_forward` meets its contract: a push of each image. Assumes nothing.
use native.Mathlib.Omega.{arith}
use Rattle.cell_joins.proofs.PushLaws.{grown_there}
use Rattle.cell_joins.proofs.VolumeLaws.{visited_forward}
use Rattle.cell_joins.proofs.volumes.visit_forward.Goals as goal

pub meet-requires : goal.meet-requires
meet-requires c =
    let p = c.meet-k in (
      p.ensures.queue,
      rw c.beta-y.ensures (omega (arith, c.requires.0.marks_n, p.auto.marks, c.args.rows.formed.below 2 c.args.d)),
      omega (arith, p.auto.marks, p.auto.queue, c.requires.0.marks_n, c.requires.0.queue_n),
      grown_there _ _ _ _ _ _ _ p.ensures c.requires.3,
    )

pub returns : goal.returns
returns c = visited_forward _ _ _ _ _ _ c.beta-x.ensures c.beta-y.ensures _ _ _ c.meet-k.ensures _ _ _ c.meet.ensures
