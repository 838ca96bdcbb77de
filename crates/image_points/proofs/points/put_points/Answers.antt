-- `points::put_points` meets its contract. The loop's invariant: the records so far are laid. Assumes nothing.
use mathlib.Core.Path.{◌∙◌}
use Prim.Native.Nat.{◌-◌}
use native.Mathlib.Omega.{arith}
use Rattle.image_blocks.proofs.PointLaws.{finite_at}
use Rattle.image_blocks.proofs.LaidLaws.{points_none, points_begin, points_room, points_place, points_step}
use Rattle.image_points.proofs.points.put_points.Goals as goal

pub loop-d-init : goal.loop-d-init
loop-d-init c = (points_begin _ _, points_none _ _ _ _)

pub put_point-at-requires : goal.put_point-at-requires
put_point-at-requires c =
    let args = c.args in (
      points_room args.vertices.now args.coordinates.now args.n.number c.loop-d.d args.from c.loop-d.at (omega arith) (omega arith) c.loop-d.invariant.0 _
          (rw c.loop-d.auto.bytes c.requires.3),
      omega arith,
      omega arith,
      omega arith,
      finite_at args.vertices.now args.coordinates.now (args.n.number - 1) 1 c.loop-d.d c.requires.4 (omega arith) (omega arith),
    )

pub loop-d-preserved : goal.loop-d-preserved
loop-d-preserved c =
    let args = c.args in (
      c.put_point-at.ensures.1
          ∙ points_place args.vertices.now args.coordinates.now args.n.number c.loop-d.d args.from c.loop-d.at (omega arith) (omega arith) c.loop-d.invariant.0,
      points_step args.vertices.now args.coordinates.now args.n.number c.loop-d.d args.from c.loop-d.at (omega arith) (omega arith) c.loop-d.invariant.0
          _ _ _ c.loop-d.invariant.1 c.put_point-at.ensures.0,
    )
