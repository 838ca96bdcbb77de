-- `walk::insert` meets its contract: a push of l, and where that changes nothing one of r. Assumes nothing.
use Rattle.cell_faces.proofs.LegLaws.{inserted_left, inserted_right}
use Rattle.cell_faces.proofs.walk.insert.Goals as goal

pub returns-then-k-a : goal.returns-then-k-a
returns-then-k-a c = inserted_left c.args.queue.now c.args.k c.args.l c.args.r c.requires.0.room _ _ _ c.push-a.ensures c.if-k-a.true

pub returns : goal.returns
returns c =
    inserted_right c.args.queue.now c.args.k c.args.l c.args.r c.requires.0.room _ _ _ c.push-a.ensures c.if-k-a.false _ _ _
    c.push.ensures
