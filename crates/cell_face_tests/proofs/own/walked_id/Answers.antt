-- `own::walked_id` meets its contract: the walk, and what it added unmarked. Assumes nothing.
use mathlib.Core.Path.{◌∙◌}
use Rattle.cell_faces.proofs.DartLaws.{walked_id, walked_below}
use Rattle.cell_face_tests.proofs.own.walked_id.Goals as goal

pub clear-requires : goal.clear-requires
clear-requires c =
    walked_below c.args.rows.list.now c.args.rows.formed c.args.d c.args.queue.now c.args.known c.requires.2.room c.requires.3 _ _ _ _ _ _
    c.walk-w.ensures

pub returns : goal.returns
returns c =
    let g = c.walk-w in
    walked_id c.args.rows.list.now c.args.rows.formed c.args.d c.args.queue.now c.args.known c.requires.2.room c.requires.3 _ _ _ _ _ _
    g.ensures
    (g.auto.marks ∙ c.requires.0.marks_n) _ c.clear.auto.marks c.clear.ensures
