-- `list::faces_core` meets its contract, by the invariant `Keeping`. Assumes nothing.
use Rattle.cell_faces.proofs.KeepingLaws.{Keeping}
use Rattle.cell_face_lists.proofs.list.faces_core.Given as goal

abbrev pub invariant-loop-d : goal.invariant-loop-d
invariant-loop-d l = Keeping l.rows.list.now l.flags l.initial.marks l.initial.queue l.initial.output l.marks l.queue l.output l.known l.count l.d
