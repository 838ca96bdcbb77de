-- `own::test_dart` meets its contract, by the three cases of `proofs/DartLaws.antt`. Assumes nothing.
use Rattle.cell_faces.proofs.DartLaws.{apart, tested_old, tested_round, tested_walked}
use Rattle.cell_face_tests.proofs.own.test_dart.Goals as goal

pub returns-then-marks-d-ne0 : goal.returns-then-marks-d-ne0
returns-then-marks-d-ne0 c =
    tested_old c.args.rows.list.now c.args.rows.formed c.args.d c.requires.1 c.requires.2 c.args.marks.now c.args.queue.now c.args.known
    c.requires.0.marks_n c.requires.3 c.requires.4 c.if-marks-d-ne0.true

pub returns-then-is_regular : goal.returns-then-is_regular
returns-then-is_regular c =
    tested_round c.args.rows.list.now c.args.rows.formed c.args.d c.requires.1 c.requires.2 c.args.marks.now c.args.queue.now c.args.known
    c.requires.0.marks_n c.requires.3 c.requires.4 c.if-marks-d-ne0.false
    c.is_regular.result c.is_regular.ensures c.if-is_regular.true _ _ _ c.go_round-more.auto.marks
    c.go_round-more.ensures

pub walked_id-id-requires : goal.walked_id-id-requires
walked_id-id-requires c = (
  c.requires.0,
  c.requires.2,
  c.requires.3,
  apart c.args.rows.list.now c.args.rows.formed c.args.d c.requires.1 c.requires.2 c.args.marks.now c.args.queue.now c.args.known
      c.requires.0.marks_n c.requires.3 c.requires.4 c.if-marks-d-ne0.false,
)

pub returns : goal.returns
returns c =
    tested_walked c.args.rows.list.now c.args.rows.formed c.args.d c.requires.1 c.requires.2 c.args.marks.now c.args.queue.now c.args.known
    c.requires.0.marks_n c.requires.3 c.requires.4 c.if-marks-d-ne0.false
    c.is_regular.result c.is_regular.ensures c.if-is_regular.false _ _ _ c.walked_id-id.ensures
