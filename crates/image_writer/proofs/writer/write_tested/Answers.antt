-- `writer::write_tested` meets its contract: the image where it fits, else how long it is. Assumes nothing.
use native.Mathlib.Omega.{arith}
use Rattle.image_writer.proofs.WriteLaws.{total_is, room_short, room_enough}
use Rattle.image_writer.proofs.writer.write_tested.Goals as goal

pub returns-then-bytes-total : goal.returns-then-bytes-total
returns-then-bytes-total c =
    let args = c.args in
    room_short _ _ _
    (total_is args.rows.now args.flags.now args.vertices.now args.coordinates.now c.requires _ _
    c.total_bytes-total.ensures c.count_points-v.ensures.0) c.if-bytes-total.true

pub put_image-requires : goal.put_image-requires
put_image-requires c =
    let args = c.args in
    let t = total_is args.rows.now args.flags.now args.vertices.now args.coordinates.now c.requires _ _
    c.total_bytes-total.ensures c.count_points-v.ensures.0 in
    (c.requires, c.count_points-v.ensures.0, omega (arith, t, c.if-bytes-total.false))

pub returns : goal.returns
returns c =
    let args = c.args in
    room_enough _ _ _
    (total_is args.rows.now args.flags.now args.vertices.now args.coordinates.now c.requires _ _
    c.total_bytes-total.ensures c.count_points-v.ensures.0) c.if-bytes-total.false _
    c.put_image.ensures
