-- `writer::put_image` meets its contract: four blocks, each at its place. Assumes nothing.
use native.Mathlib.Omega.{arith}
use Rattle.image_writer.proofs.WriteLaws.{image_laid, sizes, fits}
use Rattle.image_writer.proofs.writer.put_image.Goals as goal

pub put_header-requires : goal.put_header-requires
put_header-requires c =
    let s = sizes _ _ _ _ c.requires.0 in
    let f = fits _ _ _ _ c.requires.0 _ c.requires.2 in
    (omega (arith, f.0), omega (arith, s.3, c.requires.1))

pub put_words-requires : goal.put_words-requires
put_words-requires c =
    let f = fits _ _ _ _ c.requires.0 _ c.requires.2 in
    omega (arith, f.1)

pub put_flags-requires : goal.put_flags-requires
put_flags-requires c =
    let f = fits _ _ _ _ c.requires.0 _ c.requires.2 in
    (omega (arith, f.2, c.flag_offset.ensures), c.requires.0.map.flagged)

pub put_points-requires : goal.put_points-requires
put_points-requires c =
    let s = sizes _ _ _ _ c.requires.0 in
    let f = fits _ _ _ _ c.requires.0 _ c.requires.2 in (
      s.0,
      c.requires.0.mark_room,
      c.requires.0.coordinate_room,
      omega (arith, f.3, c.vertex_offset.ensures),
      c.requires.0.finite,
    )

pub returns : goal.returns
returns c =
    let args = c.args in
    image_laid args.rows.now args.flags.now args.vertices.now args.coordinates.now c.requires.0 _ _ _ _ _ _ _ _
    c.requires.1
    c.flag_offset.ensures c.vertex_offset.ensures c.put_header.ensures
    c.put_words.ensures c.put_flags.ensures c.put_points.ensures
