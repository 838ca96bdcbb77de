-- `reader::read_within` meets its contract: a refusal before anything is written, else the four loans one after the other. Assumes nothing.
use native.Mathlib.Omega.{arith}
use Prim.Native.Nat.{◌*◌}
use mathlib.Core.Path.{sym}
use lib.Seq.{length-take-le}
use Rattle.image_reader.proofs.Accepted.{accepted}
use Rattle.image_reader.proofs.ReadLaws.{sound_read, flags_copied, rows_copied, read_refused, read_done}
use Rattle.image_reader.proofs.reader.read_within.Goals as goal

pub returns-in_err-image_test : goal.returns-in_err-image_test
returns-in_err-image_test c =
    read_refused _ _ _ _ _ _ c.reader_loans-loans.ensures c.image_test.ensures _ c.in_err-image_test.was c.from_residual.ensures.1

pub darts_of-n-requires : goal.darts_of-n-requires
darts_of-n-requires c =
    let f = accepted _ _ _ _ _ _ c.requires c.reader_loans-loans.ensures c.image_test.ensures c.in_ok-image_test.was in
    (omega (arith, f.image.header.whole), omega (arith, f.image.header.few))

pub slice_bounds-copy_bytes-end : goal.slice_bounds-copy_bytes-end
slice_bounds-copy_bytes-end c = omega (arith, c.darts_of-n.ensures, (accepted _ _ _ _ _ _ c.requires c.reader_loans-loans.ensures c.image_test.ensures c.in_ok-image_test.was).flag_room)

pub slice_bounds-copy_bytes-end-2 : goal.slice_bounds-copy_bytes-end-2
slice_bounds-copy_bytes-end-2 c =
    sym (length-take-le c.darts_of-n.result.number c.args.flags.now (omega (arith, c.darts_of-n.ensures, (accepted _ _ _ _ _ _ c.requires c.reader_loans-loans.ensures c.image_test.ensures c.in_ok-image_test.was).flag_room)))

pub copy_bytes-requires : goal.copy_bytes-requires
copy_bytes-requires c =
    let f = accepted _ _ _ _ _ _ c.requires c.reader_loans-loans.ensures c.image_test.ensures c.in_ok-image_test.was in
    omega (
      arith,
      c.darts_of-n.ensures,
      c.flag_offset.ensures,
      f.image.header.fits,
      length-take-le c.darts_of-n.result.number c.args.flags.now
          (omega (arith, c.darts_of-n.ensures, f.flag_room)),
    )

pub word_at-requires : goal.word_at-requires
word_at-requires c =
    omega (arith, (accepted _ _ _ _ _ _ c.requires c.reader_loans-loans.ensures c.image_test.ensures c.in_ok-image_test.was).image.header.whole)

pub fill_slots-requires : goal.fill_slots-requires
fill_slots-requires c =
    let f = accepted _ _ _ _ _ _ c.requires c.reader_loans-loans.ensures c.image_test.ensures c.in_ok-image_test.was in (
      omega (arith, c.darts_of-n.ensures, c.word_at.ensures, f.image.header.fits),
      sound_read _ _ _ c.darts_of-n.ensures c.word_at.ensures f.image.vertices,
      omega (arith, c.darts_of-n.ensures, f.mark_room),
      omega (arith, c.darts_of-n.ensures, f.coordinate_room),
    )

pub slice_bounds-copy_words-end : goal.slice_bounds-copy_words-end
slice_bounds-copy_words-end c = omega (arith, c.darts_of-n.ensures, (accepted _ _ _ _ _ _ c.requires c.reader_loans-loans.ensures c.image_test.ensures c.in_ok-image_test.was).row_room)

pub slice_bounds-copy_words-end-2 : goal.slice_bounds-copy_words-end-2
slice_bounds-copy_words-end-2 c =
    sym (length-take-le (4 * c.darts_of-n.result.number) c.args.rows.now (omega (arith, c.darts_of-n.ensures, (accepted _ _ _ _ _ _ c.requires c.reader_loans-loans.ensures c.image_test.ensures c.in_ok-image_test.was).row_room)))

pub copy_words-requires : goal.copy_words-requires
copy_words-requires c =
    let f = accepted _ _ _ _ _ _ c.requires c.reader_loans-loans.ensures c.image_test.ensures c.in_ok-image_test.was in
    omega (
      arith,
      c.darts_of-n.ensures,
      f.image.header.fits,
      length-take-le (4 * c.darts_of-n.result.number) c.args.rows.now
          (omega (arith, c.darts_of-n.ensures, f.row_room)),
    )

pub returns : goal.returns
returns c =
    let f = accepted _ _ _ _ _ _ c.requires c.reader_loans-loans.ensures c.image_test.ensures c.in_ok-image_test.was in
    read_done _ _ _ _ _ _ c.reader_loans-loans.ensures c.image_test.ensures c.in_ok-image_test.was _ _ _ _ _ _
    c.darts_of-n.ensures c.word_at.ensures
    (flags_copied c.args.bytes.now c.args.flags.now _ (omega (arith, c.darts_of-n.ensures, f.flag_room)) c.flag_offset.ensures c.copy_bytes.ensures)
    c.fill_slots.ensures
    (rows_copied c.args.bytes.now c.args.rows.now _ (omega (arith, c.darts_of-n.ensures, f.row_room)) c.copy_words.ensures)
