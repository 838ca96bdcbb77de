-- `put_map` meets its contract: its five lines one behind the other. Assumes nothing.
use native.Mathlib.Omega.{arith}
use Rattle.report_lines.proofs.LineLaws.{map_is, wiped_four, lists_over_lem}
use Rattle.map_betas.specs.Betas.{darts}
use Rattle.report_map.proofs.put_map.Goals as goal

pub returns-clause-marks_after : goal.returns-clause-marks_after
returns-clause-marks_after c =
    let rows = c.args.rows.list.now in
    let flags = c.args.flags.now in
    let n = darts rows in
    let a = c.put_class-v.ensures in
    let b = c.put_class-e.ensures in
    let d = c.put_class-f.ensures in
    let e = c.put_class.ensures in (
      wiped_four n _ _ _ _ _ a.marks_after.0 b.marks_after.0 d.marks_after.0 e.marks_after.0,
      wiped_four n _ _ _ _ _ a.marks_after.1 b.marks_after.1 d.marks_after.1 e.marks_after.1,
      lists_over_lem rows flags _ _ _ _ _ a.marks_after.2 b.marks_after.2 d.marks_after.2 e.marks_after.2,
    )

pub returns-clause-text_after : goal.returns-clause-text_after
returns-clause-text_after c =
    let rows = c.args.rows.list.now in
    let flags = c.args.flags.now in
    let n = darts rows in
    let u = c.count_used-used.ensures in
    let h = c.put_head-h.ensures in
    let a = c.put_class-v.ensures in
    let b = c.put_class-e.ensures in
    let d = c.put_class-f.ensures in
    let e = c.put_class.ensures in
    let lines =
    map_is rows flags _ _ _ _ _ _ _ _ _ _ _ _ _ c.args.rows.formed.sized.some c.requires.0 c.requires.5 c.darts-n.ensures u.0 u.1
    h.0 a.text_after.0 b.text_after.0 d.text_after.0 e.text_after.0 in (
      lines,
      omega (
        arith,
        h.1,
        a.text_after.1,
        b.text_after.1,
        d.text_after.1,
        e.text_after.1,
      ),
    )
