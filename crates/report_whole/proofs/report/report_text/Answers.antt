-- `report::report_text` meets its contract: a refusal's line, or the lines of the map that the reader has left. Assumes nothing.
use mathlib.Core.Path.{ap, ◌∙◌}
use native.Mathlib.Omega.{arith}
use Rattle.map_betas.specs.declared.error.Told.{Told}
use Rattle.report_lines.specs.Report.{told_line}
use Rattle.report_text.specs.Texts.{lay}
use Rattle.report_lines.proofs.ReportLaws.{more_is, refused_is, fit, darts_are, formed, rows_n, flags_n, report_is, left_more, left_refused, left_done}
use Rattle.report_whole.proofs.report.report_text.Goals as goal

pub returns-then-more-clause-output_after : goal.returns-then-more-clause-output_after
returns-then-more-clause-output_after c =
    left_more c.args.bytes.now c.args.more c.if-more.true _ _ _ _ _ _ _

pub returns-then-more-clause-text_after : goal.returns-then-more-clause-text_after
returns-then-more-clause-text_after c = (
  c.put_refusal.ensures.0 ∙ ap (λ (t : Told). lay c.args.text.now 0 (told_line t)) c.from.ensures
      ∙ ap (lay c.args.text.now 0) (more_is c.args.bytes.now c.args.more c.if-more.true),
  omega (arith, c.put_refusal.ensures.1),
)

pub returns-in-Err-clause-text_after : goal.returns-in-Err-clause-text_after
returns-in-Err-clause-text_after c = (
  c.put_refusal-in-Err.ensures.0 ∙ ap (λ (t : Told). lay c.args.text.now 0 (told_line t)) c.from-in-Err.ensures
      ∙ ap (lay c.args.text.now 0)
      (refused_is _ _ _ _ _ c.requires.0 c.requires.1 c.requires.2 c.requires.3 _ _ _ _ _ c.read_within.ensures c.in-Err.is c.args.more c.if-more.false),
  omega (arith, c.put_refusal-in-Err.ensures.1),
)

pub returns-in-Err-clause-output_after : goal.returns-in-Err-clause-output_after
returns-in-Err-clause-output_after c =
    left_refused _ _ _ _ _ c.requires.0 c.requires.1 c.requires.2 c.requires.3 _ _ _ _ _ c.read_within.ensures c.in-Err.is c.args.more c.if-more.false _ _ _

pub overflow_mul-map : goal.overflow_mul-map
overflow_mul-map c =
    let d = darts_are _ _ _ _ _ c.requires.0 c.requires.1 c.requires.2 c.requires.3 _ _ _ _ _ c.read_within.ensures c.in-Ok.is in
    let f = fit _ _ _ _ _ c.requires.0 c.requires.1 c.requires.2 c.requires.3 _ _ _ _ _ c.read_within.ensures c.in-Ok.is in
    omega (arith, f.image.header.few)

pub slice_bounds-map-end : goal.slice_bounds-map-end
slice_bounds-map-end c =
    let d = darts_are _ _ _ _ _ c.requires.0 c.requires.1 c.requires.2 c.requires.3 _ _ _ _ _ c.read_within.ensures c.in-Ok.is in
    let f = fit _ _ _ _ _ c.requires.0 c.requires.1 c.requires.2 c.requires.3 _ _ _ _ _ c.read_within.ensures c.in-Ok.is in
    omega (arith, f.row_room, c.read_within.auto.rows)

pub slice_bounds-map-end-in-Ok : goal.slice_bounds-map-end-in-Ok
slice_bounds-map-end-in-Ok c =
    let d = darts_are _ _ _ _ _ c.requires.0 c.requires.1 c.requires.2 c.requires.3 _ _ _ _ _ c.read_within.ensures c.in-Ok.is in
    let r = rows_n _ _ _ _ _ c.requires.0 c.requires.1 c.requires.2 c.requires.3 _ _ _ _ _ c.read_within.ensures c.in-Ok.is _ d in
    omega arith

pub slice_bounds-put_map-end : goal.slice_bounds-put_map-end
slice_bounds-put_map-end c =
    let d = darts_are _ _ _ _ _ c.requires.0 c.requires.1 c.requires.2 c.requires.3 _ _ _ _ _ c.read_within.ensures c.in-Ok.is in
    let f = fit _ _ _ _ _ c.requires.0 c.requires.1 c.requires.2 c.requires.3 _ _ _ _ _ c.read_within.ensures c.in-Ok.is in
    omega (arith, f.flag_room, c.read_within.auto.flags)

pub slice_bounds-put_map-end-in-Ok : goal.slice_bounds-put_map-end-in-Ok
slice_bounds-put_map-end-in-Ok c =
    let d = darts_are _ _ _ _ _ c.requires.0 c.requires.1 c.requires.2 c.requires.3 _ _ _ _ _ c.read_within.ensures c.in-Ok.is in
    let r = flags_n _ _ _ _ _ c.requires.0 c.requires.1 c.requires.2 c.requires.3 _ _ _ _ _ c.read_within.ensures c.in-Ok.is _ d in
    omega arith

pub invariant_of-map : goal.invariant_of-map
invariant_of-map c =
    let d = darts_are _ _ _ _ _ c.requires.0 c.requires.1 c.requires.2 c.requires.3 _ _ _ _ _ c.read_within.ensures c.in-Ok.is in
    record { formed = formed _ _ _ _ _ c.requires.0 c.requires.1 c.requires.2 c.requires.3 _ _ _ _ _ c.read_within.ensures c.in-Ok.is _ d }

pub put_map-requires : goal.put_map-requires
put_map-requires c =
    let d = darts_are _ _ _ _ _ c.requires.0 c.requires.1 c.requires.2 c.requires.3 _ _ _ _ _ c.read_within.ensures c.in-Ok.is in
    let f = fit _ _ _ _ _ c.requires.0 c.requires.1 c.requires.2 c.requires.3 _ _ _ _ _ c.read_within.ensures c.in-Ok.is in
    let r = rows_n _ _ _ _ _ c.requires.0 c.requires.1 c.requires.2 c.requires.3 _ _ _ _ _ c.read_within.ensures c.in-Ok.is _ d in
    let g = flags_n _ _ _ _ _ c.requires.0 c.requires.1 c.requires.2 c.requires.3 _ _ _ _ _ c.read_within.ensures c.in-Ok.is _ d in (
      omega (arith, f.image.header.few),
      c.requires.4,
      omega (arith, c.requires.5, c.requires.6),
      omega (arith, c.requires.5, c.requires.6),
      omega arith,
      c.requires.7,
    )

pub returns-in-Ok-clause-text_after : goal.returns-in-Ok-clause-text_after
returns-in-Ok-clause-text_after c =
    let d = darts_are _ _ _ _ _ c.requires.0 c.requires.1 c.requires.2 c.requires.3 _ _ _ _ _ c.read_within.ensures c.in-Ok.is in (
      c.put_map.ensures.text_after.0 ∙ ap (lay c.args.text.now 0)
          (report_is _ _ _ _ _ c.requires.0 c.requires.1 c.requires.2 c.requires.3 _ _ _ _ _ c.read_within.ensures c.in-Ok.is c.args.more
          c.if-more.false _ d),
      c.put_map.ensures.text_after.1,
    )

pub returns-in-Ok-clause-output_after : goal.returns-in-Ok-clause-output_after
returns-in-Ok-clause-output_after c =
    let d = darts_are _ _ _ _ _ c.requires.0 c.requires.1 c.requires.2 c.requires.3 _ _ _ _ _ c.read_within.ensures c.in-Ok.is in
    let l = c.put_map.ensures.marks_after in
    left_done _ _ _ _ _ c.requires.0 c.requires.1 c.requires.2 c.requires.3 _ _ _ _ _ c.read_within.ensures c.in-Ok.is c.args.more c.if-more.false _
    d _ _ _ _ _ _ l.0 l.1 l.2
