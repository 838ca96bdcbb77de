-- `lines::put_class` meets its contract: wiped marks, the core on the first n of them, and the line of its list. Assumes nothing.
use Rattle.report_lines.proofs.LineLaws.{listed_count, class_is, class_next, class_fits}
use Rattle.report_lines.proofs.lines.put_class.Goals as goal

pub slice_bounds-put_line-end : goal.slice_bounds-put_line-end
slice_bounds-put_line-end c = listed_count _ _ _ _ c.cells_core-count.ensures.2

pub put_line-requires : goal.put_line-requires
put_line-requires c =
    class_fits c.args.name.now c.args.class c.args.rows.list.now c.args.flags.now _ _ _ _ _ c.args.rows.formed.sized.some
    c.requires.0 c.cells_core-count.ensures.2 c.requires.5

pub returns-clause-text_after : goal.returns-clause-text_after
returns-clause-text_after c = (
  class_is c.args.name.now c.args.class c.args.rows.list.now c.args.flags.now _ _ _ _ _ _ _
      c.cells_core-count.ensures.2 c.put_line.ensures,
  class_next c.args.name.now c.args.class c.args.rows.list.now c.args.flags.now _ _ _ _ c.args.rows.formed.sized.some
      c.requires.0 (class_is c.args.name.now c.args.class c.args.rows.list.now c.args.flags.now _ _ _ _ _ _ _
      c.cells_core-count.ensures.2 c.put_line.ensures),
)
