-- `header::layout_test` meets its contract: each return is one of the cases of `layout_test`. Assumes nothing.
use native.Mathlib.Omega.{arith}
use Rattle.image_form.proofs.HeaderLaws.{layout_none, layout_many, layout_rows, layout_flags, layout_vertices, layout_total, layout_records, layout_pass}
use Rattle.image_header.proofs.header.layout_test.Goals as goal

pub returns-then-n-lt1 : goal.returns-then-n-lt1
returns-then-n-lt1 c = layout_none _ _ (omega arith)

pub returns-then-most-n : goal.returns-then-most-n
returns-then-most-n c = layout_many _ _ (omega arith) (omega arith)

pub returns-then-word_at-ne-ROW_OFFSET : goal.returns-then-word_at-ne-ROW_OFFSET
returns-then-word_at-ne-ROW_OFFSET c = layout_rows _ _ (omega arith) (omega arith) (omega arith)

pub returns-then-word_at-flag_offset : goal.returns-then-word_at-flag_offset
returns-then-word_at-flag_offset c = layout_flags _ _ (omega arith) (omega arith) (omega arith) (omega arith)

pub returns-then-n-v : goal.returns-then-n-v
returns-then-n-v c = layout_vertices _ _ (omega arith) (omega arith) (omega arith) (omega arith) (omega arith)

pub returns-then-bytes-total_bytes : goal.returns-then-bytes-total_bytes
returns-then-bytes-total_bytes c = layout_total _ _ (omega arith) (omega arith) (omega arith) (omega arith) (omega arith) (omega arith)

pub returns-then-word_at-vertex_offset : goal.returns-then-word_at-vertex_offset
returns-then-word_at-vertex_offset c = layout_records _ _ (omega arith) (omega arith) (omega arith) (omega arith) (omega arith) (omega arith) (omega arith)

pub returns : goal.returns
returns c = layout_pass _ _ (omega arith) (omega arith) (omega arith) (omega arith) (omega arith) (omega arith) (omega arith)
