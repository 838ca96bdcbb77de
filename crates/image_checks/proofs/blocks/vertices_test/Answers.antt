-- `blocks::vertices_test` meets its contract: each return is one of the cases of `vertices_test`. Assumes nothing.
use mathlib.Core.Path.{sym, ◌∙◌}
use Rattle.image_form.proofs.VertexLaws.{vertices_bad, vertices_pass}
use Rattle.image_checks.proofs.blocks.vertices_test.Goals as goal

pub returns-then-not-records_good : goal.returns-then-not-records_good
returns-then-not-records_good c = vertices_bad _ _ _ _ c.vertex_offset.ensures (sym c.records_good.ensures ∙ c.if-not-records_good.true)

pub returns : goal.returns
returns c = vertices_pass _ _ _ _ c.vertex_offset.ensures (sym c.records_good.ensures ∙ c.if-not-records_good.false)
