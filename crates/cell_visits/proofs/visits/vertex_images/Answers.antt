-- `visits::vertex_images` meets its contract. Assumes nothing.
use mathlib.Core.Path.{ap, ◌∙◌}
use Rattle.map_betas.specs.Betas.{beta}
use Rattle.cell_steps.specs.Steps.{image}
use Rattle.cell_visits.proofs.visits.vertex_images.Goals as goal

pub returns : goal.returns
unfolding image
returns c = (
  c.beta-b12.ensures ∙ ap (beta c.args.rows.list.now 1) c.beta-b2.ensures,
  c.beta-b20.ensures ∙ ap (beta c.args.rows.list.now 2) c.beta-b0.ensures,
  c.beta-b13.ensures ∙ ap (beta c.args.rows.list.now 1) c.beta-b3.ensures,
  c.beta-b30.ensures ∙ ap (beta c.args.rows.list.now 3) c.beta-b0.ensures,
  c.beta-b23.ensures ∙ ap (beta c.args.rows.list.now 2) c.beta-b3.ensures,
  c.beta-b32.ensures ∙ ap (beta c.args.rows.list.now 3) c.beta-b2.ensures,
)
