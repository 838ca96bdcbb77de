-- `steps::image` meets its contract: a step by one beta, or by two. Assumes nothing.
use Rattle.cell_steps.proofs.StepLaws.{image_one, image_two}
use Rattle.cell_scratch.proofs.steps.image.Goals as goal

pub returns-then-s-lt16 : goal.returns-then-s-lt16
returns-then-s-lt16 c =
    rw (← c.from-s.ensures) (image_one c.args.rows.list.now c.from-s.result c.args.d _ c.if-s-lt16.true c.beta.ensures)

pub returns : goal.returns
returns c =
    rw (← c.from-s.ensures)
    (image_two c.args.rows.list.now c.from-s.result c.args.d _ _ c.if-s-lt16.false c.beta-m.ensures c.beta-2.ensures)
