-- `orbits::custom_test` meets its contract: the test of the betas from a place on is the whole test. Assumes nothing.
use mathlib.Core.Path.{refl, sym, ◌∙◌}
use Rattle.cell_steps.proofs.CallLaws.{custom_hit, custom_miss, custom_end}
use Rattle.cell_orbits.proofs.orbits.custom_test.Goals as goal

pub returns-then-b-gt3 : goal.returns-then-b-gt3
returns-then-b-gt3 c =
    rw c.from.ensures (custom_hit _ c.loop-b.b-index _ c.loop-b-test.true refl c.if-b-gt3.true ∙ c.loop-b.invariant)

pub loop-b-preserved : goal.loop-b-preserved
loop-b-preserved c = sym (custom_miss _ c.loop-b.b-index _ c.loop-b-test.true refl c.if-b-gt3.false) ∙ c.loop-b.invariant

pub returns : goal.returns
returns c = custom_end _ c.loop-b.b-index c.loop-b-test.false ∙ c.loop-b.invariant
