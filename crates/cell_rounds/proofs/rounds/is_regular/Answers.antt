-- `rounds::is_regular` meets its contract: from x on with turns enough the test is the whole test, and the steps ahead are fewer with each turn.
-- Assumes nothing.
use Rattle.cell_faces.proofs.DartLaws.{testing_starts, test_null, test_across, test_round, test_falls, test_on}
use Rattle.cell_rounds.proofs.rounds.is_regular.Goals as goal

pub loop-d-init : goal.loop-d-init
loop-d-init c = testing_starts _ c.args.rows.formed _ c.requires

pub returns-then-y-eq0 : goal.returns-then-y-eq0
returns-then-y-eq0 c = test_null c.args.rows.list.now c.args.rows.formed c.args.d c.loop-d.x c.loop-d.invariant _ c.beta-y.ensures c.if-y-eq0.true

pub returns-then-beta : goal.returns-then-beta
returns-then-beta c =
    test_across c.args.rows.list.now c.args.rows.formed c.args.d c.loop-d.x c.loop-d.invariant _ c.beta-y.ensures
    c.if-y-eq0.false _ _ _ c.beta-t.ensures c.beta.ensures c.beta-in-loop-d.ensures
    c.if-beta.true

pub returns-then-y-d : goal.returns-then-y-d
returns-then-y-d c =
    test_round c.args.rows.list.now c.args.rows.formed c.args.d c.loop-d.x c.loop-d.invariant _ c.beta-y.ensures
    c.if-y-eq0.false _ _ _ c.beta-t.ensures c.beta.ensures c.beta-in-loop-d.ensures
    c.if-beta.false c.if-y-d.true

pub loop-d-smaller : goal.loop-d-smaller
loop-d-smaller c =
    test_falls c.args.rows.list.now c.args.rows.formed c.args.d c.loop-d.x c.loop-d.invariant _ c.beta-y.ensures
    c.if-y-eq0.false _ _ _ c.beta-t.ensures c.beta.ensures c.beta-in-loop-d.ensures
    c.if-beta.false c.if-y-d.false

pub loop-d-preserved : goal.loop-d-preserved
loop-d-preserved c =
    test_on c.args.rows.list.now c.args.rows.formed c.args.d c.loop-d.x c.loop-d.invariant _ c.beta-y.ensures
    c.if-y-eq0.false _ _ _ c.beta-t.ensures c.beta.ensures c.beta-in-loop-d.ensures
    c.if-beta.false c.if-y-d.false
