-- `rounds::go_round` meets its contract, by the invariant `Rounding`; the steps ahead are fewer with each turn. Assumes nothing.
use Rattle.cell_faces.proofs.RoundLaws.{rounding_starts, rounding_ends, rounding_null, rounding_falls, rounding_turn}
use Rattle.cell_rounds.proofs.rounds.go_round.Goals as goal

pub loop-x-init : goal.loop-x-init
loop-x-init c = rounding_starts _ c.args.rows.formed _ _ _ _ c.requires.2 c.requires.1

pub returns-then-x-d : goal.returns-then-x-d
returns-then-x-d c =
    rounding_ends _ c.args.rows.formed _ _ _ _ _ _ _ _ c.loop-x.invariant _ c.beta.ensures _ _ _ c.push-a.ensures _ _ _
    c.push-k.ensures
    _ c.beta-x.ensures c.if-x-d.true

pub returns-then-x-eq0 : goal.returns-then-x-eq0
returns-then-x-eq0 c =
    rounding_null _ c.args.rows.formed _ _ _ _ _ _ _ _ c.loop-x.invariant _ c.beta.ensures _ _ _ c.push-a.ensures _ _ _
    c.push-k.ensures
    _ c.beta-x.ensures c.if-x-d.false c.if-x-eq0.true

pub loop-x-smaller : goal.loop-x-smaller
loop-x-smaller c =
    rounding_falls _ c.args.rows.formed _ _ _ _ _ _ _ _ c.loop-x.invariant _ c.beta.ensures _ _ _ c.push-a.ensures _ _ _
    c.push-k.ensures
    _ c.beta-x.ensures c.if-x-d.false c.if-x-eq0.false

pub loop-x-preserved : goal.loop-x-preserved
loop-x-preserved c =
    rounding_turn _ c.args.rows.formed _ _ _ _ _ _ _ _ c.loop-x.invariant _ c.beta.ensures _ _ _ c.push-a.ensures _ _ _
    c.push-k.ensures
    _ c.beta-x.ensures c.if-x-d.false c.if-x-eq0.false
    c.push-a.auto.marks c.push-a.auto.out c.push-k.auto.marks c.push-k.auto.out
