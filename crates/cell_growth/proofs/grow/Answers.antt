-- `grow` meets its contract: a push, and then the walk of an edge, a volume by beta 1 and beta 2, or the search. Assumes nothing.
use mathlib.Core.Path.{sym, ap, ◌∙◌}
use Rattle.cell_steps.specs.declared.policy.OrbitPolicy.{OrbitPolicy}
use Rattle.cell_steps.specs.Steps.{steps_by}
use Rattle.cell_steps.proofs.ScratchLaws.{scratch_same}
use Rattle.cell_joins.proofs.PushLaws.{grown_there}
use Rattle.cell_joins.proofs.VolumeLaws.{not_ended}
use lib.Seq.{length-take-le}
use Rattle.cell_growth.proofs.GrowLaws.{grew_same, grew_flood, edge_new, grew_edge, grew_forward, grew_again}
use Rattle.cell_growth.proofs.grow.Goals as goal

pub returns-then-k-found : goal.returns-then-k-found
returns-then-k-found c = grew_same _ _ _ c.requires.2 _ _ c.requires.1.room _ _ _ c.meet-k.ensures c.if-k-found.true

pub join_edge-requires : goal.join_edge-requires
join_edge-requires c =
    let p = c.meet-k in
    let e = ap (λ (w : OrbitPolicy). steps_by w c.args.steps.codes.now) (sym c.in-Edge.is) ∙ c.args.steps.own in (
      scratch_same _ c.args.marks.now c.args.queue.now _ _ c.requires.0 p.auto.marks p.auto.queue,
      p.ensures.queue,
      c.requires.3,
      edge_new c.args.rows.list.now c.args.steps.codes.now c.args.d c.requires.2 c.args.queue.now c.args.found c.requires.1.room _ _ _ p.ensures
          c.if-k-found.false c.requires.4 e c.args.rows.formed c.requires.3 c.requires.1.norep,
    )

pub flood_forward-t-requires : goal.flood_forward-t-requires
flood_forward-t-requires c =
    let p = c.meet-k in (
      scratch_same _ c.args.marks.now c.args.queue.now _ _ c.requires.0 p.auto.marks p.auto.queue,
      p.ensures.queue,
      p.ensures.more,
      grown_there _ _ _ _ _ _ _ p.ensures c.requires.5,
    )

pub returns-then-t : goal.returns-then-t
returns-then-t c =
    let e = ap (λ (w : OrbitPolicy). steps_by w c.args.steps.codes.now) (sym c.in-Volume.is) ∙ c.args.steps.own in
    grew_again _ _ _ c.requires.2 _ _ c.requires.1.room _ _ _ c.meet-k.ensures c.if-k-found.false c.requires.4 c.args.rows.formed.below
    c.requires.3 _ c.requires.0.marks_n c.requires.1 c.args.rows.formed e _ _ _ c.flood_forward-t.ensures.0 _ _ _ c.flood.ensures

pub returns-in-Edge : goal.returns-in-Edge
returns-in-Edge c =
    let e = ap (λ (w : OrbitPolicy). steps_by w c.args.steps.codes.now) (sym c.in-Edge.is) ∙ c.args.steps.own in
    grew_edge _ _ _ c.requires.2 _ _ c.requires.1.room _ _ _ c.meet-k.ensures c.if-k-found.false c.requires.4 e c.args.rows.formed c.requires.3 _ _ _
    c.join_edge.ensures

pub returns-else-t : goal.returns-else-t
returns-else-t c =
    let t = c.flood_forward-t in
    let e = ap (λ (w : OrbitPolicy). steps_by w c.args.steps.codes.now) (sym c.in-Volume.is) ∙ c.args.steps.own in
    grew_forward _ _ _ c.requires.2 _ _ c.requires.1.room _ _ _ c.meet-k.ensures c.if-k-found.false c.requires.4 c.args.rows.formed.below
    c.requires.3 _ c.requires.0.marks_n c.requires.1 c.args.rows.formed e _ _ _ t.ensures.0
    (not_ended _ _ _ _ (length-take-le _ _ t.ensures.0.queue.room) (sym t.ensures.1 ∙ c.if-t.false))

pub returns-in_default : goal.returns-in_default
returns-in_default c =
    grew_flood _ _ _ c.requires.2 _ _ c.requires.1.room _ _ _ c.meet-k.ensures c.if-k-found.false c.requires.4 c.args.rows.formed.below
    c.requires.3 _ c.requires.0.marks_n c.requires.1 _ _ _ c.flood-in_default.ensures
