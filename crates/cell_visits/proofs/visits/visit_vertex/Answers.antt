-- `visits::visit_vertex` meets its contract, image by image. Assumes nothing.
use mathlib.Core.Path.{refl, ◌∙◌}
use native.Mathlib.Omega.{arith}
use Rattle.cell_steps.specs.Steps.{vertex}
use Rattle.cell_steps.proofs.TurnLaws.{visiting_starts, visiting_turn, visiting_ends}
use Rattle.cell_steps.proofs.VisitLaws.{image_room}
use Rattle.cell_visits.proofs.visits.visit_vertex.Goals as goal

pub push-k1-requires : goal.push-k1-requires
push-k1-requires c =
    let r = image_room c.args.rows.formed c.requires.0 _ _ refl refl 18 c.args.d _ c.vertex_images-a.ensures.0 in
    (c.requires.1, r.0, r.1)

pub push-k2-requires : goal.push-k2-requires
push-k2-requires c =
    let r = image_room c.args.rows.formed c.requires.0 _ _ c.push-k1.auto.marks c.push-k1.auto.out 32 c.args.d _ c.vertex_images-a.ensures.1 in
    (c.push-k1.ensures.queue, r.0, r.1)

pub push-k3-requires : goal.push-k3-requires
push-k3-requires c =
    let r = image_room c.args.rows.formed c.requires.0 _ _ (c.push-k2.auto.marks ∙ c.push-k1.auto.marks) (c.push-k2.auto.out ∙ c.push-k1.auto.out)
    19 c.args.d _ c.vertex_images-a.ensures.2 in
    (c.push-k2.ensures.queue, r.0, r.1)

pub push-k4-requires : goal.push-k4-requires
push-k4-requires c =
    let r = image_room c.args.rows.formed c.requires.0 _ _ (c.push-k3.auto.marks ∙ c.push-k2.auto.marks ∙ c.push-k1.auto.marks)
    (c.push-k3.auto.out ∙ c.push-k2.auto.out ∙ c.push-k1.auto.out) 48 c.args.d _ c.vertex_images-a.ensures.3 in
    (c.push-k3.ensures.queue, r.0, r.1)

pub push-k5-requires : goal.push-k5-requires
push-k5-requires c =
    let r = image_room c.args.rows.formed c.requires.0 _ _ (c.push-k4.auto.marks ∙ c.push-k3.auto.marks ∙ c.push-k2.auto.marks ∙ c.push-k1.auto.marks)
    (c.push-k4.auto.out ∙ c.push-k3.auto.out ∙ c.push-k2.auto.out ∙ c.push-k1.auto.out) 35 c.args.d _
    c.vertex_images-a.ensures.4 in
    (c.push-k4.ensures.queue, r.0, r.1)

pub push-requires : goal.push-requires
push-requires c =
    let r = image_room c.args.rows.formed c.requires.0 _ _ (c.push-k5.auto.marks ∙ c.push-k4.auto.marks ∙ c.push-k3.auto.marks ∙ c.push-k2.auto.marks
    ∙ c.push-k1.auto.marks) (c.push-k5.auto.out ∙ c.push-k4.auto.out ∙ c.push-k3.auto.out ∙ c.push-k2.auto.out
    ∙ c.push-k1.auto.out) 50 c.args.d _ c.vertex_images-a.ensures.5 in
    (c.push-k5.ensures.queue, r.0, r.1)

pub returns : goal.returns
returns c =
    let a = c.vertex_images-a.ensures in
    let v0 = visiting_starts c.args.rows.list.now vertex c.args.d _ _ _ c.requires.1 in
    let v1 = visiting_turn _ _ _ _ _ _ _ _ _ 0 _ _ _ _ v0 (omega arith) a.0 c.push-k1.auto.marks c.push-k1.auto.out c.push-k1.ensures in
    let v2 = visiting_turn _ _ _ _ _ _ _ _ _ 1 _ _ _ _ v1 (omega arith) a.1 c.push-k2.auto.marks c.push-k2.auto.out
    c.push-k2.ensures in
    let v3 = visiting_turn _ _ _ _ _ _ _ _ _ 2 _ _ _ _ v2 (omega arith) a.2 c.push-k3.auto.marks c.push-k3.auto.out
    c.push-k3.ensures in
    let v4 = visiting_turn _ _ _ _ _ _ _ _ _ 3 _ _ _ _ v3 (omega arith) a.3 c.push-k4.auto.marks c.push-k4.auto.out
    c.push-k4.ensures in
    let v5 = visiting_turn _ _ _ _ _ _ _ _ _ 4 _ _ _ _ v4 (omega arith) a.4 c.push-k5.auto.marks c.push-k5.auto.out
    c.push-k5.ensures in
    let v6 = visiting_turn _ _ _ _ _ _ _ _ _ 5 _ _ _ _ v5 (omega arith) a.5 c.push.auto.marks c.push.auto.out
    c.push.ensures in
    visiting_ends _ _ _ _ _ _ _ _ _ _ v6 (omega arith)
