-- `one_links::one_links` meets its contract: each return is one of the ways out of `one_links`. Assumes nothing.
use native.Mathlib.Omega.{arith}
use mathlib.Core.Path.{refl}
use Rattle.sew_ground.proofs.OneLaws.{handed_on, not_faced, are_faced, links_refused, links_one, links_two, first_linked}
use Rattle.sew_one_links.proofs.one_links.one_links.Goals as goal

pub returns-in_err-linked : goal.returns-in_err-linked
returns-in_err-linked c =
    rw (handed_on _ c.in_err-linked.was c.from_residual.ensures.1) (links_refused _ _ _ _ _ c.in_err-linked.ensures refl)

pub second_link-requires : goal.second_link-requires
second_link-requires c =
    let f = are_faced _ _ _ _ c.faced-images.ensures _ _ c.in-Some.is in (
      first_linked _ _ _ _ _ c.requires.0 c.requires.1 c.requires.2 c.link_core.ensures,
      omega (arith, c.requires.1.below, c.link_core.auto.rows),
      omega (arith, c.requires.0.below 3 c.args.rd, f.2, c.link_core.auto.rows),
      omega (arith, c.requires.0.below 3 c.args.ld, f.1, c.link_core.auto.rows),
    )

pub returns-in-Some : goal.returns-in-Some
returns-in-Some c =
    let f = are_faced _ _ _ _ c.faced-images.ensures _ _ c.in-Some.is in
    links_two _ _ _ _ _ c.in_ok-linked.ensures refl _ _ _ _ c.requires.0 c.requires.1 c.requires.2 f.0 f.2 f.1 c.second_link.ensures

pub returns-in-None : goal.returns-in-None
returns-in-None c = links_one _ _ _ _ _ c.in_ok-linked.ensures refl (not_faced _ _ _ _ c.faced-images.ensures c.in-None.is)
