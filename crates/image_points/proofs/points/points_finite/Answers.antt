-- `points::points_finite` meets its contract: all slots of the range pass the test of a point. Assumes nothing.
use mathlib.Core.Path.{◌≡◌, refl, ap, ◌∙◌}
use mathlib.Core.Bool.{Bool, ◌&&◌}
use mathlib.Core.List.{List}
use Prim.Native.Nat.{ℕ, zero, suc, ◌-◌}
use native.Mathlib.Numerals.{add-one}
use lib.Ieee.{Float}
use borrow.Author.Rules.{rules}
use borrow.Author.Tests.{tests}
use Rattle.std.specs.List.{range_with_len, list_all}
use Rattle.std.proofs.lemmas.Iterator.{YieldsList-from_range}
use Rattle.std.proofs.lemmas.Iterator.Search.{all_from_yields_List}
use Rattle.image_blocks.specs.Image.{point_finite, finite_from}
use Rattle.image_points.proofs.points.points_finite.Goals as goal

each : (marks : List ℕ) (coordinates : List Float) (k d : ℕ) →
    list_all (point_finite marks coordinates) (range_with_len d k) ≡ finite_from marks coordinates d k
unfolding finite_from
each marks coordinates zero d = refl
each marks coordinates (suc k) d =
    ap (λ (b : Bool). point_finite marks coordinates d && b) (rw (add-one d) (each marks coordinates k (suc d)))

pub returns : goal.returns
returns c =
    let args = c.args in
    all_from_yields_List (point_finite args.vertices.now args.coordinates.now) _ _ _ c.all.ensures.ran
    (YieldsList-from_range 1 args.n.number (args.n.number - 1) refl refl) (λ x b q k. search (rules, tests))
    ∙ each args.vertices.now args.coordinates.now (args.n.number - 1) 1
