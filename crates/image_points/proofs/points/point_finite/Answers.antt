-- `points::point_finite` meets its contract: no point, or three coordinates that all pass. Assumes nothing.
use mathlib.Core.Path.{◌≡◌, ◌∙◌}
use mathlib.Core.Bool.{◌&&◌, and-true}
use mathlib.Core.List.{List}
use Prim.Native.Nat.{ℕ, suc, ◌+◌, ◌*◌, ◌-◌, ◌<◌}
use native.Mathlib.Omega.{arith}
use native.Mathlib.Numerals.{add-one, add-two}
use lib.ListN.{length, get_or}
use lib.Seq.{drop-cons}
use lib.Ieee.{Float, nan}
use lib.Ieee.Scale.{finite}
use borrow.Author.Rules.{rules}
use borrow.Author.Tests.{tests}
use Rattle.std.specs.Float.{float_is_finite}
use Rattle.std.specs.List.{list_all, between}
use Rattle.std.proofs.lemmas.Iterator.{YieldsList-from_slice}
use Rattle.std.proofs.lemmas.Iterator.Search.{all_from_yields_List}
use Rattle.image_store.proofs.Trips.{finite_is}
use Rattle.image_blocks.proofs.PointLaws.{point_none, point_some}
use Rattle.image_points.proofs.points.point_finite.Goals as goal

three : (l : List Float) (at : ℕ) → at + 2 < length l → list_all float_is_finite (between at (at + 3) l) ≡
    finite (get_or l at nan) && (finite (get_or l (at + 1) nan) && finite (get_or l (at + 2) nan))
three l at h =
    let p : at + 3 - at ≡ 3 = omega arith in
    let h₀ : at < length l = omega arith in
    let h₁ : suc at < length l = omega arith in
    let h₂ : suc (suc at) < length l = omega arith in
    rw (p, drop-cons l at nan h₀, drop-cons l (suc at) nan h₁, drop-cons l (suc (suc at)) nan h₂, add-one at, add-two at)
    (simp (finite_is, and-true))

pub returns-then-vertices-d-eq0 : goal.returns-then-vertices-d-eq0
returns-then-vertices-d-eq0 c = point_none _ _ _ c.if-vertices-d-eq0.true

pub returns : goal.returns
returns c =
    let args = c.args in
    all_from_yields_List float_is_finite _ _ _ c.all.ensures.ran (YieldsList-from_slice _ c.iter.ensures.rest) (λ x b q k. search (rules, tests))
    ∙ three args.coordinates.now (3 * args.d) (omega arith) ∙ point_some args.vertices.now args.coordinates.now args.d (omega arith)
