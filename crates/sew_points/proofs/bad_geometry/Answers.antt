-- `geometry::bad_geometry` meets its contract: it hands the four slots that it read to the test on slots. Assumes nothing.
use mathlib.Core.Path.{◌≡◌, ◌∙◌}
use mathlib.Core.List.{List}
use Prim.Native.Nat.{ℕ}
use lib.Ieee.{Float}
use Rattle.std.specs.Prelude.{Option}
use Rattle.sew_points.specs.declared.Point.{Point}
use Rattle.sew_points.specs.Geometry.{slot_at, slots_refuse, bad_geometry}
use Rattle.sew_points.proofs.bad_geometry.Goals as goal

-- the four slots joined outside of the function's own facts, where few equations are in reach
joined : (marks : List ℕ) (coords : List Float) (l m2 m1 r : ℕ) (a b c d : Option Point)
    → a ≡ slot_at marks coords l → b ≡ slot_at marks coords m2 → c ≡ slot_at marks coords m1 → d ≡ slot_at marks coords r
    → slots_refuse a b c d ≡ bad_geometry marks coords l m2 m1 r
unfolding bad_geometry
joined marks coords l m2 m1 r a b c d ea eb ec ed = rw (ea, eb, ec, ed)

pub returns : goal.returns
returns c =
    c.slots_refuse.ensures ∙ joined _ _ _ _ _ _ _ _ _ _ c.slot_at-at_l.ensures c.slot_at-at_m2.ensures
    c.slot_at-at_m1.ensures c.slot_at-at_r.ensures
