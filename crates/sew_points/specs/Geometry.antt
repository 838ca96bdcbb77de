-- The geometry test of the 2-sew, in the logic's own account of IEEE 754 (lib.Ieee), where each operation is rounded once.
--
--   minus_of      the difference of two points, a vector
--   dot_of        the dot of two vectors
--   plus_zero     positive zero, with which the dot is compared
--   same_way      the test on four points: the dot of the two differences is zero or more
--   point        three coordinates kept together
--   Lent         the loans reach as far as the vertex slot of a dart
--   slot_at       what the vertex slot of a dart reads as
--   slots_refuse  the test on four slots
--   bad_geometry  the test on the slots at four vertex identifiers, in the order ld, m2, m1, rd
use Rattle.std.specs.Prelude.{ℕ, ◌+◌, ◌*◌, ◌<◌, Bool, false, cond, List, eqb, pos, length, get_or, Float, Option, Some, None}
use Rattle.std.specs.Float.{nan, fin, binary64}
use Rattle.std.specs.Float.Ieee.{add, sub, mul, le}
use Rattle.sew_points.specs.declared.Point.{Point}
use Rattle.sew_points.specs.declared.Vector.{Vector}

-- the vector from b to a: coordinate by coordinate, each difference rounded
abbrev pub minus_of : Point → Point → Vector
minus_of a b = record { x = sub binary64 a.x b.x; y = sub binary64 a.y b.y; z = sub binary64 a.z b.z }

-- The dot product, rounded after each operation: x first, then y is added, then z (scope: 2-sew).
abbrev pub dot_of : Vector → Vector → Float
dot_of a b = add binary64 (add binary64 (mul binary64 a.x b.x) (mul binary64 a.y b.y)) (mul binary64 a.z b.z)

-- what the product is compared with
abbrev pub plus_zero : Float
plus_zero = fin false 0 (pos 0)

-- Whether the edges from l to m1 and from r to m2 point the same way, or at a right angle. `le` is false at a NaN, which refuses nothing.
abbrev pub same_way : Point → Point → Point → Point → Bool
same_way l m2 m1 r = le plus_zero (dot_of (minus_of m1 l) (minus_of m2 r))

-- three coordinates as one point
abbrev pub point : Float → Float → Float → Point
point a b c = record { x = a; y = b; z = c }

-- slot d is within both loans, however much more is lent
abbrev pub Lent : List ℕ → List Float → ℕ → Type 0
Lent marks coords d = (d < length marks) × (3 * d + 2 < length coords)

-- slot d of the vertices: a point, or none where its mark is 0 (scope: vertices)
unfoldable pub slot_at : List ℕ → List Float → ℕ → Option Point
slot_at marks coords d =
    cond (eqb (get_or marks d 0) 0) None (Some (point (get_or coords (3 * d) nan) (get_or coords (3 * d + 1) nan) (get_or coords (3 * d + 2) nan)))

-- four slots refuse only where each holds a point
unfoldable pub slots_refuse : Option Point → Option Point → Option Point → Option Point → Bool
slots_refuse None m2 m1 r = false
slots_refuse (Some l) None m1 r = false
slots_refuse (Some l) (Some m2) None r = false
slots_refuse (Some l) (Some m2) (Some m1) None = false
slots_refuse (Some l) (Some m2) (Some m1) (Some r) = same_way l m2 m1 r

-- scope: 2-sew. The geometry test on the slots that four vertices name.
unfoldable pub bad_geometry : List ℕ → List Float → ℕ → ℕ → ℕ → ℕ → Bool
bad_geometry marks coords l m2 m1 r =
    slots_refuse (slot_at marks coords l) (slot_at marks coords m2) (slot_at marks coords m1) (slot_at marks coords r)
