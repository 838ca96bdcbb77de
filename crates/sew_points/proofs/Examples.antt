-- The geometry test computed on worked examples: both worked 2-sews, an undefined slot, two NaNs and a dot of -0.0.
-- In each, darts 1 and 2 are one open chain and 3 and 4 the other, so that a 2-sew of 1 and 3 has ld 1, m2 4, m1 2, rd 3,
-- and each of these is its own vertex identifier. Assumes nothing.
use Prim.Native.Nat.{ℕ}
use mathlib.Core.Path.{◌≡◌, refl}
use mathlib.Core.Bool.{true, false}
use mathlib.Core.List.{List, [], ◌∷◌, ◌++◌}
use lib.IntN.{pos}
use lib.Ieee.{Float, fin, inf, nan, add, sub, mul, le}
use Rattle.std.specs.Prelude.{Some}
use Rattle.sew_points.specs.Geometry.{minus_of, dot_of, plus_zero, point, slot_at, slots_refuse, bad_geometry}

-- dart 0 has no vertex, darts 1 to 4 have one
abbrev marks : List ℕ
marks = 0 ∷ 1 ∷ 1 ∷ 1 ∷ 1 ∷ []

abbrev one : Float
one = fin false 1 (pos 0)

abbrev minus_zero : Float
minus_zero = fin true 0 (pos 0)

abbrev origin : List Float
origin = plus_zero ∷ plus_zero ∷ plus_zero ∷ []

abbrev east : List Float
east = one ∷ plus_zero ∷ plus_zero ∷ []

abbrev north : List Float
north = plus_zero ∷ one ∷ plus_zero ∷ []

-- the coordinates of darts 0 to 4, of which dart 0's are never looked at
abbrev places : List Float → List Float → List Float → List Float → List Float
places p q s t = origin ++ (p ++ (q ++ (s ++ t)))

-- 1 from (0,0,0) to (1,0,0), 3 from (1,0,0) to (0,0,0), 2-sew 1,3: sewn, since (1,0,0) dot (-1,0,0) is -1
pub sewn : bad_geometry marks (places origin east east origin) 1 4 2 3 ≡ false
unfolding bad_geometry slot_at slots_refuse le add sub mul
sewn = refl

-- 1 as before, 3 from (0,0,0) to (0,1,0), 2-sew 1,3: 10, since (1,0,0) dot (0,1,0) is 0
pub refused : bad_geometry marks (places origin east origin north) 1 4 2 3 ≡ true
unfolding bad_geometry slot_at slots_refuse le add sub mul
refused = refl

-- the same coordinates with dart 4's vertex not defined: sewn
pub undefined : bad_geometry (0 ∷ 1 ∷ 1 ∷ 1 ∷ 0 ∷ []) (places origin east origin north) 1 4 2 3 ≡ false
unfolding bad_geometry slot_at slots_refuse
undefined = refl

-- any mark but 0 says that the slot is defined
pub any_mark : slot_at (0 ∷ 255 ∷ []) (origin ++ east) 1 ≡ Some (point one plus_zero plus_zero)
unfolding slot_at
any_mark = refl

-- slot 0 is read like any other
pub slot_zero : slot_at (1 ∷ []) east 0 ≡ Some (point one plus_zero plus_zero)
unfolding slot_at
slot_zero = refl

-- a coordinate that is a NaN makes the dot one: sewn
pub nan_coordinate : bad_geometry marks (places origin (nan ∷ one ∷ one ∷ []) origin north) 1 4 2 3 ≡ false
unfolding bad_geometry slot_at slots_refuse le add sub mul
nan_coordinate = refl

-- two infinities of one sign, whose difference is a NaN: sewn
pub nan_difference : bad_geometry marks (places (inf false ∷ plus_zero ∷ plus_zero ∷ []) (inf false ∷ plus_zero ∷ plus_zero ∷ []) origin east) 1 4 2 3 ≡ false
unfolding bad_geometry slot_at slots_refuse le add sub mul
nan_difference = refl

abbrev corner : List Float
corner = one ∷ one ∷ one ∷ []

abbrev below : List Float
below = minus_zero ∷ minus_zero ∷ minus_zero ∷ []

-- (1,1,1) dot (-0,-0,-0) is -0.0, the sum of three products -0.0
pub minus_zero_dot : dot_of (minus_of (point one one one) (point plus_zero plus_zero plus_zero))
    (minus_of (point minus_zero minus_zero minus_zero) (point plus_zero plus_zero plus_zero)) ≡ minus_zero
unfolding add sub mul
minus_zero_dot = refl

-- -0.0 is not less than 0: refused
pub minus_zero_lem : bad_geometry marks (places origin corner origin below) 1 4 2 3 ≡ true
unfolding bad_geometry slot_at slots_refuse le add sub mul
minus_zero_lem = refl
