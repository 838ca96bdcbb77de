-- `quick::all_below` meets its contract: the bits of four numbers together are no less than any of them. Assumes nothing.
use Prim.Native.Nat.{ℕ, ◌+◌, ◌<◌, ◌≤◌}
use native.Mathlib.Omega.{arith}
use mathlib.Core.Path.{◌≡◌}
use lib.Bits.{bit_and, bit_or, or_add_and, and_le_l, and_le_r}
use Rattle.map_quick.proofs.quick.all_below.Goals as goal

or_between : (a b : ℕ) → (a ≤ bit_or a b) × (b ≤ bit_or a b) × (bit_or a b ≤ a + b)
or_between a b =
    let e : bit_or a b + bit_and a b ≡ a + b = or_add_and a b in
    let l = and_le_l a b in
    let r = and_le_r a b in
    (omega (arith, e, r), omega (arith, e, l), omega (arith, e))

bits_below : (x0 x1 x2 x3 n : ℕ) → bit_or (bit_or (bit_or x0 x1) x2) x3 < n → (x0 < n) × (x1 < n) × (x2 < n) × (x3 < n)
bits_below x0 x1 x2 x3 n h =
    let x = or_between x0 x1 in
    let y = or_between (bit_or x0 x1) x2 in
    let z = or_between (bit_or (bit_or x0 x1) x2) x3 in
    (omega (arith, x.0, y.0, z.0), omega (arith, x.1, y.0, z.0), omega (arith, y.1, z.0), omega (arith, z.1))

pub returns-then-x0-x1 : goal.returns-then-x0-x1
returns-then-x0-x1 c = λ e. let a = c.args in bits_below a.x0 a.x1 a.x2 a.x3 a.n c.if-x0-x1.true
