-- `main` is safe: its array is as long as it is written, and what was read lies within it. Assumes nothing.
use mathlib.Core.Path.{sym}
use Prim.Native.Nat.{ℕ}
use Rattle.std.proofs.Common.{length-take-le}
use lib.ListN.{length-replicate}
use Rattle.test_replay.proofs.main.Goals as goal

pub slice_bounds-read_full-end : goal.slice_bounds-read_full-end
slice_bounds-read_full-end c = sym (length-replicate {A = ℕ} 524288 0)

pub slice_bounds-bytes-end : goal.slice_bounds-bytes-end
slice_bounds-bytes-end c = c.in_ok-n.ensures.within

pub slice_bounds-walk-end : goal.slice_bounds-walk-end
slice_bounds-walk-end c = sym (length-take-le c.in_ok-n.n c.read_full.new.buffer c.in_ok-n.ensures.within)
