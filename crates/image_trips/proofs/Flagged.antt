-- Which flags a map may have instead of its own. Assumes nothing.
--   other_flags   a map stays one with other flags that say unused of none of its darts that was in use
use Prim.Native.Nat.{ℕ, ◌<◌, ◌≤◌}
use native.Mathlib.Omega.{arith}
use native.Mathlib.Decide.{dec_lt}
use mathlib.Core.Path.{◌≡◌}
use mathlib.Core.Logic.{by_cases}
use mathlib.Core.List.{List}
use mathlib.Core.Bool.{true}
use lib.ListN.{length, get_or}
use Rattle.map_betas.specs.Betas.{darts}
use Rattle.map_betas.specs.Maps.{unused, Free, Map}
use Rattle.map_betas.proofs.FreeLaws.{unused_flag, flag_unused, beyond_free}

pub other_flags : (rows flags flags' : List ℕ) → Map rows flags → darts rows ≤ length flags' →
    ((d : ℕ) → d < darts rows → get_or flags d 0 ≡ 0 → get_or flags' d 0 ≡ 0) → Map rows flags'
other_flags rows flags flags' m l used = record { formed = m.formed; flagged = l; free = free }
  where
    free : (d : ℕ) → unused flags' d ≡ true → Free rows d
    free d u =
        let f = flag_unused flags' d u in
        by_cases (dec_lt d (darts rows))
        (λ h. m.free d (unused_flag flags d f.0 (λ z. f.1 (used d h z))))
        (λ h. beyond_free rows d m.formed.sized.whole (omega arith))
