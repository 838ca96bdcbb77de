-- `flat::bare_link` meets its contract: what the tests refuse, or the core on real darts of a map. Assumes nothing.
use native.Mathlib.Omega.{arith}
use mathlib.Core.Path.{ap}
use Rattle.link_walk.proofs.CallLaws.{passed}
use Rattle.std.specs.Prelude.{is_ok}
use Rattle.link_flat.proofs.flat.bare_link.Goals as goal

pub link_core-requires : goal.link_core-requires
link_core-requires g c =
    let h = (passed c.guard.ensures (ap is_ok c.in_ok-guard.was)).real in (
      omega (arith, c.requires.0),
      omega (arith, c.requires.1),
      omega (arith, h.0.sized.whole, h.2),
      omega (arith, h.0.sized.whole, h.4),
    )
