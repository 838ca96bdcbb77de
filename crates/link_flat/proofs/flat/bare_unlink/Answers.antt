-- `flat::bare_unlink` meets its contract: what the tests refuse, or the core on real darts of a map. Assumes nothing.
use native.Mathlib.Omega.{arith}
use mathlib.Core.Path.{ap}
use Rattle.link_walk.proofs.CallLaws.{passed}
use Rattle.std.specs.Prelude.{is_ok}
use Rattle.link_flat.proofs.flat.bare_unlink.Goals as goal

pub unlink_core-requires : goal.unlink_core-requires
unlink_core-requires g c =
    let h = (passed c.guard.ensures (ap is_ok c.in_ok-guard.was)).real in (
      omega (arith, c.requires.0),
      omega (arith, c.requires.1),
      omega (arith, h.0.sized.whole, h.2),
      omega (arith, h.0.sized.whole, h.0.below g.row.I c.args.ld),
    )
