-- `three::three_unlink` meets its contract: what the tests refuse, or the core on real darts of a map. Assumes nothing.
use mathlib.Core.Path.{ap}
use Rattle.link_walk.proofs.CallLaws.{passed}
use Rattle.std.specs.Prelude.{is_ok}
use Rattle.link_three_calls.proofs.three.three_unlink.Goals as goal

pub three_unlink_on-requires : goal.three_unlink_on-requires
three_unlink_on-requires c = let h = (passed c.guard.ensures (ap is_ok c.in_ok-guard.was)).real in (h.0, h.1, h.2)
