-- `three::three_link` meets its contract: what the tests refuse, or the core on real darts of a map. Assumes nothing.
use mathlib.Core.Path.{ap}
use Rattle.link_walk.proofs.CallLaws.{passed}
use Rattle.std.specs.Prelude.{is_ok}
use Rattle.link_three_calls.proofs.three.three_link.Goals as goal

pub three_link_on-requires : goal.three_link_on-requires
three_link_on-requires c = (passed c.guard.ensures (ap is_ok c.in_ok-guard.was)).real
