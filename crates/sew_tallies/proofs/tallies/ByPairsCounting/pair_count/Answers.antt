-- `tallies::pair_count`, by pairs, meets its contract. Assumes nothing.
use native.Mathlib.Omega.{arith}
use mathlib.Core.Path.{refl}
use Rattle.sew_tallies.proofs.TallyLaws.{pair_one}
use Rattle.sew_tallies.proofs.tallies.ByPairsCounting.pair_count.Goals as goal

pub returns-clause-value : goal.returns-clause-value
returns-clause-value c = (pair_one _ c.args._rows.list.now c.args._l c.args._r refl, omega arith)
