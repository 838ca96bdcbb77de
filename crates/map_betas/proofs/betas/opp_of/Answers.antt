-- `betas::opp_of` meets its contract. Assumes nothing.
use mathlib.Core.Path.{sym}
use Rattle.map_betas.proofs.BetaLaws.{opp_low, opp_high}
use Rattle.map_betas.proofs.betas.opp_of.Goals as goal

pub returns-then-i-lt2 : goal.returns-then-i-lt2
returns-then-i-lt2 c = sym (opp_low _ c.if-i-lt2.true)

pub returns-else-i-lt2 : goal.returns-else-i-lt2
returns-else-i-lt2 c = sym (opp_high _ c.if-i-lt2.false)
