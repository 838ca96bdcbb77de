-- `settling::wanted` meets its contract: a tally of splits counts the entries but one. Assumes nothing.
use native.Mathlib.Omega.{arith}
use mathlib.Core.Path.{refl, sym}
use native.Mathlib.Nat.{le_of_eq}
use Rattle.sew_tallies.proofs.TallyLaws.{entries_count}
use Rattle.sew_settling.proofs.settling.wanted.Goals as goal

-- as many entries as there can be fit a number
pub overflow_add-result : goal.overflow_add-result
overflow_add-result c = omega (arith, entries_count _ _ _ _ _ c.tally_pairs.ensures.value refl, c.requires.3, c.requires.4)

pub returns-clause-lower_bound : goal.returns-clause-lower_bound
returns-clause-lower_bound c =
    let n = entries_count _ _ _ _ _ c.tally_pairs.ensures.value refl in (le_of_eq (sym n), λ h. n)
