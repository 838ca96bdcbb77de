-- `tallies::note` meets its contract: a pair more. Assumes nothing.
use native.Mathlib.Omega.{arith}
use Rattle.sew_tallies.proofs.TallyLaws.{noted}
use Rattle.sew_tallies.proofs.tallies.note.Goals as goal

pub returns-clause-value : goal.returns-clause-value
returns-clause-value g c = (
  noted _ _ _ _ _ _ _ _ _ c.min.ensures c.min-2.ensures c.pair_count-k.ensures.value.0
      c.beta.ensures,
  omega (arith, c.pair_count-k.ensures.value.1),
)
