-- An answer as it crosses to C: its number is returned, its three values are written.
--   Flat        a number and the list of values
--   flat_of a    the number and the values of the answer a, from the one definition that gives them (`tell_of`)
--   Crossed L   a number, the list of values, and what is left of the loans, an L
--   crossed o   the outcome o so
use Rattle.std.specs.Prelude.{ℕ, List, [], ◌∷◌}
use Rattle.map_betas.specs.declared.error.Told.{Told}
use Rattle.map_betas.specs.Answers.{tell_of, Outcome, Answer}

pub record Flat : Type 0 where
  pub number : ℕ
  pub values : List ℕ

abbrev pub flat : ℕ → List ℕ → Flat
flat k values = record { number = k; values = values }

abbrev pub flat_told : Told → Flat
flat_told t = flat t.number (t.first ∷ t.second ∷ t.third ∷ [])

abbrev pub flat_of : Answer → Flat
flat_of a = flat_told (tell_of a)

pub record Crossed (L : Type 0) : Type 0 where
  pub told : Flat
  pub loans : L

abbrev pub crossing : {L : Type 0} → ℕ → List ℕ → L → Crossed L
crossing k values loans = record { told = flat k values; loans = loans }

abbrev pub crossed : {L : Type 0} → Outcome L → Crossed L
crossed o = record { told = flat_of o.answer; loans = o.loans }
