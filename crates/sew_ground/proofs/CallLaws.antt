-- What a sew or an unsew leaves once its tests have passed, from what its core leaves: `sew_left`. Assumes nothing.
use Rattle.std.specs.Prelude.{◌≡◌, ℕ, List}
use mathlib.Core.Path.{ap}
use Rattle.map_betas.specs.Answers.{outcome, Answer}
use Rattle.map_betas.proofs.AnswerLaws.{outcome_is}
use Rattle.cell_steps.specs.Calls.{wiped}
use Rattle.sew_ground.specs.Sewn.{Sewn, leaves}
use Rattle.sew_ground.specs.Calls.{sew_done}

pub sew_left : (n : ℕ) (marks queue : List ℕ) (s : Sewn) (a : Answer) (rows₁ marks₁ queue₁ plan₁ : List ℕ) → leaves a rows₁ plan₁ ≡ s →
    marks₁ ≡ wiped n marks → queue₁ ≡ wiped n queue → outcome a (rows₁, marks₁, queue₁, plan₁) ≡ sew_done n marks queue s
sew_left n marks queue s a rows₁ marks₁ queue₁ plan₁ e em eq =
    outcome_is (ap (λ (x : Sewn). x.answer) e) (λ t. ((e t).rows, em t, eq t, (e t).plan))
