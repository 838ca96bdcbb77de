-- Going on from a dart by one beta, and the face chain of a dart. `proofs/Chains.antt` has its laws.
--   far rows i t d   the dart t steps on from d by beta i
--   Chain rows d x   x is a dart of the face chain of d: beta 1 and beta 0 lead from d to x
use Rattle.std.specs.Prelude.{ℕ, zero, suc, ◌≢◌, List}
use Rattle.map_betas.specs.Betas.{beta}

unfoldable pub far : List ℕ → ℕ → ℕ → ℕ → ℕ
far rows i zero d = d
far rows i (suc t) d = far rows i t (beta rows i d)

-- the face chain of ld: ld, and what beta 1 and beta 0 lead to from a dart of the chain (scope: matching)
pub data Chain (rows : List ℕ) (ld : ℕ) : ℕ → Type 0 where
  first : Chain rows ld ld
  on : {d : ℕ} → Chain rows ld d → beta rows 1 d ≢ 0 → Chain rows ld (beta rows 1 d)
  back : {d : ℕ} → Chain rows ld d → beta rows 0 d ≢ 0 → Chain rows ld (beta rows 0 d)
