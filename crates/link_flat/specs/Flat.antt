-- The link and the unlink of one pair by any beta. By beta 1 and 2 they are the calls of scope: 1-link, 2-link; a pair alone has no link by another.
--   flat_test i   BadBeta where i is neither 1 nor 2
--   flat_link rows flags i ld rd, flat_unlink rows flags i ld   that refusal before all else, or the core behind its tests
use Rattle.std.specs.Prelude.{ℕ, List, Err, cond, ltb, ◌||◌}
use Rattle.map_betas.specs.declared.error.Refusal.TheVariants.{BadBeta}
use Rattle.map_betas.specs.Answers.{Outcome, Test, pass, behind}
use Rattle.link_walk.specs.Calls.{bare_link, bare_unlink}

abbrev pub flat_test : ℕ → Test
flat_test i = cond (ltb i 1 || ltb 2 i) (Err (BadBeta i)) pass

abbrev pub flat_link : List ℕ → List ℕ → ℕ → ℕ → ℕ → Outcome (List ℕ)
flat_link rows flags i ld rd = behind (flat_test i) rows (bare_link rows flags i ld rd)

abbrev pub flat_unlink : List ℕ → List ℕ → ℕ → ℕ → Outcome (List ℕ)
flat_unlink rows flags i ld = behind (flat_test i) rows (bare_unlink rows flags i ld)
