-- Reads of an image and tests for null ones, which make no map test (scope: reads).
--   read_test rows i d   the tests of a read
--   beta_read, i_free, is_free   the calls
use Rattle.std.specs.Prelude.{ℕ, List, Bool, cond, ltb, leb, eqb, Err}
use Rattle.map_betas.specs.declared.error.Refusal.TheVariants.{BadDart, BadBeta}
use Rattle.map_betas.specs.Betas.{beta, darts}
use Rattle.map_betas.specs.Answers.{pass, Answer, Test, done}
use Rattle.map_betas.specs.Maps.{size_test, free_at}
use Rattle.std.specs.Result.{result_and}

-- refusal 5 says the number that is no beta
abbrev pub beta_test : ℕ → Test
beta_test i = cond (ltb 3 i) (Err (BadBeta i)) pass

-- a read takes the null dart, and a dart that is unused: it is lent no flags
abbrev pub range_test : ℕ → ℕ → Test
range_test n d = cond (leb n d) (Err (BadDart 1)) pass

unfoldable pub read_test : List ℕ → ℕ → ℕ → Test
read_test rows i d = result_and (size_test rows) (result_and (range_test (darts rows) d) (beta_test i))

unfoldable pub beta_read : List ℕ → ℕ → ℕ → Answer
beta_read rows i d = result_and (read_test rows i d) (done (beta rows i d) 0)

abbrev pub yes : Bool → ℕ
yes b = cond b 1 0

unfoldable pub i_free : List ℕ → ℕ → ℕ → Answer
i_free rows i d = result_and (read_test rows i d) (done (yes (eqb (beta rows i d) 0)) 0)

unfoldable pub is_free : List ℕ → ℕ → Answer
is_free rows d = result_and (read_test rows 0 d) (done (yes (free_at rows d)) 0)
