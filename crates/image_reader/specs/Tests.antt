-- What refuses an image with its loans: all tests, in order.
--   loans_test n flags loans rows   ShortLoan; flags and rows are the lengths of these loans
--   blocks_test bytes n v   flags, vertices, then rows and flags as a map
--   image_test              all of them
use Rattle.std.specs.Prelude.{ℕ, ◌*◌, List, cond, ltb, Err}
use Rattle.map_betas.specs.declared.error.Loan.TheVariants.{Rows}
use Rattle.map_betas.specs.declared.error.Refusal.TheVariants.{ShortLoan}
use Rattle.map_betas.specs.declared.loans.Loans.{Loans}
use Rattle.map_betas.specs.Answers.{pass, Test}
use Rattle.map_betas.specs.Guards.{loan_test}
use Rattle.map_betas.specs.Maps.{map_test}
use Rattle.image_form.specs.Form.{darts_of, vertices_of, rows_of, flags_of}
use Rattle.image_form.specs.Tests.{header_test, flags_test, vertices_test}
use Rattle.std.specs.Result.{result_and}

unfoldable pub loans_test : ℕ → ℕ → Loans → ℕ → Test
loans_test n flags loans rows = result_and (loan_test n flags loans) (cond (ltb rows (4 * n)) (Err (ShortLoan Rows)) pass)

-- what the blocks are asked, in this order: flags, records, the map (scope: reader)
unfoldable pub blocks_test : List ℕ → ℕ → ℕ → Test
blocks_test bytes n v = result_and (flags_test bytes n) (result_and (vertices_test bytes n v) (map_test (rows_of bytes n) (flags_of bytes n)))

unfoldable pub image_test : ℕ → List ℕ → ℕ → Loans → ℕ → Test
image_test most bytes flags loans rows =
    result_and (header_test most bytes)
    (result_and (loans_test (darts_of bytes) flags loans rows) (blocks_test bytes (darts_of bytes) (vertices_of bytes)))
