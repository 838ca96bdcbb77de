-- The six calls, for any rows, flags and darts: their tests first, then what the walk meets (scope: order). A refusal leaves the rows as they were.
--   bare_link rows flags i ld rd, bare_unlink rows flags i ld   the core behind its tests, once over the beta
--   one_link, one_unlink, two_link, two_unlink        the core of beta 1 and of beta 2 (scope: 1-link, 2-link)
--   three_link, three_unlink                        both faces, pair by pair
--   Real rows a b                                 what their cores ask: rows are well formed, a and b real darts of them
--   Used rows flags a b                           what their tests ask: rows and flags are a map, a and b real darts of it in use
--                                                 (`proofs/CallLaws.antt`)
use Rattle.std.specs.Prelude.{ℕ, ◌<◌, ◌≡◌, false, List}
use Rattle.map_betas.specs.Betas.{darts}
use Rattle.map_betas.specs.Answers.{Outcome, given, behind}
use Rattle.map_betas.specs.Maps.{WellFormed, unused, Map}
use Rattle.map_betas.specs.Guards.{guard_of, no_loans}
use Rattle.map_betas.specs.Cores.{link_core, unlink_core}
use Rattle.link_walk.specs.Three.{three_link_on, three_unlink_on}

unfoldable pub bare_link : List ℕ → List ℕ → ℕ → ℕ → ℕ → Outcome (List ℕ)
bare_link rows flags i ld rd = behind (guard_of rows flags no_loans 1 ld rd) rows (given (link_core rows i ld rd))

unfoldable pub bare_unlink : List ℕ → List ℕ → ℕ → ℕ → Outcome (List ℕ)
bare_unlink rows flags i ld = behind (guard_of rows flags no_loans 1 ld ld) rows (given (unlink_core rows i ld))

abbrev pub one_link : List ℕ → List ℕ → ℕ → ℕ → Outcome (List ℕ)
one_link rows flags ld rd = bare_link rows flags 1 ld rd

abbrev pub one_unlink : List ℕ → List ℕ → ℕ → Outcome (List ℕ)
one_unlink rows flags ld = bare_unlink rows flags 1 ld

abbrev pub two_link : List ℕ → List ℕ → ℕ → ℕ → Outcome (List ℕ)
two_link rows flags ld rd = bare_link rows flags 2 ld rd

abbrev pub two_unlink : List ℕ → List ℕ → ℕ → Outcome (List ℕ)
two_unlink rows flags ld = bare_unlink rows flags 2 ld

unfoldable pub three_link : List ℕ → List ℕ → ℕ → ℕ → Outcome (List ℕ)
three_link rows flags ld rd = behind (guard_of rows flags no_loans 1 ld rd) rows (given (three_link_on rows ld rd))

unfoldable pub three_unlink : List ℕ → List ℕ → ℕ → Outcome (List ℕ)
three_unlink rows flags ld = behind (guard_of rows flags no_loans 1 ld ld) rows (given (three_unlink_on rows ld))

-- rows are well formed, and both darts real: neither null nor beyond the last
abbrev pub Real : List ℕ → ℕ → ℕ → Type 0
Real rows a b = WellFormed rows × (0 < a) × (a < darts rows) × (0 < b) × (b < darts rows)

-- and flags make them a map, in which neither dart is unused (scope: darts)
pub record Used (rows flags : List ℕ) (a b : ℕ) : Type 0 where
  pub map : Map rows flags
  pub real : Real rows a b
  pub left : unused flags a ≡ false
  pub right : unused flags b ≡ false
