-- An edge followed by beta 2 and beta 3 in turn. `proofs/WalkLaws.antt` has that the walk meets each dart of the edge once.
--   arm f rows stop i x      what beta 2 and beta 3 in turn lead to from x, beta i first, before null or `stop`: at most f darts
--   arm_end f rows stop i x   what comes behind them
--   arm_of rows i d           the arm of d by beta i: to null or round to d
--   end_of rows i d           what ends it
--   others rows d            the darts of the edge of d but for d, in the order of the walk
--   edge_walk rows d          d and these
use Rattle.std.specs.Prelude.{ℕ, zero, suc, ◌-◌, cond, ◌||◌, List, [], ◌∷◌, ◌++◌, eqb}
use Rattle.map_betas.specs.Betas.{beta, darts}

unfoldable pub arm : ℕ → List ℕ → ℕ → ℕ → ℕ → List ℕ
arm zero rows stop i x = []
arm (suc f) rows stop i x =
    let y = beta rows i x in
    cond (eqb y 0 || eqb y stop) [] (y ∷ arm f rows stop (5 - i) y)

unfoldable pub arm_end : ℕ → List ℕ → ℕ → ℕ → ℕ → ℕ
arm_end zero rows stop i x = beta rows i x
arm_end (suc f) rows stop i x =
    let y = beta rows i x in
    cond (eqb y 0 || eqb y stop) y (arm_end f rows stop (5 - i) y)

-- no arm is longer than there are darts
abbrev pub arm_of : List ℕ → ℕ → ℕ → List ℕ
arm_of rows i d = arm (darts rows) rows d i d

abbrev pub end_of : List ℕ → ℕ → ℕ → ℕ
end_of rows i d = arm_end (darts rows) rows d i d

-- an edge that is round is met by its first arm alone
unfoldable pub others : List ℕ → ℕ → List ℕ
others rows d = arm_of rows 2 d ++ cond (eqb (end_of rows 2 d) 0) (arm_of rows 3 d) []

abbrev pub edge_walk : List ℕ → ℕ → List ℕ
edge_walk rows d = d ∷ others rows d
