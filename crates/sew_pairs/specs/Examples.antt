-- The worked examples of the 3-unsew (scope: examples), and the readings that tell its walk apart, as one table; `proofs/Agree.antt` has the
-- one claim over it. `Line`, `line` and the maps are of the crate `link_glue`.
--   two_linked, part_linked   maps: 1 and 2 linked by beta 3; 3 before 1, and 2 and 3 linked by beta 3
--   zeros3, zeros4, zeros6, sevens   loans: three, four, six zeros; six numbers that are not 0
--   six                       the numbers of an entry
--   lines                     the table
use Rattle.std.specs.Prelude.{ℕ, List, [], ◌∷◌, ◌++◌, Err}
use Rattle.map_betas.specs.declared.error.Refusal.TheVariants.{AsymmetricalFaces, PlanRoom}
use Rattle.link_glue.specs.Examples.{Line, line, row, free, loops, loops_linked, opens, opens_linked, pair_linked, in_use}
use Rattle.map_betas.specs.Answers.{Outcome, outcome, Answer, done}
use Rattle.sew_ground.specs.Calls.{SewLoans}
use Rattle.sew_pairs.specs.Calls.{three_unsew}

-- n=3 b3(1)=2
abbrev pub two_linked : List ℕ
two_linked = free ++ row 0 0 0 2 ++ row 0 0 0 1

-- n=4 b1(3)=1 b3(2)=3
abbrev pub part_linked : List ℕ
part_linked = free ++ row 3 0 0 0 ++ row 0 0 0 3 ++ row 0 1 0 2

abbrev pub zeros3 : List ℕ
zeros3 = 0 ∷ 0 ∷ 0 ∷ []

abbrev pub zeros4 : List ℕ
zeros4 = 0 ∷ zeros3

abbrev pub zeros6 : List ℕ
zeros6 = zeros3 ++ zeros3

abbrev pub sevens : List ℕ
sevens = 7 ∷ 7 ∷ 7 ∷ 7 ∷ 7 ∷ 7 ∷ []

abbrev pub six : ℕ → ℕ → ℕ → ℕ → ℕ → ℕ → List ℕ
six code a b c m n = code ∷ a ∷ b ∷ c ∷ m ∷ n ∷ []

-- an answer, then rows, marks, queue and plan
abbrev leaving : Answer → List ℕ → List ℕ → List ℕ → List ℕ → Outcome SewLoans
leaving a rows marks queue plan = outcome a (rows, marks, queue, plan)

-- no dart is unused
abbrev unsew : List ℕ → List ℕ → List ℕ → List ℕ → ℕ → Outcome SewLoans
unsew rows marks queue plan ld = three_unsew rows marks queue (in_use rows) plan ld

unfoldable pub lines : List (Line (Outcome SewLoans))
lines =
    -- 13:1,2,1; 12:1,2,1; 11:0,2,0; 11:1,0,0: a null end has the size 0
    line (unsew two_linked zeros3 zeros3 (sevens ++ sevens ++ sevens ++ sevens) 1)
    (leaving (done 2 4) (free ++ free ++ free) zeros3 zeros3 (six 13 1 2 1 1 1 ++ six 12 1 2 1 1 1 ++ six 11 0 2 0 0 1 ++ six 11 1 0 0 1 0))
    -- room for three of four entries, and five numbers more: 11, and the darts stay linked
    ∷ line (unsew two_linked zeros3 zeros3 (sevens ++ sevens ++ sevens ++ (7 ∷ row 7 7 7 7)) 1)
    (leaving (Err (PlanRoom 4)) two_linked zeros3 zeros3 (sevens ++ sevens ++ sevens ++ (7 ∷ row 7 7 7 7)))
    -- the least over the walked darts of each side: 13:2,3,2
    ∷ line (unsew part_linked zeros4 zeros4 (sevens ++ sevens ++ sevens ++ sevens) 2)
    (leaving (done 3 4) (free ++ row 3 0 0 0 ++ free ++ row 0 1 0 0) zeros4 zeros4
    (six 13 2 3 2 1 1 ++ six 12 2 3 2 1 1 ++ six 11 0 3 0 0 1 ++ six 11 2 1 1 1 1))
    -- an open face, from its last dart: the second leg's pair comes last, and marks and queue are longer than n
    ∷ line (unsew opens_linked (1 ∷ zeros6) (5 ∷ zeros4 ++ (8 ∷ sevens)) (sevens ++ sevens ++ sevens ++ sevens ++ sevens ++ sevens) 2)
    (leaving (done 3 6) opens (0 ∷ zeros6) (zeros6 ++ sevens)
    (six 13 1 3 1 2 2 ++ six 12 2 3 2 1 1 ++ six 11 0 3 0 0 1 ++ six 12 1 4 1 1 1 ++ six 11 2 4 2 1 1 ++ six 11 1 5 1 1 1))
    -- a closed face against a longer one: the second leg is not walked, and the last numbers, too few for an entry, stay
    ∷ line (unsew loops_linked (zeros4 ++ zeros4) (zeros4 ++ zeros4) (sevens ++ sevens ++ sevens ++ sevens ++ sevens ++ sevens ++ sevens ++ row 8 8 8 8) 1)
    (leaving (done 4 7) loops (zeros4 ++ zeros4) (zeros4 ++ zeros4)
    (six 13 1 4 1 3 3 ++ six 12 1 4 1 1 1 ++ six 11 2 4 2 1 1 ++ six 12 2 7 2 1 1 ++ six 11 3 7 3 1 1 ++ six 12 3 6 3 1 1 ++ six 11 1 6 1 1 1
    ++ row 8 8 8 8))
    -- walks read the rows as written so far
    ∷ line (unsew pair_linked zeros3 zeros3 sevens 1) (leaving (Err (AsymmetricalFaces 1 2)) pair_linked zeros3 zeros3 sevens)
    ∷ []
