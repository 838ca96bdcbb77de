-- The lines of the 1- and 2-sews and unsews, the two worked 2-sews among them.
--   flap, flap_sewn             maps: dart 1 with a beta 2 image; the same with 2 behind 1
--   strips, strips_sewn         open 1 2; 3 4, and these with 1 and 3 2-linked
--   bent, bent_sewn             n=4 b1(3)=2 b3(1)=2, where a plan names a vertex that an entry before it has merged, and the same with 1 and 3 2-linked
--   hinged, hinged_sewn         n=4 b1(3)=1 b3(1)=2, where two merges name one vertex, so that their sizes do not add up; the same with 2 and 3 2-linked
--   marked, none, places        vertices: slots 1 to 4 hold points, no slot does, the points
--   lines                       the table
use Rattle.std.specs.Prelude.{ℕ, false, List, [], ◌∷◌, ◌++◌, pos, Float, Err}
use Rattle.std.specs.Float.{fin}
use Rattle.map_betas.specs.declared.error.Refusal.TheVariants.{NotAMap, BadDart, AlreadyFree, AsymmetricalFaces, BadGeometry, PlanRoom}
use Rattle.map_betas.specs.Answers.{Outcome, outcome, Answer, done}
use Rattle.link_glue.specs.Examples.{Line, line, row, free, lone, pair, pair_linked, in_use}
use Rattle.sew_points.specs.Geometry.{plus_zero}
use Rattle.sew_ground.specs.Calls.{SewLoans, one_sew, one_unsew, two_sew, two_unsew}
use Rattle.sew_pairs.specs.Examples.{zeros3, zeros4, sevens, six}

abbrev pub flap : List ℕ
flap = free ++ row 0 0 3 0 ++ free ++ row 0 0 1 0

abbrev pub flap_sewn : List ℕ
flap_sewn = free ++ row 0 2 3 0 ++ row 1 0 0 0 ++ row 0 0 1 0

abbrev pub strips : List ℕ
strips = free ++ row 0 2 0 0 ++ row 1 0 0 0 ++ row 0 4 0 0 ++ row 3 0 0 0

abbrev pub strips_sewn : List ℕ
strips_sewn = free ++ row 0 2 3 0 ++ row 1 0 0 0 ++ row 0 4 1 0 ++ row 3 0 0 0

abbrev pub bent : List ℕ
bent = free ++ row 0 0 0 2 ++ row 3 0 0 1 ++ row 0 2 0 0

abbrev pub bent_sewn : List ℕ
bent_sewn = free ++ row 0 0 3 2 ++ row 3 0 0 1 ++ row 0 2 1 0

abbrev pub hinged : List ℕ
hinged = free ++ row 3 0 0 2 ++ row 0 0 0 1 ++ row 0 1 0 0

abbrev pub hinged_sewn : List ℕ
hinged_sewn = free ++ row 3 0 0 2 ++ row 0 0 3 1 ++ row 0 1 2 0

abbrev pub zeros5 : List ℕ
zeros5 = 0 ∷ zeros4

abbrev pub marked : List ℕ
marked = 0 ∷ 1 ∷ 1 ∷ 1 ∷ 1 ∷ []

abbrev pub origin : List Float
origin = plus_zero ∷ plus_zero ∷ plus_zero ∷ []

abbrev pub east : List Float
east = fin false 1 (pos 0) ∷ plus_zero ∷ plus_zero ∷ []

abbrev pub north : List Float
north = plus_zero ∷ fin false 1 (pos 0) ∷ plus_zero ∷ []

-- the points of darts 0 to 4
abbrev pub places : List Float → List Float → List Float → List Float → List Float
places p q s t = origin ++ (p ++ (q ++ (s ++ t)))

-- room for three entries
abbrev three : List ℕ
three = sevens ++ sevens ++ sevens

-- an answer, then rows, marks and queue, and plan
abbrev leaving : Answer → List ℕ → List ℕ → List ℕ → Outcome SewLoans
leaving a rows zeros plan = outcome a (rows, zeros, zeros, plan)

unfoldable pub lines : List (Line (Outcome SewLoans))
lines =
    -- nothing at the joint but ld and rd: no entry
    line (one_sew lone zeros3 zeros3 (in_use lone) sevens 1 2) (leaving (done 0 0) pair zeros3 sevens)
    -- the vertex of ld's beta 2 image and that of rd become one
    ∷ line (one_sew flap zeros4 zeros4 (in_use flap) sevens 1 2) (leaving (done 0 1) flap_sewn zeros4 (six 1 2 3 2 1 1))
    ∷ line (one_sew flap zeros4 zeros4 (in_use flap) zeros5 1 2) (leaving (Err (PlanRoom 1)) flap zeros4 zeros5)
    ∷ line (one_unsew flap_sewn zeros4 zeros4 (in_use flap_sewn) sevens 1) (leaving (done 2 1) flap zeros4 (six 11 3 2 2 1 1))
    ∷ line (one_unsew lone zeros3 zeros3 (in_use lone) sevens 1) (leaving (Err (AlreadyFree 1 1)) lone zeros3 sevens)
    -- the second unlink reads the rows as written so far
    ∷ line (one_unsew pair_linked zeros3 zeros3 (in_use pair_linked) sevens 1) (leaving (Err (AsymmetricalFaces 1 2)) pair_linked zeros3 sevens)
    -- the edges run against each other: 2:1,1,3; 1:1,1,4; 1:2,2,3
    ∷ line (two_sew strips zeros5 zeros5 (in_use strips) marked (places origin east east origin) three 1 3)
    (leaving (done 0 3) strips_sewn zeros5 (six 2 1 1 3 1 1 ++ six 1 1 1 4 1 1 ++ six 1 2 2 3 1 1))
    -- the edges stand at a right angle: 10
    ∷ line (two_sew strips zeros5 zeros5 (in_use strips) marked (places origin east origin north) sevens 1 3)
    (leaving (Err (BadGeometry 2 1 3)) strips zeros5 sevens)
    -- names and sizes are taken before linking
    ∷ line (two_sew bent zeros4 zeros4 (in_use bent) zeros4 (origin ++ origin ++ origin ++ origin) three 1 3)
    (leaving (done 0 3) bent_sewn zeros4 (six 2 1 1 3 2 1 ++ six 1 1 1 2 1 1 ++ six 1 2 2 3 1 1))
    -- the edge of three darts is as large as both; the vertex of three is not: two entries name the vertex of 1
    ∷ line (two_sew hinged zeros4 zeros4 (in_use hinged) zeros4 (origin ++ origin ++ origin ++ origin) three 2 3)
    (leaving (done 0 3) hinged_sewn zeros4 (six 2 1 1 3 2 1 ++ six 1 1 2 1 1 1 ++ six 1 1 1 3 1 1))
    ∷ line (two_unsew strips_sewn zeros5 zeros5 (in_use strips_sewn) three 1)
    (leaving (done 3 3) strips zeros5 (six 12 1 3 1 1 1 ++ six 11 1 4 1 1 1 ++ six 11 2 3 2 1 1))
    ∷ line (two_unsew strips zeros5 zeros5 (in_use strips) sevens 1) (leaving (Err (AlreadyFree 2 1)) strips zeros5 sevens)
    -- an unused dart that is given, and one that is linked
    ∷ line (one_sew lone zeros3 zeros3 (0 ∷ 0 ∷ 1 ∷ []) sevens 1 2) (leaving (Err (BadDart 2)) lone zeros3 sevens)
    ∷ line (two_unsew strips_sewn zeros5 zeros5 (0 ∷ 0 ∷ 0 ∷ 0 ∷ 1 ∷ []) sevens 1) (leaving (Err (NotAMap 4 4)) strips_sewn zeros5 sevens)
    ∷ []
