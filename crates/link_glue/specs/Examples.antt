-- The worked examples of links (scope: examples), as one table; `proofs/Agree.antt` has the one claim over it.
--   Line A           a row of the table: what the call leaves, an A, and what the table says; here A is `Outcome (List ℕ)`, an answer and rows
--   one, loops, ..   maps: chains by beta 1, closed where they are called loops; every other image is null
--   in_use rows       flags of these rows with no dart unused
--   lines            the table: the lines of links, then the smallest inputs that tell the readings of the walk apart, then unused darts
--   calls, sayings   its two columns
-- A crate above this one joins its own lines with these by `++`, at an A that has its further loans too.
use Rattle.std.specs.Prelude.{ℕ, List, [], ◌∷◌, ◌++◌, replicate, Err}
use Rattle.map_betas.specs.declared.error.Refusal.TheVariants.{NotAMap, BadDart, NonFreeBase, NonFreeImage, AsymmetricalFaces}
use Rattle.map_betas.specs.Betas.{darts}
use Rattle.map_betas.specs.Answers.{Outcome, outcome, nothing}
use Rattle.link_walk.specs.Calls.{three_link, three_unlink}

-- a dart's images by beta 0, 1, 2 and 3
abbrev pub row : ℕ → ℕ → ℕ → ℕ → List ℕ
row a b c d = a ∷ b ∷ c ∷ d ∷ []

abbrev pub free : List ℕ
free = row 0 0 0 0

-- dart 1
abbrev pub one : List ℕ
one = free ++ free

-- loops 1 2 3; 4 5 6 7
abbrev pub loops : List ℕ
loops = free ++ row 3 2 0 0 ++ row 1 3 0 0 ++ row 2 1 0 0 ++ row 7 5 0 0 ++ row 4 6 0 0 ++ row 5 7 0 0 ++ row 6 4 0 0

-- pairs 1-4, 2-7, 3-6; 5 free
abbrev pub loops_linked : List ℕ
loops_linked = free ++ row 3 2 0 4 ++ row 1 3 0 7 ++ row 2 1 0 6 ++ row 7 5 0 1 ++ row 4 6 0 0 ++ row 5 7 0 3 ++ row 6 4 0 2

-- loop 1 2 3 4
abbrev pub square : List ℕ
square = free ++ row 4 2 0 0 ++ row 1 3 0 0 ++ row 2 4 0 0 ++ row 3 1 0 0

-- open 1 2; 3 4 5
abbrev pub opens : List ℕ
opens = free ++ row 0 2 0 0 ++ row 1 0 0 0 ++ row 0 4 0 0 ++ row 3 5 0 0 ++ row 4 0 0 0

-- pairs 1-4, 2-3; 5 free
abbrev pub opens_linked : List ℕ
opens_linked = free ++ row 0 2 0 4 ++ row 1 0 0 3 ++ row 0 4 0 2 ++ row 3 5 0 1 ++ row 4 0 0 0

-- open 1 2
abbrev pub pair : List ℕ
pair = free ++ row 0 2 0 0 ++ row 1 0 0 0

-- open 1 2, 3-linked to each other
abbrev pub pair_linked : List ℕ
pair_linked = free ++ row 0 2 0 2 ++ row 1 0 0 1

-- open 4 1; darts 2 and 3
abbrev pub late : List ℕ
late = free ++ row 4 0 0 0 ++ free ++ free ++ row 0 1 0 0

-- darts 1 and 2
abbrev pub lone : List ℕ
lone = free ++ free ++ free

abbrev pub in_use : List ℕ → List ℕ
in_use rows = replicate (darts rows) 0

abbrev link : List ℕ → ℕ → ℕ → Outcome (List ℕ)
link rows ld rd = three_link rows (in_use rows) ld rd

abbrev unlink : List ℕ → ℕ → Outcome (List ℕ)
unlink rows ld = three_unlink rows (in_use rows) ld

pub record Line (A : Type 0) : Type 0 where
  pub call : A
  pub says : A

abbrev pub line : {A : Type 0} → A → A → Line A
line c s = record { call = c; says = s }

unfoldable pub lines : List (Line (Outcome (List ℕ)))
lines =
    line (link one 1 1) (outcome (Err (NonFreeImage 3 1 1)) one)
    ∷ line (link loops 1 4) (outcome nothing loops_linked)
    ∷ line (unlink loops_linked 4) (outcome (Err (AsymmetricalFaces 4 1)) loops_linked)
    ∷ line (link loops 4 1) (outcome (Err (NonFreeImage 3 7 1)) loops)
    ∷ line (link square 1 2) (outcome (Err (NonFreeBase 3 2 1)) square)
    ∷ line (link opens 1 4) (outcome nothing opens_linked)
    ∷ line (link opens 5 1) (outcome (Err (AsymmetricalFaces 5 1)) opens)
    -- walks read the rows as written so far
    ∷ line (link pair 1 2) (outcome (Err (NonFreeBase 3 2 1)) pair)
    ∷ line (unlink pair_linked 1) (outcome (Err (AsymmetricalFaces 1 2)) pair_linked)
    -- only a closed chain is excused the step to ld
    ∷ line (link late 1 2) (outcome (Err (AsymmetricalFaces 1 2)) late)
    -- an unused dart that is linked, and one that is given: the first bad one decides; the flag of dart 0 says nothing
    ∷ line (three_link pair (0 ∷ 0 ∷ 1 ∷ []) 1 9) (outcome (Err (NotAMap 4 2)) pair)
    ∷ line (three_link lone (0 ∷ 0 ∷ 9 ∷ []) 1 2) (outcome (Err (BadDart 2)) lone)
    ∷ line (three_link lone (0 ∷ 1 ∷ 0 ∷ []) 1 0) (outcome (Err (BadDart 1)) lone)
    ∷ line (three_link lone (1 ∷ 0 ∷ 0 ∷ 1 ∷ []) 1 2) (outcome nothing (free ++ row 0 0 0 2 ++ row 0 0 0 1))
    ∷ []

unfoldable pub calls : {A : Type 0} → List (Line A) → List A
calls [] = []
calls (l ∷ ls) = l.call ∷ calls ls

unfoldable pub sayings : {A : Type 0} → List (Line A) → List A
sayings [] = []
sayings (l ∷ ls) = l.says ∷ sayings ls
