-- The image of the closed triangle, and refusals, computed. Assumes nothing.
--   triangle        the closed triangle 1, 2, 3 with no vertex: header 1 96 4 28 92 0 96
--   triangle_read   it is read: (0, 4), its rows, no flag, no vertex, and the places behind unchanged
--   pair            one real dart, flagged, with a vertex at (1, -0, 2)
--   pair_read       it is read, its point with it
--   refusals        an image for each refusal
--   short           a loan too short for each refusal
use Prim.Native.Nat.{ℕ}
use mathlib.Core.Path.{◌≡◌, refl}
use mathlib.Core.Bool.{true, false}
use mathlib.Core.List.{List, [], ◌∷◌, ◌++◌, map}
use lib.ListN.{replicate, set}
use lib.IntN.{pos}
use lib.Ieee.{Float, fin, of_bits}
use Rattle.map_betas.specs.declared.error.Loan.TheVariants.{Flags, Vertices, Coordinates, Rows}
use Rattle.map_betas.specs.declared.error.Refusal.TheVariants.{BadImage, ShortLoan, NotAMap}
use Rattle.map_betas.specs.Guards.{loan_test}
use Rattle.map_betas.specs.Maps.{breaks, breach_at, free_at, unused, bound, first_breach, map_test}
use Rattle.image_words.specs.Lists.{listed}
use Rattle.image_words.specs.Words.{word32, word64, coordinate_at}
use Rattle.image_form.specs.Tests.{unless, start_test, layout_test, bits_only, flags_test, record_good, records_good, vertices_test}
use Rattle.image_reader.specs.Tests.{loans_test, blocks_test, image_test}
use Rattle.image_fill.specs.Content.{put_record, put_records, slots_of}
use Rattle.image_reader.specs.Reads.{Read, read_out, wrote, read_within, read_image}
use Rattle.map_betas.specs.Answers.{Answer, done}
use Rattle.std.specs.Prelude.{Err}

-- a word below 256
abbrev word : ℕ → List ℕ
word x = x ∷ 0 ∷ 0 ∷ 0 ∷ []

abbrev words7 : ℕ → ℕ → ℕ → ℕ → ℕ → ℕ → ℕ → List ℕ
words7 a b c d e f g = word a ++ word b ++ word c ++ word d ++ word e ++ word f ++ word g

abbrev row : ℕ → ℕ → ℕ → ℕ → List ℕ
row a b c d = word a ++ word b ++ word c ++ word d

abbrev triangle : List ℕ
triangle =
    words7 1 96 4 28 92 0 96 ++ row 0 0 0 0 ++ row 3 2 0 0 ++ row 1 3 0 0 ++ row 2 1 0 0 ++ replicate 4 0

abbrev pair : List ℕ
pair =
    words7 1 90 2 28 60 1 62 ++ row 0 0 0 0 ++ row 0 0 0 0 ++ (0 ∷ 1 ∷ []) ++ word 1 ++ replicate 6 0 ++ (240 ∷ 63 ∷ []) ++ replicate 7 0 ++ (128 ∷ [])
    ++ replicate 7 0 ++ (64 ∷ [])

abbrev plus0 : Float
plus0 = fin false 0 (pos 0)

abbrev minus0 : Float
minus0 = fin true 0 (pos 0)

abbrev one : Float
one = fin false 1 (pos 0)

abbrev two : Float
two = fin false 1 (pos 1)

-- five flags and marks, thirteen coordinates and eighteen row places are lent: more than four darts need
abbrev read : List ℕ → Read
read bytes = read_image bytes (replicate 5 9) (replicate 5 9) (replicate 13 one) (replicate 18 9)

abbrev answer : List ℕ → Answer
answer bytes = (read bytes).answer

triangle_read : read triangle ≡
    read_out (done 0 4) (0 ∷ 0 ∷ 0 ∷ 0 ∷ 9 ∷ []) (0 ∷ 0 ∷ 0 ∷ 0 ∷ 9 ∷ []) (replicate 12 plus0 ++ (one ∷ []))
    (0 ∷ 0 ∷ 0 ∷ 0 ∷ 3 ∷ 2 ∷ 0 ∷ 0 ∷ 1 ∷ 3 ∷ 0 ∷ 0 ∷ 2 ∷ 1 ∷ 0 ∷ 0 ∷ 9 ∷ 9 ∷ [])
unfolding read_within wrote slots_of put_record put_records image_test blocks_test loans_test vertices_test records_good record_good flags_test bits_only layout_test
    start_test unless loan_test map_test first_breach breach_at breaks bound unused free_at word32 word64 coordinate_at listed of_bits
triangle_read = refl

pair_read : read pair ≡
    read_out (done 0 2) (0 ∷ 1 ∷ replicate 3 9) (0 ∷ 1 ∷ replicate 3 9) (plus0 ∷ plus0 ∷ plus0 ∷ one ∷ minus0 ∷ two ∷ replicate 7 one)
    (replicate 8 0 ++ replicate 10 9)
unfolding read_within wrote slots_of put_record put_records image_test blocks_test loans_test vertices_test records_good record_good flags_test bits_only layout_test
    start_test unless loan_test map_test first_breach breach_at breaks bound unused free_at word32 word64 coordinate_at listed of_bits
pair_read = refl

-- what is wrong, and the refusal
refusals : map answer
    ((1 ∷ 0 ∷ 0 ∷ [])  -- three bytes
    ∷ word 2  -- four bytes, of another form
    ∷ word 1  -- four bytes
    ∷ (triangle ++ (0 ∷ []))  -- one byte too many
    ∷ set triangle 8 0  -- no dart
    ∷ set (set triangle 8 1) 10 16  -- 1,048,577 darts
    ∷ set triangle 12 32  -- another row offset
    ∷ set triangle 16 96  -- another flag offset
    ∷ set triangle 20 4  -- as many vertices as darts
    ∷ set triangle 20 1  -- a vertex that the total has no room for
    ∷ set triangle 24 92  -- another vertex offset
    ∷ set triangle 92 1  -- the null dart flagged
    ∷ set triangle 94 2  -- a flag 2
    ∷ set pair 62 0  -- a vertex of the null dart
    ∷ set pair 62 2  -- a vertex of no dart
    ∷ set (set pair 72 248) 73 127  -- a NaN
    ∷ set pair 89 127  -- still finite
    ∷ set (set pair 88 240) 89 255  -- minus infinity
    ∷ set triangle 48 0  -- beta 1 of dart 1 is null, so that beta 0 of dart 2 does not lead back
    ∷ set triangle 95 1  -- dart 3 unused and linked
    ∷ set (set triangle 95 1) 48 0  -- the same, where dart 2 breaks a rule before
    ∷ [])
    ≡ Err (BadImage 1) ∷ Err (BadImage 0) ∷ Err (BadImage 1) ∷ Err (BadImage 1) ∷ Err (BadImage 2) ∷ Err (BadImage 2)
    ∷ Err (BadImage 3) ∷ Err (BadImage 4) ∷ Err (BadImage 5) ∷ Err (BadImage 5) ∷ Err (BadImage 6) ∷ Err (BadImage 7)
    ∷ Err (BadImage 7) ∷ Err (BadImage 8) ∷ Err (BadImage 8) ∷ Err (BadImage 8) ∷ done 0 2 ∷ Err (BadImage 8)
    ∷ Err (NotAMap 0 2) ∷ Err (NotAMap 4 3) ∷ Err (NotAMap 0 2) ∷ []
unfolding read_within wrote slots_of put_record put_records image_test blocks_test loans_test vertices_test records_good record_good flags_test bits_only layout_test
    start_test unless loan_test map_test first_breach breach_at breaks bound unused free_at word32 word64 coordinate_at listed of_bits
refusals = refl

-- the loans, one place too short each
short : ((read_image triangle (replicate 3 9) [] [] []).answer ≡ Err (ShortLoan Flags))
    × ((read_image triangle (replicate 4 9) (replicate 3 9) [] []).answer ≡ Err (ShortLoan Vertices))
    × ((read_image triangle (replicate 4 9) (replicate 4 9) (replicate 11 one) []).answer ≡ Err (ShortLoan Coordinates))
    × ((read_image triangle (replicate 4 9) (replicate 4 9) (replicate 12 one) (replicate 15 9)).answer ≡ Err (ShortLoan Rows))
unfolding read_within wrote slots_of put_record put_records image_test blocks_test loans_test vertices_test records_good record_good flags_test bits_only layout_test
    start_test unless loan_test map_test first_breach breach_at breaks bound unused free_at word32 word64 coordinate_at listed of_bits
short = (refl, refl, refl, refl)
