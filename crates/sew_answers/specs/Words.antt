-- The answers of a list of commands, as the numbers that the output holds.
--   answer_width        how many numbers one answer takes
--   answer_words a      the five numbers of an answer
--   count_of a          the entries that a command has written
--   answered out k a   an output after its answer number k was written
--   Fits a             every number of an answer is one of 32 bits
use Rattle.std.specs.Prelude.{ℕ, ◌+◌, ◌*◌, ◌<◌, List, [], ◌∷◌, ◌++◌, take, drop, Err, Ok}
use Rattle.map_betas.specs.declared.error.Refusal.{Refusal}
use Rattle.map_betas.specs.declared.error.Refusal.TheVariants.{BadSize, ShortLoan, NotAMap, BadDart, BadBeta, NonFreeBase, NonFreeImage}
use Rattle.map_betas.specs.declared.error.Refusal.TheVariants.{AlreadyFree, AsymmetricalFaces, BadGeometry, PlanRoom, BadImage, BadCommand, ImageRoom}
use Rattle.map_betas.specs.declared.error.Told.{Told}
use Rattle.map_betas.specs.Answers.{refusal_of, Answer}

-- the numbers of one answer (scope: commands)
abbrev pub answer_width : ℕ
answer_width = 5

-- a refusal has the number and the values of every call's (`refusal_of`), and no entries
abbrev pub refused_words : Told → List ℕ
refused_words t = t.number ∷ t.first ∷ t.second ∷ t.third ∷ 0 ∷ []

-- done, only the dart is a value; the count of entries stands last
abbrev pub answer_words : Answer → List ℕ
answer_words (Ok x) = 0 ∷ x.value ∷ 0 ∷ 0 ∷ x.count ∷ []
answer_words (Err w) = refused_words (refusal_of w)

abbrev pub count_of : Answer → ℕ
count_of (Ok x) = x.count
count_of (Err w) = 0

-- answer number k takes the places from 5 k on, and no other place changes
unfoldable pub answered : List ℕ → ℕ → Answer → List ℕ
answered out k a = take (answer_width * k) out ++ (answer_words a ++ drop (answer_width * k + answer_width) out)

-- a length that is a value of a refusal has to be a number of 32 bits; every other value is one
abbrev pub FitsRefusal : Refusal → Type 0
FitsRefusal (BadSize k) = k < 4294967296
FitsRefusal (ShortLoan k) = Unit {0}
FitsRefusal (NotAMap i d) = Unit {0}
FitsRefusal (BadDart k) = Unit {0}
FitsRefusal (BadBeta i) = Unit {0}
FitsRefusal (NonFreeBase i l r) = Unit {0}
FitsRefusal (NonFreeImage i l r) = Unit {0}
FitsRefusal (AlreadyFree i d) = Unit {0}
FitsRefusal (AsymmetricalFaces l r) = Unit {0}
FitsRefusal (BadGeometry i l r) = Unit {0}
FitsRefusal (PlanRoom k) = k < 4294967296
FitsRefusal (BadImage k) = Unit {0}
FitsRefusal (BadCommand k) = Unit {0}
FitsRefusal (ImageRoom k) = k < 4294967296

abbrev pub Fits : Answer → Type 0
Fits (Ok x) = x.count < 4294967296
Fits (Err w) = FitsRefusal w
