-- What a call answers, and what it leaves.
--   pass          done, with nothing to say
--   is_ok a      whether a is no refusal
--   result_and a b   a where it is a refusal, else b
--   tell_of a      the number and the three values of a, as the table of scope: numbers has them
--   Out           what a core leaves: an answer and the rows
--   Outcome L     an answer and what is left of the loans, an L: their contents, in the order of the call's parameters
--   given o       what a core leaves, as what a call leaves whose one loan is the rows
--   behind        a call behind its tests: the refusal with every loan as it was, or the call
use Rattle.std.specs.Prelude.{ℕ, List, ⊤, Result, Ok, Err}
use Rattle.map_betas.specs.declared.error.Done.{Done}
use Rattle.map_betas.specs.declared.error.Loan.{Loan}
use Rattle.map_betas.specs.declared.error.Loan.TheVariants.{Marks, Queue, Output, Flags, Vertices, Coordinates, Rows, Numbered}
use Rattle.map_betas.specs.declared.error.Refusal.{Refusal}
use Rattle.map_betas.specs.declared.error.Refusal.TheVariants.{BadSize, ShortLoan, NotAMap, BadDart, BadBeta, NonFreeBase}
use Rattle.map_betas.specs.declared.error.Refusal.TheVariants.{NonFreeImage, AlreadyFree, AsymmetricalFaces, BadGeometry, PlanRoom, BadImage, BadCommand}
use Rattle.map_betas.specs.declared.error.Refusal.TheVariants.{ImageRoom}
use Rattle.map_betas.specs.declared.error.Told.{Told}

abbrev pub Answer : Type 0
Answer = Result Done Refusal

abbrev pub done : ℕ → ℕ → Answer
done d k = Ok (record { value = d; count = k })

abbrev pub nothing : Answer
nothing = done 0 0

abbrev pub Test : Type 0
Test = Result ⊤ Refusal

abbrev pub pass : Test
pass = Ok tt

abbrev pub told_of : ℕ → ℕ → ℕ → ℕ → Told
told_of k a b c = record { number = k; first = a; second = b; third = c }

-- the number of a loan (scope: loans)
abbrev pub loan_number : Loan → ℕ
loan_number Marks = 1
loan_number Queue = 2
loan_number Output = 3
loan_number Flags = 4
loan_number Vertices = 5
loan_number Coordinates = 6
loan_number Rows = 7
loan_number (Numbered k) = k

-- a refusal's number and values (scope: numbers): the one place that goes by cases on a refusal
abbrev pub refusal_of : Refusal → Told
refusal_of (BadSize k) = told_of 1 k 0 0
refusal_of (ShortLoan loan) = told_of 2 (loan_number loan) 0 0
refusal_of (NotAMap i d) = told_of 3 i d 0
refusal_of (BadDart k) = told_of 4 k 0 0
refusal_of (BadBeta i) = told_of 5 i 0 0
refusal_of (NonFreeBase i l r) = told_of 6 i l r
refusal_of (NonFreeImage i l r) = told_of 7 i l r
refusal_of (AlreadyFree i d) = told_of 8 i d 0
refusal_of (AsymmetricalFaces l r) = told_of 9 l r 0
refusal_of (BadGeometry i l r) = told_of 10 i l r
refusal_of (PlanRoom k) = told_of 11 k 0 0
refusal_of (BadImage k) = told_of 12 k 0 0
refusal_of (BadCommand k) = told_of 13 k 0 0
refusal_of (ImageRoom k) = told_of 14 k 0 0

abbrev pub tell_of : Answer → Told
tell_of (Ok x) = told_of 0 x.value x.count 0
tell_of (Err w) = refusal_of w

pub record Out : Type 0 where
  pub answer : Answer
  pub rows : List ℕ

abbrev pub out : Answer → List ℕ → Out
out a rows = record { answer = a; rows = rows }

pub record Outcome (L : Type 0) : Type 0 where
  pub answer : Answer
  pub loans : L

abbrev pub outcome : {L : Type 0} → Answer → L → Outcome L
outcome a loans = record { answer = a; loans = loans }

abbrev pub given : Out → Outcome (List ℕ)
given o = outcome o.answer o.rows

-- what a call leaves behind its tests: their refusal leaves every loan, scratch too (scope: what is left)
abbrev pub behind : {L : Type 0} → Test → L → Outcome L → Outcome L
behind (Ok x) loans o = o
behind (Err w) loans o = outcome (Err w) loans
