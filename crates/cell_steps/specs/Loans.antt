-- What holds of the scratch and of the output that the cores are lent.
--   Zero l           every place is 0
--   AreSteps steps   every place is the number of a step
--   Scratch          rows, marks and queue fit together
--   Clean            marks and queue of n places, all 0
--   Queue            the first places of a list are different darts, and the marks say which
--   Grown            a queue has grown to hold a given list
--   Cleared          the marks of a list are 0 again
--   Listed           a list stands in an output's first places, and the rest is as it was
use Rattle.std.specs.Prelude.{ℕ, ◌≤◌, ◌<◌, ◌≡◌, Bool, true, false, cond, List, ◌++◌, length, get_or, take, drop}
use Rattle.map_betas.specs.Betas.{darts}
use Rattle.cell_steps.specs.Steps.{IsStep}
use Rattle.cell_steps.specs.Search.{In, NoRep, mem}

pub record Zero (l : List ℕ) : Type 0 where
  pub place : (x : ℕ) → get_or l x 0 ≡ 0

pub record AreSteps (steps : List ℕ) : Type 0 where
  pub each : (j : ℕ) → j < length steps → IsStep (get_or steps j 0)

-- a core is lent exactly n marks
pub record Scratch (rows marks queue : List ℕ) : Type 0 where
  pub marks_n : length marks ≡ darts rows
  pub queue_n : darts rows ≤ length queue

-- what the cores of identifiers and sews are lent, and give back so
pub record Clean (n : ℕ) (marks queue : List ℕ) : Type 0 where
  pub marks_n : length marks ≡ n
  pub queue_n : length queue ≡ n
  pub marks_0 : Zero marks
  pub queue_0 : Zero queue

abbrev pub flag : Bool → ℕ
flag true = 1
flag false = 0

-- the first k places of out are different darts, and the marks are 1 at those and 0 elsewhere
pub record Queue (marks out : List ℕ) (k : ℕ) : Type 0 where
  pub room : k ≤ length out
  pub norep : NoRep (take k out)
  pub below : (x : ℕ) → In x (take k out) → x < length marks
  pub flags : (x : ℕ) → x < length marks → get_or marks x 0 ≡ flag (mem x (take k out))

-- from k places the queue has grown to r places, which hold l, and what stands behind them is as it was
pub record Grown (out : List ℕ) (k : ℕ) (l marks' out' : List ℕ) (r : ℕ) : Type 0 where
  pub front : take r out' ≡ l
  pub back : drop r out' ≡ drop r out
  pub more : k ≤ r
  pub queue : Queue marks' out' r

-- the marks of the listed darts are 0, and the others as they were
pub record Cleared (l m₀ m : List ℕ) : Type 0 where
  pub mark : (x : ℕ) → get_or m x 0 ≡ cond (mem x l) 0 (get_or m₀ x 0)

-- the count is the list's own length, and the output beyond it stays as it was
pub record Listed (l out out' : List ℕ) (r : ℕ) : Type 0 where
  pub count : r ≡ length l
  pub places : out' ≡ l ++ drop (length l) out
