-- What a sew or an unsew leaves.
--   Work        what it does while the plan has room for everything: its answer, the rows, the entries
--   Sewn        an answer, the rows and the plan
--   settled     entries with the room that the plan has: written, or refusal 11
--   sewn        a work, with the room that the plan has: refusal 11 where it does not fit, and only then
--   dart_of      the dart of an answer
use Rattle.std.specs.Prelude.{ℕ, cond, List, length, nat_le, Err, Ok, is_ok}
use Rattle.map_betas.specs.declared.error.Refusal.TheVariants.{PlanRoom}
use Rattle.map_betas.specs.Answers.{Answer, done}
use Rattle.sew_plan.specs.declared.Entry.{Entry}
use Rattle.sew_plan.specs.Plan.{room_of, put_plan}

pub record Work : Type 0 where
  pub answer : Answer
  pub rows : List ℕ
  pub entries : List Entry

abbrev pub work : Answer → List ℕ → List Entry → Work
work a rows entries = record { answer = a; rows = rows; entries = entries }

pub record Sewn : Type 0 where
  pub answer : Answer
  pub rows : List ℕ
  pub plan : List ℕ

abbrev pub leaves : Answer → List ℕ → List ℕ → Sewn
leaves a rows plan = record { answer = a; rows = rows; plan = plan }

abbrev pub dart_of : Answer → ℕ
dart_of (Ok x) = x.value
dart_of (Err w) = 0

-- the answer with the count of entries, and the plan
pub record Settled : Type 0 where
  pub answer : Answer
  pub plan : List ℕ

abbrev pub settles : Answer → List ℕ → Settled
settles a plan = record { answer = a; plan = plan }

-- scope: room. The entries where they fit, else how many there are.
unfoldable pub settled : List ℕ → ℕ → List Entry → Settled
settled plan d es =
    cond (nat_le (length es) (room_of plan)) (settles (done d (length es)) (put_plan es plan)) (settles (Err (PlanRoom (length es))) plan)

-- where the plan had no room, the rows of the start
abbrev pub after_plan : List ℕ → List ℕ → Settled → Sewn
after_plan rows rows' s = leaves s.answer (cond (is_ok s.answer) rows' rows) s.plan

unfoldable pub sewn : List ℕ → List ℕ → Work → Sewn
sewn rows plan w =
    cond (is_ok w.answer) (after_plan rows w.rows (settled plan (dart_of w.answer) w.entries)) (leaves w.answer rows plan)
