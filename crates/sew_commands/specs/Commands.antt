-- One command of a list: a call that a user has, by its operation's number.
--   operations, known, command_of   what a number stands for
--   Lending, LongEnough  what each call of a list is lent beside rows and plan, and that it is long enough
--   sew_call_of            the call of a sew's or an unsew's name
--   call_of               the call of a command, and what it leaves of rows and plan
--   called               the same of an operation's number
--   sew_second            the second dart that a sew looks at
--   sew_tested, core_of, run   a command on a map, where its darts alone are tested
use Rattle.std.specs.Prelude.{ℕ, ◌*◌, ◌≤◌, List, [], ◌∷◌, Float, length, get_or, Option, None, Some, Result, Ok, Err}
use Rattle.map_betas.specs.declared.error.Refusal.{Refusal}
use Rattle.map_betas.specs.declared.error.Refusal.TheVariants.{BadCommand}
use Rattle.map_betas.specs.Betas.{darts}
use Rattle.map_betas.specs.Answers.{Outcome, Test}
use Rattle.map_betas.specs.Guards.{dart_test}
use Rattle.link_run.specs.declared.links.Link.TheVariants.{OneLink, TwoLink, ThreeLink, OneUnlink, TwoUnlink, ThreeUnlink}
use Rattle.link_run.specs.Links.{link_call, link_tested}
use Rattle.sew_ground.specs.Sewn.{Sewn, leaves, sewn}
use Rattle.sew_ground.specs.Calls.{SewLoans, one_sew, one_unsew, two_sew, two_unsew}
use Rattle.sew_pairs.specs.Calls.{three_unsew}
use Rattle.sew_operations.specs.declared.operations.Operation.{Operation}
use Rattle.sew_operations.specs.declared.operations.Operation.TheVariants.{OneSew, OneUnsew, TwoSew, TwoUnsew, ThreeUnsew}
use Rattle.sew_operations.specs.Operations.{work_of}
use Rattle.sew_commands.specs.declared.commands.Command.{Command}
use Rattle.sew_commands.specs.declared.commands.Command.TheVariants.{Links, Sews}

-- scope: commands. The operations in the order of their numbers, from 0 on, which stands for none; there is none beyond 11.
abbrev pub operations : List (Option Command)
operations =
    None
    ∷ Some (Links OneLink) ∷ Some (Links TwoLink) ∷ Some (Links ThreeLink)
    ∷ Some (Sews OneSew) ∷ Some (Sews TwoSew)
    ∷ Some (Links OneUnlink) ∷ Some (Links TwoUnlink) ∷ Some (Links ThreeUnlink)
    ∷ Some (Sews OneUnsew) ∷ Some (Sews TwoUnsew) ∷ Some (Sews ThreeUnsew) ∷ []

-- a number that stands for none is refused
abbrev pub known : ℕ → Option Command → Result Command Refusal
known operation None = Err (BadCommand operation)
known operation (Some c) = Ok c

unfoldable pub command_of : ℕ → Result Command Refusal
command_of operation = known operation (get_or operations operation None)

-- flags are lent to every call, marks and queue to every sew, and no sew looks at what these hold; only the 2-sew looks at the vertices
pub record Lending : Type 0 where
  pub marks : List ℕ
  pub queue : List ℕ
  pub flags : List ℕ
  pub vertices : List ℕ
  pub coordinates : List Float

abbrev pub lending : List ℕ → List ℕ → List ℕ → List ℕ → List Float → Lending
lending marks queue flags vertices coordinates =
    record { marks = marks; queue = queue; flags = flags; vertices = vertices; coordinates = coordinates }

-- what n darts ask of them; that there is a flag for each is the map's own (`Map`)
pub record LongEnough (n : ℕ) (lent : Lending) : Type 0 where
  pub marks : n ≤ length lent.marks
  pub queue : n ≤ length lent.queue
  pub vertices : n ≤ length lent.vertices
  pub coordinates : 3 * n ≤ length lent.coordinates

-- the calls that a user has; an unsew is not given the second dart
abbrev pub sew_call_of : Operation → Lending → List ℕ → List ℕ → ℕ → ℕ → Outcome SewLoans
sew_call_of OneSew lent rows plan ld rd = one_sew rows lent.marks lent.queue lent.flags plan ld rd
sew_call_of OneUnsew lent rows plan ld rd = one_unsew rows lent.marks lent.queue lent.flags plan ld
sew_call_of TwoSew lent rows plan ld rd = two_sew rows lent.marks lent.queue lent.flags lent.vertices lent.coordinates plan ld rd
sew_call_of TwoUnsew lent rows plan ld rd = two_unsew rows lent.marks lent.queue lent.flags plan ld
sew_call_of ThreeUnsew lent rows plan ld rd = three_unsew rows lent.marks lent.queue lent.flags plan ld

-- what a link's call leaves, with the plan that it has not got
abbrev pub on_rows : Outcome (List ℕ) → List ℕ → Sewn
on_rows o plan = leaves o.answer o.loans plan

-- what a sew's call leaves of rows and plan
abbrev pub on_plan : Outcome SewLoans → Sewn
on_plan o = leaves o.answer o.loans.0 o.loans.3

-- a sew behind the test of its darts
abbrev pub after_darts : Test → List ℕ → List ℕ → Sewn → Sewn
after_darts (Ok x) rows plan s = s
after_darts (Err w) rows plan s = leaves (Err w) rows plan

-- a command is the call of its name, guard and all; a number that stands for none is refused before anything else
abbrev pub call_of : Result Command Refusal → Lending → ℕ → ℕ → List ℕ → List ℕ → Sewn
call_of (Ok (Links l)) lent ld rd rows plan = on_rows (link_call l rows lent.flags ld rd) plan
call_of (Ok (Sews o)) lent ld rd rows plan = on_plan (sew_call_of o lent rows plan ld rd)
call_of (Err w) lent ld rd rows plan = leaves (Err w) rows plan

unfoldable pub called : Lending → ℕ → ℕ → ℕ → List ℕ → List ℕ → Sewn
called lent operation ld rd rows plan = call_of (command_of operation) lent ld rd rows plan

-- an unsew has no second dart: its first stands in
abbrev pub sew_second : Operation → ℕ → ℕ → ℕ
sew_second OneSew ld rd = rd
sew_second OneUnsew ld rd = ld
sew_second TwoSew ld rd = rd
sew_second TwoUnsew ld rd = ld
sew_second ThreeUnsew ld rd = ld

unfoldable pub sew_tested : Operation → List ℕ → List ℕ → List Float → ℕ → ℕ → List ℕ → List ℕ → Sewn
sew_tested o flags vertices coordinates ld rd rows plan =
    after_darts (dart_test (darts rows) flags 1 ld (sew_second o ld rd)) rows plan (sewn rows plan (work_of o vertices coordinates rows ld rd))

-- A command as the code runs it, on a map and with loans that are long enough: its darts alone are tested. There it is the call
-- (`call_on_map`, `proofs/CommandLaws.antt`).
abbrev pub core_of : Result Command Refusal → List ℕ → List ℕ → List Float → ℕ → ℕ → List ℕ → List ℕ → Sewn
core_of (Ok (Links l)) flags vertices coordinates ld rd rows plan = on_rows (link_tested l rows flags ld rd) plan
core_of (Ok (Sews o)) flags vertices coordinates ld rd rows plan = sew_tested o flags vertices coordinates ld rd rows plan
core_of (Err w) flags vertices coordinates ld rd rows plan = leaves (Err w) rows plan

unfoldable pub run : List ℕ → List ℕ → List Float → ℕ → ℕ → ℕ → List ℕ → List ℕ → Sewn
run flags vertices coordinates operation ld rd rows plan = core_of (command_of operation) flags vertices coordinates ld rd rows plan
