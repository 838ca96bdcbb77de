-- What a command's answer says fits its five places, and what it has written fits the plan that it was lent.
--   plain_fits, plain_count   an answer that carries no length and no count
--   work_plain    the answer of a sew's work carries none
--   work_few      a sew has few entries
--   core_held     the numbers of an answer are of 32 bits, the plan stays as long as it was, and the entries written fit it
--   run_fits, run_long, run_room   the same of an operation's number
-- Assumes nothing.
use Prim.Native.Nat.{ℕ, ◌*◌, ◌<◌, ◌≤◌}
use native.Mathlib.Omega.{arith}
use mathlib.Core.Path.{◌≡◌, refl, ap, subst}
use mathlib.Core.Bool.{Bool, true, false, cond, not}
use mathlib.Core.List.{List, []}
use lib.Dec.{eqb, leb}
use lib.Ieee.{Float}
use lib.ListN.{length, length-append, length-drop}
use borrow.Author.Tests.{leb-true}
use Rattle.map_betas.specs.declared.error.Refusal.{Refusal}
use Rattle.map_betas.specs.declared.error.Refusal.TheVariants.{BadSize, ShortLoan, NotAMap, BadDart, BadBeta, NonFreeBase, NonFreeImage}
use Rattle.map_betas.specs.declared.error.Refusal.TheVariants.{AlreadyFree, AsymmetricalFaces, BadGeometry, PlanRoom, BadImage, BadCommand, ImageRoom}
use Rattle.map_betas.specs.Betas.{beta, darts}
use Rattle.map_betas.specs.Answers.{Out, out, pass, given, behind, Answer, Test, done}
use Rattle.map_betas.specs.Maps.{WellFormed}
use Rattle.map_betas.specs.Guards.{no_dart, dart_test, Dart}
use Rattle.map_betas.specs.Cores.{link_core, unlink_core}
use Rattle.map_betas.proofs.GuardLaws.{are_darts}
use Rattle.link_walk.specs.Three.{three_unlink_on}
use Rattle.link_walk.proofs.Kept.{unlink_kept}
use Rattle.link_run.specs.declared.links.Link.{Link}
use Rattle.link_run.specs.Links.{PlainRefusal, Plain, link_on, link_second, link_tested}
use Rattle.link_run.proofs.LinkLaws.{either_plain, core_plain, uncore_plain, three_unlink_plain, link_plain}
use Rattle.cell_steps.specs.declared.cells.Class.TheVariants.{Vertex, Edge}
use Rattle.sew_plan.specs.declared.Kind.{Kind}
use Rattle.sew_plan.specs.declared.Kind.TheVariants.{Merge, Split}
use Rattle.sew_plan.specs.declared.Entry.{Entry}
use Rattle.sew_plan.specs.Plan.{width, room_of, put_plan}
use Rattle.sew_plan.proofs.PlanLaws.{length_plan_of}
use Rattle.cell_steps.specs.Idents.{cell_of}
use Rattle.sew_ground.specs.Sewn.{Sewn, Work, work, leaves, dart_of, Settled, settles, settled, after_plan, sewn}
use Rattle.sew_ground.specs.One.{both_three, one_far, one_entries, or_back, one_links, one_sew_on, second_cut, agrees, one_unlinks, one_unsew_on}
use Rattle.sew_ground.specs.declared.sides.Side.{Side}
use Rattle.sew_ground.specs.Two.{side_of, two_entries, bad_sides, linked_sides, two_sew_on, two_unsew_on}
use Rattle.sew_ground.proofs.EntryLaws.{if_few}
use Rattle.sew_pairs.specs.Three.{three_unsew_on}
use Rattle.sew_pairs.proofs.FewLaws.{pairs_most, unsew_most}
use Rattle.sew_operations.specs.declared.operations.Operation.{Operation}
use Rattle.sew_operations.specs.declared.operations.Operation.TheVariants.{OneSew, OneUnsew, TwoSew, TwoUnsew, ThreeUnsew}
use Rattle.sew_operations.specs.Operations.{work_of}
use Rattle.sew_answers.specs.Words.{count_of, FitsRefusal, Fits}
use Rattle.sew_commands.specs.declared.commands.Command.{Command}
use Rattle.sew_commands.specs.declared.commands.Command.TheVariants.{Links, Sews}
use Rattle.sew_commands.specs.Commands.{operations, known, command_of, sew_second, after_darts, sew_tested, core_of, run}
use Rattle.std.specs.Prelude.{⊤, get_or, Option, None, Some, Result, Err, Ok, is_ok}

-- ---- answers that carry no length

refusal_fits : (w : Refusal) → PlainRefusal w → FitsRefusal w
refusal_fits (BadSize k) p = absurd p
refusal_fits (ShortLoan k) p = tt
refusal_fits (NotAMap i d) p = tt
refusal_fits (BadDart k) p = tt
refusal_fits (BadBeta i) p = tt
refusal_fits (NonFreeBase i l r) p = tt
refusal_fits (NonFreeImage i l r) p = tt
refusal_fits (AlreadyFree i d) p = tt
refusal_fits (AsymmetricalFaces l r) p = tt
refusal_fits (BadGeometry i l r) p = tt
refusal_fits (PlanRoom k) p = absurd p
refusal_fits (BadImage k) p = tt
refusal_fits (BadCommand k) p = tt
refusal_fits (ImageRoom k) p = absurd p

pub plain_fits : (a : Answer) → Plain a → Fits a
plain_fits (Ok x) p = omega (arith, p)
plain_fits (Err w) p = refusal_fits w p

pub plain_count : (a : Answer) → Plain a → count_of a ≡ 0
plain_count (Ok x) p = p
plain_count (Err w) p = refl

-- a refusal, where there is one, says no length
abbrev Mild : {A : Type 0} → Result A Refusal → Type 0
Mild (Ok x) = ⊤
Mild (Err w) = PlainRefusal w

darts_mild : (n : ℕ) (flags : List ℕ) (a b : ℕ) → Mild (dart_test n flags 1 a b)
darts_mild n flags a b = go (no_dart n flags 1 a) (no_dart n flags 1 b)
  where
    go : (x y : Bool) → Mild (cond {A = Test} x (Err (BadDart 1)) (cond y (Err (BadDart 2)) pass))
    go true y = tt
    go false true = tt
    go false false = tt

-- ---- the answer of a sew's work

links_plain : (rows : List ℕ) (ld rd : ℕ) → Plain (one_links rows ld rd).answer
unfolding one_links
links_plain rows ld rd =
    let o : Out = link_core rows 1 ld rd in
    let p : Plain o.answer = core_plain rows 1 ld rd in
    let v : Out = link_core o.rows 1 (beta rows 3 rd) (beta rows 3 ld) in
    let q : Plain v.answer = core_plain o.rows 1 (beta rows 3 rd) (beta rows 3 ld) in
    either_plain (is_ok o.answer) _ o
    (either_plain (both_three rows ld rd) (or_back rows v) o (either_plain (is_ok v.answer) v (out v.answer rows) q q) p) p

unlinks_plain : (rows : List ℕ) (ld : ℕ) → Plain (one_unlinks rows ld).answer
unfolding one_unlinks
unlinks_plain rows ld =
    let o : Out = unlink_core rows 1 ld in
    let p : Plain o.answer = uncore_plain rows 1 ld in
    let rd : ℕ = beta rows 1 ld in
    either_plain (is_ok o.answer) _ o
    (either_plain (agrees o.rows ld rd) (out o.answer (second_cut o.rows ld rd)) (out (Err (AsymmetricalFaces ld rd)) rows) p tt) p

either_work : (b : Bool) (x y : Work) → Plain x.answer → Plain y.answer → Plain (cond b x y).answer
either_work true x y p q = p
either_work false x y p q = q

two_plain : (vertices : List ℕ) (coordinates : List Float) (rows : List ℕ) (ld rd : ℕ) → Plain (two_sew_on vertices coordinates rows ld rd).answer
unfolding two_sew_on linked_sides
two_plain vertices coordinates rows ld rd =
    either_work (bad_sides vertices coordinates (side_of rows ld) (side_of rows rd)) (work (Err (BadGeometry 2 ld rd)) rows [])
    (linked_sides rows ld rd (side_of rows ld) (side_of rows rd)) tt (core_plain rows 2 ld rd)

pub work_plain : (o : Operation) (vertices : List ℕ) (coordinates : List Float) (rows : List ℕ) (ld rd : ℕ) →
    Plain (work_of o vertices coordinates rows ld rd).answer
unfolding one_sew_on one_unsew_on two_unsew_on three_unsew_on
work_plain OneSew vertices coordinates rows ld rd = links_plain rows ld rd
work_plain OneUnsew vertices coordinates rows ld rd = unlinks_plain rows ld
work_plain TwoSew vertices coordinates rows ld rd = two_plain vertices coordinates rows ld rd
work_plain TwoUnsew vertices coordinates rows ld rd = uncore_plain rows 2 ld
work_plain ThreeUnsew vertices coordinates rows ld rd = three_unlink_plain rows ld

-- ---- how many entries a sew has

few_work : (b : Bool) (x y : Work) (k : ℕ) → length x.entries ≤ k → length y.entries ≤ k → length (cond b x y).entries ≤ k
few_work true x y k p q = p
few_work false x y k p q = q

two_few : (k : Kind) (l r : Side) → length (two_entries k l r) ≤ 3
unfolding two_entries
two_few k l r =
    let a = if_few true Edge k l.edge r.edge in
    let b = if_few (not (eqb r.far 0)) Vertex k l.near r.end in
    let c = if_few (not (eqb l.far 0)) Vertex k l.end r.near in
    simp length-append (omega arith)

one_few : (k : Kind) (rows : List ℕ) (ld rd : ℕ) → length (one_entries k rows ld rd) ≤ 3
unfolding one_entries
one_few k rows ld rd =
    let h = if_few (not (eqb (one_far rows ld) 0)) Vertex k (cell_of Vertex rows (one_far rows ld)) (cell_of Vertex rows rd) in
    omega arith

module _ (vertices : List ℕ) (coordinates : List Float) (rows : List ℕ) (w : WellFormed rows) where
  small : length rows ≤ 4194304
  small = let a = w.sized.whole in let b = w.sized.few in omega arith

  sew_few : (ld rd : ℕ) → length (two_sew_on vertices coordinates rows ld rd).entries ≤ 3
  unfolding two_sew_on linked_sides
  sew_few ld rd =
      few_work (bad_sides vertices coordinates (side_of rows ld) (side_of rows rd)) (work (Err (BadGeometry 2 ld rd)) rows [])
      (linked_sides rows ld rd (side_of rows ld) (side_of rows rd)) 3 (omega arith) (two_few Merge (side_of rows ld) (side_of rows rd))

  pub work_few : (o : Operation) (ld rd : ℕ) → Dart (darts rows) 1 ld → length (work_of o vertices coordinates rows ld rd).entries < 4294967296
  unfolding one_sew_on one_unsew_on two_unsew_on three_unsew_on
  work_few OneSew ld rd d = let h = one_few Merge rows ld rd in omega (arith, h)
  work_few OneUnsew ld rd d = let h = one_few Split (one_unlinks rows ld).rows ld (dart_of (one_unlinks rows ld).answer) in omega (arith, h)
  work_few TwoSew ld rd d = let h = sew_few ld rd in omega (arith, h)
  work_few TwoUnsew ld rd d =
      let rows₁ : List ℕ = (unlink_core rows 2 ld).rows in
      let h = two_few Split (side_of rows₁ ld) (side_of rows₁ (dart_of (unlink_core rows 2 ld).answer)) in
      omega (arith, h)
  work_few ThreeUnsew ld rd d =
      let x = d.allowed in
      let q : length (three_unlink_on rows ld).rows ≡ length rows = (unlink_kept rows ld w d.below (omega arith)).1 in
      let s = small in
      let rows₁ : List ℕ = (three_unlink_on rows ld).rows in
      let rd₁ : ℕ = dart_of (three_unlink_on rows ld).answer in
      omega (arith, unsew_most rows₁ ld rd₁, pairs_most rows₁ ld rd₁)

-- ---- with the room that a plan has

-- an answer fits, the plan is as long as it was, and the entries written fit it
abbrev Held : List ℕ → Answer → List ℕ → Type 0
Held plan a plan₁ = Fits a × (length plan₁ ≡ length plan) × (width * count_of a ≤ length plan)

plain_held : (plan : List ℕ) (a : Answer) → Plain a → Held plan a plan
plain_held plan a p = let k = plain_count a p in (plain_fits a p, refl, omega (arith, k))

put_long : (es : List Entry) (plan : List ℕ) → width * length es ≤ length plan → length (put_plan es plan) ≡ length plan
unfolding put_plan
put_long es plan h = let e = length_plan_of es in simp (length-append, length-drop) (omega arith)

settled_held : (plan : List ℕ) (d : ℕ) (es : List Entry) → length es < 4294967296 → Held plan (settled plan d es).answer (settled plan d es).plan
unfolding settled
settled_held plan d es h = go (leb (length es) (room_of plan)) refl
  where
    by : Bool → Settled
    by b = cond b (settles (done d (length es)) (put_plan es plan)) (settles (Err (PlanRoom (length es))) plan)

    go : (b : Bool) → leb (length es) (room_of plan) ≡ b → Held plan (by b).answer (by b).plan
    go true e =
        let r = leb-true (length es) (room_of plan) e in
        (h, put_long es plan (omega arith), omega arith)
    go false e = (h, refl, omega arith)

sewn_held : (rows plan : List ℕ) (w : Work) → Plain w.answer → length w.entries < 4294967296 →
    Held plan (sewn rows plan w).answer (sewn rows plan w).plan
unfolding sewn
sewn_held rows plan w p h = go (is_ok w.answer)
  where
    by : Bool → Sewn
    by b = cond b (after_plan rows w.rows (settled plan (dart_of w.answer) w.entries)) (leaves w.answer rows plan)

    go : (b : Bool) → Held plan (by b).answer (by b).plan
    go true = settled_held plan (dart_of w.answer) w.entries h
    go false = plain_held plan w.answer p

tested_plain : (l : Link) (rows flags : List ℕ) (ld rd : ℕ) → Plain (link_tested l rows flags ld rd).answer
unfolding link_tested
tested_plain l rows flags ld rd = go (dart_test (darts rows) flags 1 ld (link_second l ld rd)) (darts_mild (darts rows) flags ld (link_second l ld rd))
  where
    go : (t : Test) → Mild t → Plain (behind t rows (given (link_on l rows ld rd))).answer
    go (Ok x) m = link_plain l rows ld rd
    go (Err x) m = m

module _ (flags vertices : List ℕ) (coordinates : List Float) (rows plan : List ℕ) (w : WellFormed rows) where
  pub mild_held : (c : Result Command Refusal) (ld rd : ℕ) → Mild c →
      Held plan (core_of c flags vertices coordinates ld rd rows plan).answer (core_of c flags vertices coordinates ld rd rows plan).plan
  unfolding sew_tested
  mild_held (Ok (Links l)) ld rd p = plain_held plan (link_tested l rows flags ld rd).answer (tested_plain l rows flags ld rd)
  mild_held (Ok (Sews o)) ld rd p = go (dart_test (darts rows) flags 1 ld (sew_second o ld rd)) refl
    where
      by : Test → Sewn
      by t = after_darts t rows plan (sewn rows plan (work_of o vertices coordinates rows ld rd))

      go : (t : Test) → dart_test (darts rows) flags 1 ld (sew_second o ld rd) ≡ t → Held plan (by t).answer (by t).plan
      go (Ok x) e =
          sewn_held rows plan (work_of o vertices coordinates rows ld rd) (work_plain o vertices coordinates rows ld rd)
          (work_few vertices coordinates rows w o ld rd (are_darts (darts rows) flags 1 ld (sew_second o ld rd) (ap is_ok e)).0.0)
      go (Err x) e = plain_held plan (Err x) (subst (λ (t : Test). Mild t) e (darts_mild (darts rows) flags ld (sew_second o ld rd)))
  mild_held (Err x) ld rd p = plain_held plan (Err x) p

  -- an operation that is none is refused with its number, which fits as every number does
  known_mild : (operation : ℕ) (c : Option Command) → Mild (known operation c)
  known_mild operation None = tt
  known_mild operation (Some c) = tt

  pub core_held : (c : Option Command) (operation ld rd : ℕ) →
      Held plan (core_of (known operation c) flags vertices coordinates ld rd rows plan).answer
      (core_of (known operation c) flags vertices coordinates ld rd rows plan).plan
  core_held c operation ld rd = mild_held (known operation c) ld rd (known_mild operation c)

  module _ (operation ld rd : ℕ) where
    pub run_fits : Fits (run flags vertices coordinates operation ld rd rows plan).answer
    unfolding run command_of
    run_fits = (core_held (get_or operations operation None) operation ld rd).0

    pub run_long : length (run flags vertices coordinates operation ld rd rows plan).plan ≡ length plan
    unfolding run command_of
    run_long = (core_held (get_or operations operation None) operation ld rd).1

    pub run_room : width * count_of (run flags vertices coordinates operation ld rd rows plan).answer ≤ length plan
    unfolding run command_of
    run_room = (core_held (get_or operations operation None) operation ld rd).2
