-- One command of a list.
--   no_command     a number that is none of 1 to 11 stands for no operation
--   sew_call_lem       the call of a sew's name is its work behind the tests
--   call_on_map    on a map, with loans that are long enough, the call is what the code runs
--   called_on_map  the same of an operation's number
--   work_keeps, core_goes   what a sew or unsew and what a command leaves: the rows, or rows in which no other dart that was free is linked
--   run_formed, run_kept    so a command leaves well-formed rows well formed and as many, and a map a map, done or refused
--   call_refused   a refused command leaves rows and plan, whatever they are
--   slots_are, work_second, tested_refused, tested_done, run_is   what the code has found and run
-- Assumes nothing.
use Prim.Native.Nat.{ℕ, zero, suc, ◌+◌, ◌*◌, ◌≤◌}
use native.Mathlib.Decide.{ℕ_discrete}
use native.Mathlib.Omega.{arith}
use mathlib.Core.Path.{◌≡◌, refl, sym, ap, ◌∙◌}
use mathlib.Core.Logic.{◌≢◌, ◌⊎◌, inl, inr, ⊎_elim, by_cases}
use mathlib.Core.Bool.{false}
use mathlib.Core.List.{List, [], ◌∷◌}
use lib.Ieee.{Float}
use lib.ListN.{length, get_or}
use Rattle.map_betas.specs.Betas.{darts}
use Rattle.map_betas.specs.Answers.{given, behind, Answer, Test}
use Rattle.map_betas.specs.Maps.{WellFormed, unused, Map, Keeps, Stays}
use Rattle.map_betas.specs.Guards.{guard_of, dart_test, Lent, Dart}
use Rattle.map_betas.proofs.GuardLaws.{are_darts}
use Rattle.map_betas.proofs.Spared.{kept_map}
use Rattle.link_run.specs.Links.{link_on, link_second, link_tested}
use Rattle.map_betas.proofs.Guarded.{on_map}
use Rattle.link_run.proofs.LinkLaws.{link_on_map, on_keeps, link_unmoved}
use Rattle.sew_ground.specs.Sewn.{Sewn, Work, leaves, sewn}
use Rattle.sew_ground.specs.Calls.{sew_call, one_sew, one_unsew, two_sew, two_unsew}
use Rattle.sew_ground.proofs.SewKept.{sewn_kept, one_sew_kept, one_unsew_kept, two_sew_kept, two_unsew_kept}
use Rattle.sew_ground.proofs.Demand.{call_one_sew_refused, call_one_unsew_refused, call_two_sew_refused, call_two_unsew_refused}
use Rattle.sew_pairs.specs.Calls.{three_unsew}
use Rattle.sew_pairs.proofs.UnsewLaws.{three_kept, call_three_unsew_refused}
use Rattle.sew_operations.specs.declared.operations.Operation.{Operation}
use Rattle.sew_operations.specs.declared.operations.Operation.TheVariants.{OneSew, OneUnsew, TwoSew, TwoUnsew, ThreeUnsew}
use Rattle.sew_operations.specs.Operations.{work_of, loans_of, Slots}
use Rattle.sew_commands.specs.declared.commands.Command.{Command}
use Rattle.sew_commands.specs.declared.commands.Command.TheVariants.{Links, Sews}
use Rattle.sew_commands.specs.Commands.{operations, known, command_of, Lending, sew_call_of, on_rows, on_plan, call_of, called}
use Rattle.sew_commands.specs.Commands.{LongEnough, sew_second, after_darts, sew_tested, core_of, run}
use Rattle.std.specs.Prelude.{⊤, None, Result, Err, Ok, is_ok, IsErrAnd}
use Rattle.map_betas.specs.declared.error.Refusal.{Refusal}
use Rattle.map_betas.specs.declared.error.Refusal.TheVariants.{BadCommand}
use Rattle.sew_ground.proofs.OneLaws.{handed_on}

-- ---- numbers

past : {A : Type 0} (l : List A) (i : ℕ) (d : A) → length l ≤ i → get_or l i d ≡ d
past [] i d h = refl
past (x ∷ l) zero d h = absurd (omega arith)
past (x ∷ l) (suc i) d h = past l i d (omega arith)

zero_le : (x : ℕ) → 0 ≤ x
zero_le x = omega arith

above : (k x : ℕ) → k ≤ x → x ≢ k → k + 1 ≤ x
above k x h n = omega arith

pub no_command : (operation : ℕ) → operation ≢ 1 → operation ≢ 2 → operation ≢ 3 → operation ≢ 4 → operation ≢ 5 → operation ≢ 6 →
    operation ≢ 7 → operation ≢ 8 → operation ≢ 9 → operation ≢ 10 → operation ≢ 11 → Err (BadCommand operation) ≡ command_of operation
unfolding command_of
no_command operation a b c d e f g h i j k =
    by_cases (ℕ_discrete operation 0)
    (λ (z : operation ≡ 0). rw z)
    (λ (z : operation ≢ 0).
    let up : (m : ℕ) → m ≤ operation → operation ≢ m → m + 1 ≤ operation = λ m. above m operation in
    let four : 4 ≤ operation = up 3 (up 2 (up 1 (up 0 (zero_le operation) z) a) b) c in
    let eight : 8 ≤ operation = up 7 (up 6 (up 5 (up 4 four d) e) f) g in
    ap (known operation) (sym (past operations operation None (up 11 (up 10 (up 9 (up 8 eight h) i) j) k))))

-- ---- on a map the call is what the code runs

module _ (lent : Lending) (rows plan : List ℕ) where
  pub sew_call_lem : (o : Operation) (ld rd : ℕ) → sew_call_of o lent rows plan ld rd ≡
      sew_call
      (guard_of rows lent.flags (loans_of o (length lent.marks) (length lent.queue) (length lent.vertices) (length lent.coordinates)) 1 ld
      (sew_second o ld rd))
      rows lent.marks lent.queue plan (work_of o lent.vertices lent.coordinates rows ld rd)
  unfolding one_sew one_unsew two_sew two_unsew three_unsew
  sew_call_lem OneSew ld rd = refl
  sew_call_lem OneUnsew ld rd = refl
  sew_call_lem TwoSew ld rd = refl
  sew_call_lem TwoUnsew ld rd = refl
  sew_call_lem ThreeUnsew ld rd = refl

  behind_darts : (t : Test) (w : Work) → on_plan (sew_call t rows lent.marks lent.queue plan w) ≡ after_darts t rows plan (sewn rows plan w)
  behind_darts (Ok x) w = refl
  behind_darts (Err x) w = refl

  module _ (m : Map rows lent.flags) (long : LongEnough (darts rows) lent) where
    loans_lent : (o : Operation) →
        Lent (darts rows) (loans_of o (length lent.marks) (length lent.queue) (length lent.vertices) (length lent.coordinates))
    loans_lent = go
      where
        bare : Lent (darts rows) (loans_of OneSew (length lent.marks) (length lent.queue) (length lent.vertices) (length lent.coordinates))
        bare =
            let few = m.formed.sized.few in
            record { marks = long.marks; queue = long.queue; output = omega arith; vertices = omega arith; coordinates = omega arith }

        go : (k : Operation) →
            Lent (darts rows) (loans_of k (length lent.marks) (length lent.queue) (length lent.vertices) (length lent.coordinates))
        go OneSew = bare
        go OneUnsew = bare
        go TwoSew =
            let few = m.formed.sized.few in
            record {
              marks = long.marks;
              queue = long.queue;
              output = omega arith;
              vertices = long.vertices;
              coordinates = long.coordinates;
            }
        go TwoUnsew = bare
        go ThreeUnsew = bare

    pub call_on_map : (c : Result Command Refusal) (ld rd : ℕ) →
        call_of c lent ld rd rows plan ≡ core_of c lent.flags lent.vertices lent.coordinates ld rd rows plan
    unfolding sew_tested
    call_on_map (Ok (Links l)) ld rd = ap (λ o. on_rows o plan) (link_on_map l rows lent.flags ld rd m)
    call_on_map (Ok (Sews o)) ld rd =
        let x : Work = work_of o lent.vertices lent.coordinates rows ld rd in
        ap on_plan
        (sew_call_lem o ld rd
        ∙ ap (λ (g : Test). sew_call g rows lent.marks lent.queue plan x) (on_map rows lent.flags _ 1 ld (sew_second o ld rd) m (loans_lent o)))
        ∙ behind_darts (dart_test (darts rows) lent.flags 1 ld (sew_second o ld rd)) x
    call_on_map (Err x) ld rd = refl

    pub called_on_map : (operation ld rd : ℕ) →
        called lent operation ld rd rows plan ≡ run lent.flags lent.vertices lent.coordinates operation ld rd rows plan
    unfolding called run
    called_on_map operation ld rd = call_on_map (command_of operation) ld rd

-- ---- a map stays a map

module _ (flags vertices : List ℕ) (coordinates : List Float) (rows : List ℕ) (w : WellFormed rows) where
  work_keeps : (o : Operation) (ld rd : ℕ) → Dart (darts rows) 1 ld → Dart (darts rows) 1 (sew_second o ld rd) →
      Keeps ld (sew_second o ld rd) rows (work_of o vertices coordinates rows ld rd).rows
  work_keeps OneSew ld rd dl dr = one_sew_kept rows ld w rd dl dr
  work_keeps OneUnsew ld rd dl dr = one_unsew_kept rows ld w
  work_keeps TwoSew ld rd dl dr = two_sew_kept rows ld w vertices coordinates rd dl dr
  work_keeps TwoUnsew ld rd dl dr = two_unsew_kept rows ld w
  work_keeps ThreeUnsew ld rd dl dr = three_kept rows ld w dl

  -- what a command leaves: the rows, or rows of a core whose darts are in use
  abbrev Goes : ℕ → List ℕ → Type 0
  Goes ld rows₁ = (rows₁ ≡ rows) ⊎ ((x : ℕ) × (unused flags ld ≡ false) × (unused flags x ≡ false) × Keeps ld x rows rows₁)

  core_goes : (c : Result Command Refusal) (ld rd : ℕ) (plan : List ℕ) → Goes ld (core_of c flags vertices coordinates ld rd rows plan).rows
  unfolding sew_tested link_tested
  core_goes (Ok (Links l)) ld rd plan = go (dart_test (darts rows) flags 1 ld (link_second l ld rd)) refl
    where
      go : (t : Test) → dart_test (darts rows) flags 1 ld (link_second l ld rd) ≡ t → Goes ld (behind t rows (given (link_on l rows ld rd))).loans
      go (Ok x) e =
          let d = are_darts (darts rows) flags 1 ld (link_second l ld rd) (ap is_ok e) in
          inr (link_second l ld rd, d.0.1 (omega arith), d.1.1 (omega arith), on_keeps l rows ld rd w d.0.0 d.1.0)
      go (Err x) e = inl refl
  core_goes (Ok (Sews o)) ld rd plan = go (dart_test (darts rows) flags 1 ld (sew_second o ld rd)) refl
    where
      go : (t : Test) → dart_test (darts rows) flags 1 ld (sew_second o ld rd) ≡ t →
          Goes ld (after_darts t rows plan (sewn rows plan (work_of o vertices coordinates rows ld rd))).rows
      go (Ok x) e =
          let d = are_darts (darts rows) flags 1 ld (sew_second o ld rd) (ap is_ok e) in
          inr (
            sew_second o ld rd,
            d.0.1 (omega arith),
            d.1.1 (omega arith),
            sewn_kept ld (sew_second o ld rd) rows plan w (work_of o vertices coordinates rows ld rd) (work_keeps o ld rd d.0.0 d.1.0),
          )
      go (Err x) e = inl refl
  core_goes (Err x) ld rd plan = inl refl

  -- well-formed rows stay so, and a map a map
  pub run_formed : (operation ld rd : ℕ) (plan : List ℕ) →
      WellFormed (run flags vertices coordinates operation ld rd rows plan).rows
      × (length (run flags vertices coordinates operation ld rd rows plan).rows ≡ length rows)
  unfolding run
  run_formed operation ld rd plan =
      ⊎_elim (λ e. rw e (w, refl)) (λ k. (k.3.0, k.3.1)) (core_goes (command_of operation) ld rd plan)

  pub run_kept : Map rows flags → (operation ld rd : ℕ) (plan : List ℕ) → Stays flags rows (run flags vertices coordinates operation ld rd rows plan).rows
  unfolding run
  run_kept m operation ld rd plan =
      ⊎_elim (λ e. rw e (m, refl)) (λ k. kept_map ld k.0 rows flags _ m k.1 k.2 k.3) (core_goes (command_of operation) ld rd plan)

-- ---- a refused command changes nothing

module _ (lent : Lending) (rows plan : List ℕ) where
  abbrev Left : Sewn → Type 0
  Left s = (s.rows ≡ rows) × (s.plan ≡ plan)

  sew_left : (o : Operation) (ld rd : ℕ) → is_ok (sew_call_of o lent rows plan ld rd).answer ≡ false → Left (on_plan (sew_call_of o lent rows plan ld rd))
  sew_left OneSew ld rd = call_one_sew_refused rows lent.marks lent.queue lent.flags plan ld rd
  sew_left OneUnsew ld rd = call_one_unsew_refused rows lent.marks lent.queue lent.flags plan ld
  sew_left TwoSew ld rd = call_two_sew_refused rows lent.marks lent.queue lent.flags plan ld lent.vertices lent.coordinates rd
  sew_left TwoUnsew ld rd = call_two_unsew_refused rows lent.marks lent.queue lent.flags plan ld
  sew_left ThreeUnsew ld rd = call_three_unsew_refused rows lent.marks lent.queue lent.flags plan ld

  call_left : (c : Result Command Refusal) (ld rd : ℕ) → is_ok (call_of c lent ld rd rows plan).answer ≡ false → Left (call_of c lent ld rd rows plan)
  call_left (Ok (Links l)) ld rd t = (link_unmoved l rows lent.flags ld rd t, refl)
  call_left (Ok (Sews o)) ld rd t = sew_left o ld rd t
  call_left (Err x) ld rd t = (refl, refl)

  pub call_refused : (operation ld rd : ℕ) → is_ok (called lent operation ld rd rows plan).answer ≡ false →
      ((called lent operation ld rd rows plan).rows ≡ rows) × ((called lent operation ld rd rows plan).plan ≡ plan)
  unfolding called
  call_refused operation ld rd t = call_left (command_of operation) ld rd t

-- ---- for the code

pub slots_are : (o : Operation) (n vertices coordinates : ℕ) → n ≤ vertices → 3 * n ≤ coordinates → Slots o n vertices coordinates
slots_are OneSew n vertices coordinates v x = tt
slots_are OneUnsew n vertices coordinates v x = tt
slots_are TwoSew n vertices coordinates v x = (v, x)
slots_are TwoUnsew n vertices coordinates v x = tt
slots_are ThreeUnsew n vertices coordinates v x = tt

-- the dart that stands second will do
pub work_second : (o : Operation) (vertices : List ℕ) (coordinates : List Float) (rows : List ℕ) (ld rd : ℕ) →
    work_of o vertices coordinates rows ld (sew_second o ld rd) ≡ work_of o vertices coordinates rows ld rd
work_second OneSew vertices coordinates rows ld rd = refl
work_second OneUnsew vertices coordinates rows ld rd = refl
work_second TwoSew vertices coordinates rows ld rd = refl
work_second TwoUnsew vertices coordinates rows ld rd = refl
work_second ThreeUnsew vertices coordinates rows ld rd = refl

module _ (o : Operation) (flags vertices : List ℕ) (coordinates : List Float) (ld rd : ℕ) (rows plan : List ℕ) (x : ℕ) (e : x ≡ sew_second o ld rd) {t : Test}
    (f : t ≡ dart_test (darts rows) flags 1 ld x) where
  tests : t ≡ dart_test (darts rows) flags 1 ld (sew_second o ld rd)
  tests = f ∙ ap (dart_test (darts rows) flags 1 ld) e

  -- r is what a `?` returns
  pub tested_refused : {q : Refusal} (r : Answer) → t ≡ Err q → IsErrAnd r (λ y. y ≡ q) →
      leaves r rows plan ≡ sew_tested o flags vertices coordinates ld rd rows plan
  unfolding sew_tested
  tested_refused r d p = rw (handed_on r d p, ← tests, d) refl

  pub tested_done : {y : ⊤} (s : Sewn) → t ≡ Ok y → s ≡ sewn rows plan (work_of o vertices coordinates rows ld x) →
      s ≡ sew_tested o flags vertices coordinates ld rd rows plan
  unfolding sew_tested
  tested_done s d q =
      q ∙ ap (λ (y : ℕ). sewn rows plan (work_of o vertices coordinates rows ld y)) e
      ∙ ap (sewn rows plan) (work_second o vertices coordinates rows ld rd)
      ∙ rw (← tests, d) refl

-- what the code's match has found
pub run_is : (flags vertices : List ℕ) (coordinates : List Float) (operation ld rd : ℕ) (rows plan : List ℕ) (c k : Result Command Refusal) (s : Sewn) →
    c ≡ command_of operation → c ≡ k → s ≡ core_of k flags vertices coordinates ld rd rows plan →
    s ≡ run flags vertices coordinates operation ld rd rows plan
unfolding run
run_is flags vertices coordinates operation ld rd rows plan c k s e f h =
    h ∙ ap (λ (x : Result Command Refusal). core_of x flags vertices coordinates ld rd rows plan) (sym f ∙ e)
