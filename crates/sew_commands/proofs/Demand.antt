-- What a list of commands promises, for a reader.
--
--   of the calls made one after another, on a map and with loans that are long enough
--   list_kept         a list leaves a map a map of as many darts
--   list_append       a list of two lists is the one after the other: answers and plan behind each other
--   refused_passed    a refused command anywhere in a list changes nothing, and the list goes on
--   restored          a 3-link that is done and, as the next command, the 3-unlink of the same dart give back every row; the answer is rd
--   restored_anywhere the same anywhere in a list
--
--   of the call
--   commands_iff      it is done exactly where rows, loans and list are as they have to be
--   commands_made     then it leaves what the calls leave, made one after another
--   commands_refused  else rows, output and plan are as they were
--   commands_kept     it leaves a map a map of as many darts, done or refused
--   commands_append   one call of two lists leaves what two calls leave, the second lent what the first has left
-- Assumes nothing.
use Prim.Native.Nat.{ℕ, ◌+◌, ◌*◌, ◌/◌, ◌%◌, ◌≤◌}
use native.Mathlib.Omega.{arith}
use native.Mathlib.Nat.{add-zero}
use mathlib.Core.Path.{◌≡◌, refl, sym, ap, ◌∙◌, subst}
use mathlib.Core.Logic.{◌↔◌}
use mathlib.Core.Bool.{Bool, true, false, cond, true≢false}
use mathlib.Core.List.{List, [], ◌∷◌, ◌++◌, append-nil}
use lib.Dec.{leb}
use lib.Ieee.{Float}
use lib.ListN.{length, take, drop, length-append, length-drop}
use lib.Seq.{take_at}
use borrow.Author.Tests.{le-leb, eq-eqb, eqb-true}
use Rattle.map_betas.specs.declared.error.Refusal.TheVariants.{BadCommand}
use Rattle.map_betas.specs.Betas.{darts}
use Rattle.map_betas.specs.Answers.{pass, nothing, Outcome, outcome, behind, Answer, Test, done}
use Rattle.map_betas.specs.Maps.{size_test, map_test, Map, Stays}
use Rattle.map_betas.specs.Guards.{loan_test}
use Rattle.map_betas.proofs.MapLaws.{size_good}
use Rattle.map_betas.proofs.Formed.{map_done, map_passes}
use Rattle.map_betas.proofs.GuardLaws.{loan_none}
use Rattle.link_walk.specs.Three.{three_link_on}
use Rattle.link_walk.specs.Calls.{Used, three_link, three_unlink}
use Rattle.link_walk.proofs.CallLaws.{through}
use Rattle.link_glue.proofs.Demand.{call_says, call_undoes}
use Rattle.map_betas.specs.Answers.{given}
use Rattle.cell_steps.specs.Calls.{wiped, headed}
use Rattle.cell_steps.proofs.ScratchLaws.{length_zeros}
use Rattle.sew_plan.specs.Plan.{width}
use Rattle.sew_ground.specs.Sewn.{Sewn, leaves}
use Rattle.sew_answers.specs.Words.{answer_width, answer_words, count_of}
use Rattle.sew_commands.specs.Commands.{Lending, lending, LongEnough, command_of, on_rows, called, run}
use Rattle.sew_commands.specs.Lists.{Step, Made, before, made, filled}
use Rattle.sew_commands.specs.Calls.{CommandLoans, loans_for, commands_lent, whole, list_done, list_tested, commands, Able}
use Rattle.sew_commands.proofs.CommandLaws.{called_on_map, run_kept, call_refused}
use Rattle.sew_commands.proofs.RoomLaws.{run_long, run_room}
use Rattle.sew_commands.proofs.ListLaws.{goes_on, before_before, then_made, made_append, made_kept, made_answers}
use Rattle.sew_commands.proofs.CallLaws.{lent_done, lent_long, lent_room, long_same, called_made}
use Rattle.std.specs.Prelude.{Err, Ok, is_ok}
use Rattle.std.specs.Result.{result_and}

-- ---- the calls, one after another

-- a command that has written nothing and leaves rows₁ and plan₁, before a list
goes_past : (step : Step) (list : List ℕ) (s : Sewn) (rows₁ plan₁ : List ℕ) → count_of s.answer ≡ 0 → s.rows ≡ rows₁ → s.plan ≡ plan₁ →
    goes_on step list s ≡ before (answer_words s.answer) 0 [] (made step list rows₁ plan₁)
goes_past step list s rows₁ plan₁ e r p =
    λ t. before (answer_words s.answer) (e t) (take (width * e t) (p t)) (made step list (r t) (drop (width * e t) (p t)))

refused_count : (a : Answer) → is_ok a ≡ false → count_of a ≡ 0
refused_count (Ok x) t = absurd (true≢false t)
refused_count (Err w) t = refl

-- what was made before a command that has written nothing
before_nothing : (m : Made) (e : ℕ) (p a : List ℕ) (rest : Made) →
    before m.answers e p (before a 0 [] rest) ≡ before (m.answers ++ a) e p rest
before_nothing m e p a rest =
    before_before m.answers e p a 0 [] rest ∙ (λ t. before (m.answers ++ a) (add-zero e t) (append-nil p t) rest)

module _ (lent : Lending) (rows : List ℕ) (map : Map rows lent.flags) (long : LongEnough (darts rows) lent) where
  abbrev Kept : List ℕ → Type 0
  Kept = Stays lent.flags rows

  -- on rows that the list has come to, a call is its core
  on_core : (rows₁ plan : List ℕ) → Kept rows₁ → (operation ld rd : ℕ) →
      called lent operation ld rd rows₁ plan ≡ run lent.flags lent.vertices lent.coordinates operation ld rd rows₁ plan
  on_core rows₁ plan k operation ld rd = called_on_map lent rows₁ plan k.0 (long_same rows rows₁ lent k.1 long) operation ld rd

  called_keeps : (operation ld rd : ℕ) (rows₁ plan : List ℕ) → Kept rows₁ → Kept (called lent operation ld rd rows₁ plan).rows
  called_keeps operation ld rd rows₁ plan k =
      let r = run_kept lent.flags lent.vertices lent.coordinates rows₁ k.0.formed k.0 operation ld rd plan in
      subst (λ (s : Sewn). Kept s.rows) (sym (on_core rows₁ plan k operation ld rd)) (r.0, r.1 ∙ k.1)

  called_room : (operation ld rd : ℕ) (rows₁ plan : List ℕ) → Kept rows₁ →
      width * count_of (called lent operation ld rd rows₁ plan).answer ≤ length (called lent operation ld rd rows₁ plan).plan
  called_room operation ld rd rows₁ plan k =
      let l = run_long lent.flags lent.vertices lent.coordinates rows₁ plan k.0.formed operation ld rd in
      let r = run_room lent.flags lent.vertices lent.coordinates rows₁ plan k.0.formed operation ld rd in
      subst (λ (s : Sewn). width * count_of s.answer ≤ length s.plan) (sym (on_core rows₁ plan k operation ld rd)) (omega (arith, l, r))

  pub list_append : (xs ys plan : List ℕ) → length xs % 3 ≡ 0 →
      made (called lent) (xs ++ ys) rows plan ≡ then_made (called lent) ys (made (called lent) xs rows plan)
  list_append xs ys plan h = made_append Kept (called lent) called_keeps called_room xs ys rows plan h (map, refl)

  pub list_kept : (list plan : List ℕ) → Stays lent.flags rows (made (called lent) list rows plan).rows
  list_kept list plan = made_kept Kept (called lent) called_keeps called_room list rows plan (map, refl)

  module _ (xs ys plan : List ℕ) (h : length xs % 3 ≡ 0) where
    -- what the first list has made, and what it has left of the plan
    abbrev first : Made
    first = made (called lent) xs rows plan

    abbrev left : List ℕ
    left = drop (width * first.entries) first.plan

    pub refused_passed : (operation ld rd : ℕ) → is_ok (called lent operation ld rd first.rows left).answer ≡ false →
        made (called lent) (xs ++ (operation ∷ ld ∷ rd ∷ ys)) rows plan ≡
        before (first.answers ++ answer_words (called lent operation ld rd first.rows left).answer) first.entries
        (take (width * first.entries) first.plan) (made (called lent) ys first.rows left)
    unfolding made
    refused_passed operation ld rd t =
        let s : Sewn = called lent operation ld rd first.rows left in
        let k = call_refused lent first.rows left operation ld rd t in
        list_append xs (operation ∷ ld ∷ rd ∷ ys) plan h
        ∙ ap (before first.answers first.entries (take (width * first.entries) first.plan))
        (goes_past (called lent) ys s first.rows left (refused_count s.answer t) k.0 k.1)
        ∙ before_nothing first first.entries (take (width * first.entries) first.plan) (answer_words s.answer)
        (made (called lent) ys first.rows left)

-- demand 3 in a list: the next command is the 3-unlink, whatever stands in its ignored place
module _ (lent : Lending) (rows plan : List ℕ) (ld rd : ℕ) (linked : is_ok (three_link rows lent.flags ld rd).answer ≡ true)
    (ignored : ℕ) (list : List ℕ) where
  real : Used rows lent.flags ld rd
  unfolding three_link
  real = (through rows lent.flags ld rd (given (three_link_on rows ld rd)) linked).0

  says : (three_link rows lent.flags ld rd).answer ≡ nothing
  says = call_says rows lent.flags ld rd real linked

  back : three_unlink (three_link rows lent.flags ld rd).loans lent.flags ld ≡ outcome (done rd 0) rows
  back = call_undoes rows lent.flags ld rd linked

  pub restored : made (called lent) (3 ∷ ld ∷ rd ∷ 8 ∷ ld ∷ ignored ∷ list) rows plan ≡
      before (answer_words (done 0 0) ++ answer_words (done rd 0)) 0 [] (made (called lent) list rows plan)
  unfolding made called command_of
  restored =
      let s : Sewn = on_rows (three_link rows lent.flags ld rd) plan in
      let u : Sewn = on_rows (three_unlink (three_link rows lent.flags ld rd).loans lent.flags ld) plan in
      let a : s.answer ≡ done 0 0 = says in
      let b : u ≡ leaves (done rd 0) rows plan = ap (λ (o : Outcome (List ℕ)). on_rows o plan) back in
      goes_past (called lent) (8 ∷ ld ∷ ignored ∷ list) s (three_link rows lent.flags ld rd).loans plan (ap count_of a) refl refl
      ∙ ap (λ (x : Answer). before (answer_words x) 0 [] (made (called lent) (8 ∷ ld ∷ ignored ∷ list) (three_link rows lent.flags ld rd).loans plan)) a
      ∙ ap (before (answer_words (done 0 0)) 0 [])
      (goes_past (called lent) list u rows plan (ap (λ (x : Sewn). count_of x.answer) b) (ap (λ (x : Sewn). x.rows) b) refl
      ∙ ap (λ (x : Sewn). before (answer_words x.answer) 0 [] (made (called lent) list rows plan)) b)
      ∙ before_before (answer_words (done 0 0)) 0 [] (answer_words (done rd 0)) 0 [] (made (called lent) list rows plan)

pub restored_anywhere : (lent : Lending) (rows : List ℕ) → Map rows lent.flags → LongEnough (darts rows) lent → (xs ys plan : List ℕ) → length xs % 3 ≡ 0 →
    (ld rd ignored : ℕ) → is_ok (three_link (made (called lent) xs rows plan).rows lent.flags ld rd).answer ≡ true →
    made (called lent) (xs ++ (3 ∷ ld ∷ rd ∷ 8 ∷ ld ∷ ignored ∷ ys)) rows plan ≡
    before ((made (called lent) xs rows plan).answers ++ (answer_words (done 0 0) ++ answer_words (done rd 0))) (made (called lent) xs rows plan).entries
    (take (width * (made (called lent) xs rows plan).entries) (made (called lent) xs rows plan).plan)
    (made (called lent) ys (made (called lent) xs rows plan).rows (drop (width * (made (called lent) xs rows plan).entries)
    (made (called lent) xs rows plan).plan))
restored_anywhere lent rows w long xs ys plan h ld rd ignored linked =
    let m : Made = made (called lent) xs rows plan in
    let left : List ℕ = drop (width * m.entries) m.plan in
    let p : List ℕ = take (width * m.entries) m.plan in
    list_append lent rows w long xs (3 ∷ ld ∷ rd ∷ 8 ∷ ld ∷ ignored ∷ ys) plan h
    ∙ ap (before m.answers m.entries p) (restored lent m.rows left ld rd linked ignored ys)
    ∙ before_nothing m m.entries p (answer_words (done 0 0) ++ answer_words (done rd 0)) (made (called lent) ys m.rows left)

-- ---- the call

module _ (rows marks queue output flags vertices : List ℕ) (coordinates : List Float) (plan list : List ℕ) where
  abbrev the_call : Outcome CommandLoans
  the_call = commands rows marks queue output flags vertices coordinates plan list

  -- what the call leaves, by its three tests
  abbrev ended : Test → Bool → Test → Outcome CommandLoans
  ended g whole-list m =
      behind g (rows, marks, queue, output, plan)
      (cond whole-list
      (behind m (rows, marks, queue, output, plan)
      (list_done (darts rows) marks queue (filled output (made (called (lending marks queue flags vertices coordinates)) list rows plan))))
      (outcome (Err (BadCommand 0)) (rows, wiped (darts rows) marks, wiped (darts rows) queue, output, plan)))

  passes : Able rows marks queue output flags vertices coordinates list → commands_lent rows flags (loans_for marks queue output vertices coordinates list) ≡ pass
  unfolding commands_lent
  passes able =
      let l = able.lent in
      let few = able.map.formed.sized.few in
      let room = able.room in
      let fits : leb (length list / 3) (length output / answer_width) ≡ true = le-leb (length list / 3) (length output / answer_width) (omega arith) in
      let size : size_test rows ≡ pass = simp (size_good rows able.map.formed.sized) in
      let out : darts rows ≤ cond (leb (length list / 3) (length output / answer_width)) 3145728 0 = rw fits (omega arith) in
      let long : loan_test (darts rows) (length flags) (loans_for marks queue output vertices coordinates list) ≡ pass =
      sym (loan_none (darts rows) (length flags) (loans_for marks queue output vertices coordinates list) l.marks l.queue out
      able.map.flagged l.vertices l.coordinates) in
      λ t. result_and (size t) (long t)

  pub commands_made : Able rows marks queue output flags vertices coordinates list → commands rows marks queue output flags vertices coordinates plan list ≡
      list_done (darts rows) marks queue (filled output (made (called (lending marks queue flags vertices coordinates)) list rows plan))
  unfolding commands list_tested
  commands_made able =
      λ t. ended (passes able t) (eq-eqb (length list % 3) 0 able.whole t) (map_passes rows flags able.map t)

  pub commands_iff : (is_ok (commands rows marks queue output flags vertices coordinates plan list).answer ≡ true) ↔
      Able rows marks queue output flags vertices coordinates list
  unfolding commands list_tested
  commands_iff = (
    go (commands_lent rows flags (loans_for marks queue output vertices coordinates list)) refl (whole list) refl (map_test rows flags) refl,
    (λ able. ap (λ (o : Outcome CommandLoans). is_ok o.answer) (commands_made able)),
  )
    where
      go : (g : Test) → commands_lent rows flags (loans_for marks queue output vertices coordinates list) ≡ g → (b : Bool) → whole list ≡ b → (m : Test) →
          map_test rows flags ≡ m → is_ok (ended g b m).answer ≡ true → Able rows marks queue output flags vertices coordinates list
      go (Err x) eg b eb m em t = absurd (true≢false (sym t))
      go (Ok x) eg false eb m em t = absurd (true≢false (sym t))
      go (Ok x) eg true eb (Err y) em t = absurd (true≢false (sym t))
      go (Ok x) eg true eb (Ok y) em t =
          let p = lent_done rows flags (loans_for marks queue output vertices coordinates list) (ap is_ok eg) in
          record {
            map = map_done rows flags p.0 p.1 (ap is_ok em);
            lent = lent_long rows marks queue output flags vertices coordinates list p.0 p.2;
            room = lent_room rows marks queue output flags vertices coordinates list p.0 p.2;
            whole = eqb-true (length list % 3) 0 eb;
          }

  pub commands_refused : is_ok (commands rows marks queue output flags vertices coordinates plan list).answer ≡ false →
      ((commands rows marks queue output flags vertices coordinates plan list).loans.0 ≡ rows)
      × ((commands rows marks queue output flags vertices coordinates plan list).loans.3 ≡ output)
      × ((commands rows marks queue output flags vertices coordinates plan list).loans.4 ≡ plan)
  unfolding commands list_tested
  commands_refused = go (commands_lent rows flags (loans_for marks queue output vertices coordinates list)) (whole list) (map_test rows flags)
    where
      go : (g : Test) (b : Bool) (m : Test) → is_ok (ended g b m).answer ≡ false →
          ((ended g b m).loans.0 ≡ rows) × ((ended g b m).loans.3 ≡ output) × ((ended g b m).loans.4 ≡ plan)
      go (Err x) b m t = (refl, refl, refl)
      go (Ok x) false m t = (refl, refl, refl)
      go (Ok x) true (Err y) t = (refl, refl, refl)
      go (Ok x) true (Ok y) t = absurd (true≢false t)

  pub commands_kept : Map rows flags → Stays flags rows (commands rows marks queue output flags vertices coordinates plan list).loans.0
  commands_kept m = go (is_ok the_call.answer) refl
    where
      go : (b : Bool) → is_ok (commands rows marks queue output flags vertices coordinates plan list).answer ≡ b →
          Stays flags rows (commands rows marks queue output flags vertices coordinates plan list).loans.0
      go true t =
          let able = commands_iff.0 t in
          subst (λ (o : Outcome CommandLoans). Stays flags rows o.loans.0) (sym (commands_made able))
          (list_kept (lending marks queue flags vertices coordinates) rows m able.lent list plan)
      go false t = subst (Stays flags rows) (sym (commands_refused t).0) (m, refl)

-- ---- one call of two lists, and two calls

-- scratch that was wiped is as long as it was
wiped_long : (n : ℕ) (l : List ℕ) → n ≤ length l → length (wiped n l) ≡ length l
wiped_long n l h = let z = length_zeros n in simp (length-append, length-drop) (omega (arith, z))

module _ (rows marks queue output flags vertices : List ℕ) (coordinates : List Float) (plan xs ys : List ℕ)
    (able : Able rows marks queue output flags vertices coordinates (xs ++ ys)) (h : length xs % 3 ≡ 0)
    (output₁ output₂ : List ℕ) (room₁ : answer_width * (length xs / 3) ≤ length output₁) (room₂ : answer_width * (length ys / 3) ≤ length output₂) where
  -- the first call, and the second on what it has left
  abbrev call₁ : Outcome CommandLoans
  call₁ = commands rows marks queue output₁ flags vertices coordinates plan xs

  abbrev call₂ : Outcome CommandLoans → Outcome CommandLoans
  call₂ a = commands a.loans.0 a.loans.1 a.loans.2 output₂ flags vertices coordinates (drop (width * count_of a.answer) a.loans.4) ys

  abbrev lent : Lending
  lent = lending marks queue flags vertices coordinates

  abbrev made₁ : Made
  made₁ = made (called lent) xs rows plan

  abbrev left₁ : List ℕ
  left₁ = drop (width * made₁.entries) made₁.plan

  abbrev made₂ : Made
  made₂ = made (called lent) ys made₁.rows left₁

  abbrev n : ℕ
  n = darts rows

  kept : Stays flags rows made₁.rows
  kept = list_kept lent rows able.map able.lent xs plan

  ys_whole : length ys % 3 ≡ 0
  ys_whole =
      let all = able.whole in
      let e : length (xs ++ ys) ≡ length xs + length ys = length-append xs ys in
      omega (arith, all, e, h)

  able₁ : Able rows marks queue output₁ flags vertices coordinates xs
  able₁ = record { map = able.map; lent = able.lent; room = room₁; whole = h }

  first_is : call₁ ≡ list_done n marks queue (filled output₁ made₁)
  first_is = commands_made rows marks queue output₁ flags vertices coordinates plan xs able₁

  long₂ : LongEnough (darts made₁.rows) (lending (wiped n marks) (wiped n queue) flags vertices coordinates)
  long₂ =
      let l = able.lent in
      let m = wiped_long n marks l.marks in
      let q = wiped_long n queue l.queue in
      let v = l.vertices in
      let x = l.coordinates in
      let lm = l.marks in
      let lq = l.queue in
      let e = kept.1 in
      record { marks = omega (arith, m, lm, e); queue = omega (arith, q, lq, e); vertices = omega (arith, v, e); coordinates = omega (arith, x, e) }

  able₂ : Able made₁.rows (wiped n marks) (wiped n queue) output₂ flags vertices coordinates ys
  able₂ = record { map = kept.0; lent = long₂; room = room₂; whole = ys_whole }

  -- what scratch holds makes no difference to the calls of the second list
  second_made : made (called (lending (wiped n marks) (wiped n queue) flags vertices coordinates)) ys made₁.rows left₁ ≡ made₂
  second_made =
      called_made (lending (wiped n marks) (wiped n queue) flags vertices coordinates) ys made₁.rows left₁ kept.0 long₂
      ∙ sym (called_made lent ys made₁.rows left₁ kept.0 (long_same rows made₁.rows lent kept.1 able.lent))

  second_is : call₂ call₁ ≡ list_done (darts made₁.rows) (wiped n marks) (wiped n queue) (filled output₂ made₂)
  second_is =
      ap call₂ first_is
      ∙ commands_made made₁.rows (wiped n marks) (wiped n queue) output₂ flags vertices coordinates left₁ ys able₂
      ∙ ap (λ (m : Made). list_done (darts made₁.rows) (wiped n marks) (wiped n queue) (filled output₂ m)) second_made

  -- answers behind answers, plan behind plan, and the rows of the second call
  abbrev both : Outcome CommandLoans → Outcome CommandLoans → Outcome CommandLoans
  both a b =
      outcome (done 0 (count_of a.answer + count_of b.answer)) (
        b.loans.0,
        wiped n marks,
        wiped n queue,
        headed (take (answer_width * (length xs / 3)) a.loans.3 ++ take (answer_width * (length ys / 3)) b.loans.3) output,
        take (width * count_of a.answer) a.loans.4 ++ b.loans.4,
      )

  answers_of : (list rows₁ plan₁ out : List ℕ) →
      take (answer_width * (length list / 3)) (headed (made (called lent) list rows₁ plan₁).answers out) ≡ (made (called lent) list rows₁ plan₁).answers
  answers_of list rows₁ plan₁ out = take_at (made (called lent) list rows₁ plan₁).answers _ _ (made_answers (called lent) list rows₁ plan₁)

  pub commands_append : commands rows marks queue output flags vertices coordinates plan (xs ++ ys) ≡
      outcome (done 0 (count_of call₁.answer + count_of (call₂ call₁).answer)) (
        (call₂ call₁).loans.0,
        wiped (darts rows) marks,
        wiped (darts rows) queue,
        headed (take (answer_width * (length xs / 3)) call₁.loans.3 ++ take (answer_width * (length ys / 3)) (call₂ call₁).loans.3) output,
        take (width * count_of call₁.answer) call₁.loans.4 ++ (call₂ call₁).loans.4,
      )
  commands_append =
      commands_made rows marks queue output flags vertices coordinates plan (xs ++ ys) able
      ∙ ap (λ (m : Made). list_done n marks queue (filled output m)) (list_append lent rows able.map able.lent xs ys plan h)
      ∙ (λ t. outcome (done 0 (made₁.entries + made₂.entries)) (
        made₂.rows,
        wiped n marks,
        wiped n queue,
        headed (sym (answers_of xs rows plan output₁) t ++ sym (answers_of ys made₁.rows left₁ output₂) t) output,
        take (width * made₁.entries) made₁.plan ++ made₂.plan,
      ))
      ∙ sym (λ t. both (first_is t) (second_is t))
