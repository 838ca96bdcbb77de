-- What every link and unlink keeps.
--   link_kept, unlink_kept   a 3-link and a 3-unlink of real darts keep rows well formed and as many, and link no other dart that was free
--   call_kept              a call whose core does so leaves a map a map, whatever its darts (`link_kept` of the crate `link_run` has all six)
--   Unmoved rows o         where o is a refusal its rows are as they were
--   three_on_unmoved       a 3-unlink that refuses leaves the rows
--   bare_link_unmoved, bare_unlink_unmoved, three_link_unmoved, three_unlink_unmoved   a refusal leaves the rows: all six calls
-- Assumes nothing.
use Prim.Native.Nat.{ℕ, suc, ◌<◌}
use native.Mathlib.Omega.{arith}
use native.Mathlib.Decide.{ℕ_discrete}
use mathlib.Core.Path.{◌≡◌, refl, sym, ◌∙◌}
use mathlib.Core.Logic.{◌≢◌, by_cases}
use mathlib.Core.List.{List}
use mathlib.Core.Bool.{Bool, true, false, cond, not, ◌&&◌, ◌||◌, true≢false}
use lib.Dec.{eqb, leb}
use lib.ListN.{length}
use Rattle.map_betas.specs.declared.error.Refusal.TheVariants.{AsymmetricalFaces, NonFreeBase, NonFreeImage, AlreadyFree}
use Rattle.map_betas.specs.Betas.{beta, darts, opp, put, cut}
use Rattle.map_betas.specs.Answers.{Out, out, Outcome, given, behind, Answer, Test, done}
use Rattle.map_betas.specs.Guards.{guard_of, no_loans}
use Rattle.map_betas.specs.Cores.{link_core, unlink_core}
use Rattle.map_betas.specs.Maps.{WellFormed, Map, Keeps, Stays}
use Rattle.map_betas.proofs.Spared.{pair_spares, next_linked, keeps_same, keeps_but, kept_map}
use Rattle.link_walk.specs.Walk.{step_of, LegOut}
use Rattle.link_walk.specs.Three.{leg_on, leg_back, last_leg, after_leg, after_core, three_link_on, three_unlink_on}
use Rattle.link_walk.specs.Calls.{Real, bare_link, bare_unlink, three_link, three_unlink}
use Rattle.link_walk.proofs.StepLaws.{Changed, step_done, changed_formed, changed_length}
use Rattle.link_walk.proofs.UndoLaws.{Walked, walked}
use Rattle.link_walk.proofs.ThreeLaws.{on_link, on_free, on_unlink}
use Rattle.link_walk.proofs.CallLaws.{passed}
use Rattle.std.specs.Prelude.{Err, Ok, is_ok}

module _ (l r : ℕ) (entry : List ℕ) where
  either : (b : Bool) (x y : Out) → Keeps l r entry x.rows → Keeps l r entry y.rows → Keeps l r entry (cond b x y).rows
  either true x y kx ky = kx
  either false x y kx ky = ky

-- the link or the unlink of ld and rd, whatever it answers
module _ (parting : Bool) (d : ℕ) (entry : List ℕ) (ld rd : ℕ) (s : WellFormed entry) (hl : ld < darts entry) (hr : rd < darts entry) (nl : ld ≢ 0) where
  abbrev Kept : Out → Type 0
  Kept o = Keeps ld rd entry o.rows

  as_was : Keeps ld rd entry entry
  as_was = keeps_same ld rd entry s

  leg_kept : (rows₁ : List ℕ) → Changed parting entry ld rd rows₁ → Kept (after_leg parting d entry ld rd (leg_on parting rows₁ ld rd))
  leg_kept rows₁ h =
      let s₁ = changed_formed parting entry ld rd rows₁ s h hl hr nl in
      let q₁ = changed_length parting entry ld rd rows₁ s h hl hr nl in
      let f₁ = pair_spares parting entry 3 ld rd rows₁ h (omega arith) in
      let w : LegOut = leg_on parting rows₁ ld rd in
      let g : Walked parting rows₁ 1 0 (beta rows₁ 1 ld) (beta rows₁ 0 rd) 0 w =
      walked parting ld rd 1 0 ld (omega arith) (omega arith) (suc (length rows₁)) rows₁ (beta rows₁ 1 ld) (beta rows₁ 0 rd) 0 s₁ (s₁.below 1 ld)
      (s₁.below 0 rd) in
      let s₂ = g.formed in
      let f₂ = g.spared (next_linked rows₁ 1 ld s₁ (omega arith) nl) (next_linked rows₁ 0 rd s₁ (omega arith) h.real) in
      let v : LegOut = leg_back parting w.rows ld rd in
      let g₂ : Walked parting w.rows 0 1 (beta w.rows 0 ld) (beta w.rows 1 rd) 0 v =
      walked parting ld rd 0 1 0 (omega arith) (omega arith) (suc (length w.rows)) w.rows (beta w.rows 0 ld) (beta w.rows 1 rd) 0 s₂
      (s₂.below 0 ld) (s₂.below 1 rd) in
      let f₃ = g₂.spared (next_linked w.rows 0 ld s₂ (omega arith) nl) (next_linked w.rows 1 rd s₂ (omega arith) h.real) in
      let last : Out = last_leg d entry v in
      let uneven : Out = out (Err (AsymmetricalFaces ld rd)) entry in
      let long : length w.rows ≡ length entry = g.long ∙ q₁ in
      let kept-w : Keeps ld rd entry w.rows = (s₂, long, λ e x y f. f₂ e (f₁ e x y f)) in
      let kept-v : Keeps ld rd entry v.rows = (g₂.formed, g₂.long ∙ long, λ e x y f. f₃ e (kept-w.2 e x y f)) in
      let kept-last : Kept last = either ld rd entry (is_ok v.leg.answer) (out (done d 0) v.rows) (out v.leg.answer entry) kept-v as_was in
      let open' : Out = cond (eqb w.leg.pair.r 0) last uneven in
      let kept-open : Kept open' = either ld rd entry (eqb w.leg.pair.r 0) last uneven kept-last as_was in
      let whole : Out = cond (eqb w.leg.pair.l 0) open' (out (done d 0) w.rows) in
      let kept_whole : Kept whole = either ld rd entry (eqb w.leg.pair.l 0) open' (out (done d 0) w.rows) kept-open kept-w in
      either ld rd entry (is_ok w.leg.answer) whole (out w.leg.answer entry) kept_whole as_was

  pub three_kept : Keeps ld rd entry (after_core parting d entry ld rd (step_of parting ld rd entry ld rd)).rows
  three_kept = go (step_of parting ld rd entry ld rd) refl (is_ok (step_of parting ld rd entry ld rd).answer) refl
    where
      go : (o : Out) → o ≡ step_of parting ld rd entry ld rd → (b : Bool) → is_ok o.answer ≡ b →
          Kept (cond b (after_leg parting d entry ld rd (leg_on parting o.rows ld rd)) (out o.answer entry))
      go o e true t = leg_kept o.rows (step_done entry o.answer o.rows ld rd ld rd parting s nl e t)
      go o e false t = as_was

pub link_kept : (rows : List ℕ) (ld rd : ℕ) → WellFormed rows → ld < darts rows → ld ≢ 0 → rd < darts rows → rd ≢ 0 →
    Keeps ld rd rows (three_link_on rows ld rd).rows
link_kept rows ld rd s hl nl hr nr =
    rw (sym (on_link rows ld rd nr)) (three_kept false 0 rows ld rd s hl hr nl)

pub unlink_kept : (rows : List ℕ) (ld : ℕ) → WellFormed rows → ld < darts rows → ld ≢ 0 → Keeps ld ld rows (three_unlink_on rows ld).rows
unlink_kept rows ld s hl nl =
    by_cases (ℕ_discrete (beta rows 3 ld) 0)
    (λ (z : beta rows 3 ld ≡ 0). rw (sym (on_free rows ld z)) (keeps_same ld ld rows s))
    (λ (n : beta rows 3 ld ≢ 0).
    rw (sym (on_unlink rows ld (beta rows 3 ld) s refl n))
    (keeps_but ld (beta rows 3 ld) rows _ (λ f. n (next_linked rows 3 ld s (omega arith) nl f))
    (three_kept true (beta rows 3 ld) rows ld (beta rows 3 ld) s hl (s.below 3 ld) nl)))

-- the calls: what the tests refuse is as it was

module _ (rows flags : List ℕ) (a b : ℕ) (m : Map rows flags) (o : Out) (k : Real rows a b → Keeps a b rows o.rows) where
  pub call_kept : Stays flags rows (behind (guard_of rows flags no_loans 1 a b) rows (given o)).loans
  call_kept = go (guard_of rows flags no_loans 1 a b) refl
    where
      go : (g : Test) → g ≡ guard_of rows flags no_loans 1 a b → Stays flags rows (behind g rows (given o)).loans
      go (Ok x) e = let h = passed e refl in kept_map a b rows flags o.rows m h.left h.right (k h.real)
      go (Err w) e = (m, refl)

-- a refusal leaves the rows as they were

abbrev pub Unmoved : List ℕ → Outcome (List ℕ) → Type 0
Unmoved rows o = is_ok o.answer ≡ false → o.loans ≡ rows

module _ (rows : List ℕ) where
  or_else : (b : Bool) (x y : Out) → Unmoved rows (given x) → Unmoved rows (given y) → Unmoved rows (given (cond b x y))
  or_else true x y kx ky = kx
  or_else false x y kx ky = ky

  when_done : (d : ℕ) (xs : List ℕ) → Unmoved rows (given (out (done d 0) xs))
  when_done d xs t = absurd (true≢false t)

  here : (a : Answer) → Unmoved rows (given (out a rows))
  here a t = refl

  tested : (g : Test) (o : Out) → Unmoved rows (given o) → Unmoved rows (behind g rows (given o))
  tested (Ok x) o k = k
  tested (Err w) o k = λ t. refl

  three_unmoved : (parting : Bool) (d ld rd : ℕ) (o : Out) → Unmoved rows (given (after_core parting d rows ld rd o))
  three_unmoved parting d ld rd o =
      let w : LegOut = leg_on parting o.rows ld rd in
      let v : LegOut = leg_back parting w.rows ld rd in
      or_else (is_ok o.answer) _ _
      (or_else (is_ok w.leg.answer) _ _
      (or_else (eqb w.leg.pair.l 0) _ _
      (or_else (eqb w.leg.pair.r 0) _ _
      (or_else (is_ok v.leg.answer) _ _ (when_done d v.rows) (here v.leg.answer))
      (here (Err (AsymmetricalFaces ld rd))))
      (when_done d w.rows))
      (here w.leg.answer))
      (here o.answer)

  pub three_on_unmoved : (ld : ℕ) → Unmoved rows (given (three_unlink_on rows ld))
  unfolding three_unlink_on
  three_on_unmoved ld = three_unmoved true (beta rows 3 ld) ld (beta rows 3 ld) (unlink_core rows 3 ld)

module _ (rows flags : List ℕ) where
  pub bare_link_unmoved : (i ld rd : ℕ) → Unmoved rows (bare_link rows flags i ld rd)
  unfolding bare_link link_core
  bare_link_unmoved i ld rd =
      tested rows (guard_of rows flags no_loans 1 ld rd) _
      (or_else rows (not (eqb (beta rows i ld) 0)) _ _ (here rows (Err (NonFreeBase i ld rd)))
      (or_else rows (not (eqb (beta rows (opp i) rd) 0) || leb 2 i && eqb ld rd) _ _ (here rows (Err (NonFreeImage (opp i) ld rd)))
      (when_done rows 0 (put rows i ld rd))))

  pub bare_unlink_unmoved : (i ld : ℕ) → Unmoved rows (bare_unlink rows flags i ld)
  unfolding bare_unlink unlink_core
  bare_unlink_unmoved i ld =
      tested rows (guard_of rows flags no_loans 1 ld ld) _
      (or_else rows (eqb (beta rows i ld) 0) _ _ (here rows (Err (AlreadyFree i ld))) (when_done rows (beta rows i ld) (cut rows i ld (beta rows i ld))))

  pub three_link_unmoved : (ld rd : ℕ) → Unmoved rows (three_link rows flags ld rd)
  unfolding three_link three_link_on
  three_link_unmoved ld rd = tested rows (guard_of rows flags no_loans 1 ld rd) _ (three_unmoved rows false 0 ld rd (link_core rows 3 ld rd))

  pub three_unlink_unmoved : (ld : ℕ) → Unmoved rows (three_unlink rows flags ld)
  unfolding three_unlink three_unlink_on
  three_unlink_unmoved ld = tested rows (guard_of rows flags no_loans 1 ld ld) _ (three_on_unmoved rows ld)
