-- Each way that a 3-link or a 3-unlink ends, with the values as the code has them.
--   inside_now, leg_start, leg_walked, leg_undone   a leg, as its callers need it
--   last_refused, last_done     the end of the second leg
--   on_refused, on_leg_refused, on_closed, on_uneven, on_back   the ends of the whole
--   on_undone                   the first leg's pairs set back, ld and rd among them
--   on_link, on_free, on_unlink   the whole is the 3-link, the 3-unlink
-- Assumes nothing.
use Prim.Native.Nat.{ℕ, suc, ◌+◌, ◌<◌}
use native.Mathlib.Omega.{arith}
use mathlib.Core.Path.{◌≡◌, sym, ap, ◌∙◌}
use mathlib.Core.Logic.{◌≢◌}
use mathlib.Core.List.{List}
use mathlib.Core.Bool.{Bool, true, false}
use lib.ListN.{length}
use borrow.Author.Tests.{eq-eqb, ne_eqb}
use Rattle.map_betas.specs.Betas.{beta, darts}
use Rattle.map_betas.specs.Maps.{WellFormed}
use Rattle.map_betas.specs.declared.error.Refusal.TheVariants.{AsymmetricalFaces, AlreadyFree}
use Rattle.map_betas.specs.Answers.{Out, out, Answer, done}
use Rattle.map_betas.specs.Cores.{unlink_core}
use Rattle.map_betas.proofs.CoreLaws.{unlink_free}
use Rattle.link_walk.specs.declared.walk.Leg.{Leg}
use Rattle.link_walk.specs.Walk.{LegOut, leg_out, walk, step_of}
use Rattle.link_walk.specs.Three.{leg_on, leg_back, last_leg, after_core, three_link_on, three_unlink_on}
use Rattle.link_walk.specs.Undo.{undone, Inside}
use Rattle.link_walk.proofs.StepLaws.{Changed, step_link, step_unlink, formed_inside, changed_formed}
use Rattle.link_walk.proofs.UndoLaws.{Walked, walked, again_on}
use Rattle.std.specs.Prelude.{Err, is_ok}

-- rows as long as others
pub inside_now : (rows rows' : List ℕ) (a b : ℕ) → length rows' ≡ length rows → WellFormed rows' → a < darts rows → b < darts rows →
    Inside (darts rows') rows' × (a < darts rows') × (b < darts rows')
inside_now rows rows' a b e s ha hb = (formed_inside rows' s, omega arith, omega arith)

-- a leg that starts at images of ld and rd
pub leg_start : (parting : Bool) (ld rd i j stop f : ℕ) (rows : List ℕ) (l r : ℕ) (w : Leg) (rows' : List ℕ) → l ≡ beta rows i ld → r ≡ beta rows j rd →
    leg_out w rows' ≡ walk (step_of parting ld rd) f rows i j stop l r 0 →
    leg_out w rows' ≡ walk (step_of parting ld rd) f rows i j stop (beta rows i ld) (beta rows j rd) 0
leg_start parting ld rd i j stop f rows l r w rows' el er e = e ∙ rw (el, er)

-- what a leg that was walked leaves
module _ (parting : Bool) (ld rd i j stop f : ℕ) (rows : List ℕ) (l r : ℕ) (w : Leg) (rows' : List ℕ)
    (e : leg_out w rows' ≡ walk (step_of parting ld rd) f rows i j stop l r 0) (hi : i < 3) (hj : j < 3) (s : WellFormed rows) (hl : l < darts rows)
    (hr : r < darts rows) where
  pub leg_walked : Walked parting rows i j l r 0 (leg_out w rows')
  leg_walked = rw e (walked parting ld rd i j stop hi hj f rows l r 0 s hl hr)

  pub leg_undone : undone parting w.steps rows' i j l r ≡ rows
  leg_undone =
      let v = leg_walked in
      let q : w.steps ≡ v.more = let p = v.steps in omega arith in
      rw q v.again

-- the second leg
module _ (d : ℕ) (entry : List ℕ) (w : Leg) (rows' : List ℕ) (o : LegOut) (e : leg_out w rows' ≡ o) where
  pub last_refused : (rows'' : List ℕ) → is_ok w.answer ≡ false → rows'' ≡ entry → out w.answer rows'' ≡ last_leg d entry o
  last_refused rows'' t q = simp (q, ← e, t)

  pub last_done : (x : ℕ) → x ≡ d → is_ok w.answer ≡ true → out (done x 0) rows' ≡ last_leg d entry o
  last_done x p t = simp (← e, t, p)

-- the whole, after a step at ld and rd that left a and rows₁
module _ (parting : Bool) (d : ℕ) (entry : List ℕ) (ld rd : ℕ) (a : Answer) (rows₁ : List ℕ) (o : Out) (e : out a rows₁ ≡ o) where
  pub on_refused : is_ok a ≡ false → rows₁ ≡ entry → out a rows₁ ≡ after_core parting d entry ld rd o
  on_refused t q = rw (← e) (simp (t, q))

  module _ (t : is_ok a ≡ true) (w : Leg) (rows₂ : List ℕ) (p : leg_out w rows₂ ≡ leg_on parting rows₁ ld rd) where
    pub on_leg_refused : (rows₃ : List ℕ) → is_ok w.answer ≡ false → rows₃ ≡ entry → out w.answer rows₃ ≡ after_core parting d entry ld rd o
    on_leg_refused rows₃ b q = rw (← e) (simp (t, ← p, b, q))

    pub on_closed : (x : ℕ) → x ≡ d → is_ok w.answer ≡ true → w.pair.l ≢ 0 → out (done x 0) rows₂ ≡ after_core parting d entry ld rd o
    on_closed x q b n = rw (← e) (simp (t, ← p, b, ne_eqb w.pair.l 0 n, q))

    pub on_uneven : (rows₃ : List ℕ) → is_ok w.answer ≡ true → w.pair.l ≡ 0 → w.pair.r ≢ 0 → rows₃ ≡ entry →
        out (Err (AsymmetricalFaces ld rd)) rows₃ ≡ after_core parting d entry ld rd o
    on_uneven rows₃ b z n q = rw (← e) (simp (t, ← p, b, eq-eqb w.pair.l 0 z, ne_eqb w.pair.r 0 n, q))

    pub on_back : is_ok w.answer ≡ true → w.pair.l ≡ 0 → w.pair.r ≡ 0 → last_leg d entry (leg_back parting rows₂ ld rd) ≡ after_core parting d entry ld rd o
    on_back b z n = rw (← e) (simp (t, ← p, b, eq-eqb w.pair.l 0 z, eq-eqb w.pair.r 0 n))

-- all pairs of the first leg set back, ld and rd among them
pub on_undone : (parting : Bool) (entry : List ℕ) (ld rd : ℕ) (rows₁ : List ℕ) (w : Leg) (rows₂ : List ℕ) → WellFormed entry → ld < darts entry →
    rd < darts entry → ld ≢ 0 →
    Changed parting entry ld rd rows₁ → leg_out w rows₂ ≡ leg_on parting rows₁ ld rd → undone parting (w.steps + 1) rows₂ 1 0 ld rd ≡ entry
on_undone parting entry ld rd rows₁ w rows₂ s hl hr nl h p =
    let s₁ = changed_formed parting entry ld rd rows₁ s h hl hr nl in
    let v = leg_walked parting ld rd 1 0 ld (suc (length rows₁)) rows₁ (beta rows₁ 1 ld) (beta rows₁ 0 rd) w rows₂ p (omega arith) (omega arith) s₁
    (s₁.below 1 ld) (s₁.below 0 rd) in
    let q : suc v.more ≡ w.steps + 1 = let e = v.steps in omega arith in
    rw q at (again_on parting entry ld rd rows₁ s h hl hr nl 1 0 0 (omega arith) (omega arith) (leg_out w rows₂) v)

-- the calls

pub on_link : (entry : List ℕ) (ld rd : ℕ) → rd ≢ 0 → after_core false 0 entry ld rd (step_of false ld rd entry ld rd) ≡ three_link_on entry ld rd
unfolding three_link_on
on_link entry ld rd n = ap (λ (o : Out). after_core false 0 entry ld rd o) (sym (step_link ld rd entry ld rd n))

module _ (entry : List ℕ) (ld : ℕ) where
  pub on_free : beta entry 3 ld ≡ 0 → out (Err (AlreadyFree 3 ld)) entry ≡ three_unlink_on entry ld
  unfolding three_unlink_on
  on_free z = ap (λ (o : Out). after_core true (beta entry 3 ld) entry ld (beta entry 3 ld) o) (unlink_free entry 3 ld z)

  pub on_unlink : (rd : ℕ) → WellFormed entry → rd ≡ beta entry 3 ld → rd ≢ 0 →
      after_core true rd entry ld rd (step_of true ld rd entry ld rd) ≡ three_unlink_on entry ld
  unfolding three_unlink_on
  on_unlink rd s e n =
      let b : ld ≡ beta entry 3 rd = sym (w.back 3 ld (omega arith) (λ z. n (e ∙ z))) ∙ ap (λ (x : ℕ). beta entry 3 x) (sym e) in
      ap (λ (o : Out). after_core true rd entry ld rd o) (sym (step_unlink ld rd entry ld rd b))
      ∙ ap (λ (x : ℕ). after_core true x entry ld x (unlink_core entry 3 ld)) e
    where
      w : WellFormed entry
      w = s
