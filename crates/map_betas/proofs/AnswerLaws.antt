-- Tests one after the other: the code returns the first refusal (`stops`) or goes on (`goes_on`); both passed where the whole did (`first_done`, `then_done`). Outcomes that are the same: one is not done and the other
-- refused (`not_both`), and they have the same rows (`rows_same`). A call behind its tests: `behind_refused`, `behind_done`, `refused_leaves`; what it leaves, from its answer and its
-- loans: `outcome_is`; as it crosses to C: `crosses`. Assumes nothing.
use Prim.Native.Nat.{ℕ}
use mathlib.Core.Path.{◌≡◌, refl, sym, ap, ◌∙◌}
use mathlib.Core.List.{List}
use mathlib.Core.Bool.{true, false, true≢false}
use Rattle.map_betas.specs.Answers.{Out, Outcome, outcome, behind, Answer, Test}
use Rattle.map_betas.specs.Flat.{flat, flat_of, crossing, crossed}
use Rattle.std.specs.Prelude.{Result, Err, Ok, is_ok, IsErrAnd, ⊤}
use Rattle.std.proofs.lemmas.Result.{err_from_is_err_and}
use Rattle.map_betas.specs.declared.error.Refusal.{Refusal}
use Rattle.std.specs.Result.{result_and}

-- h is what the code has, a what the definition says; r is what a `?` returns
module _ {A B E : Type 0} {h a : Result A E} (e : h ≡ a) where
  pub stops : {w : E} (r b : Result B E) → h ≡ Err w → IsErrAnd r (λ x. x ≡ w) → r ≡ result_and a b
  stops {w} r b t q =
      let p = err_from_is_err_and {Q = λ x. x ≡ w} r q in
      rw (p.1, p.2, sym e, t) refl

  pub goes_on : {x : A} (b : Result B E) → h ≡ Ok x → b ≡ result_and a b
  goes_on b t = rw (sym e, t) refl

pub first_done : {A B E : Type 0} (a : Result A E) (b : Result B E) → is_ok (result_and a b) ≡ true → is_ok a ≡ true
first_done (Ok x) b t = refl
first_done (Err w) b t = t

pub then_done : {A B E : Type 0} (a : Result A E) (b : Result B E) → is_ok (result_and a b) ≡ true → is_ok b ≡ true
then_done (Ok x) b t = t
then_done (Err w) b t = absurd (true≢false (sym t))

pub not_both : (o p : Out) → o ≡ p → is_ok p.answer ≡ false → is_ok o.answer ≡ true → ⊥
not_both o p e f t = true≢false (sym t ∙ ap (λ (x : Out). is_ok x.answer) e ∙ f)

pub rows_same : (o p : Out) → o ≡ p → o.rows ≡ p.rows
rows_same o p e = ap (λ (x : Out). x.rows) e

-- g is what the code has, h what the definition says; r is what a `?` returns
module _ {L : Type 0} {g h : Test} (e : g ≡ h) (loans : L) (o : Outcome L) where
  pub behind_refused : {w : Refusal} (r : Answer) → g ≡ Err w → IsErrAnd r (λ x. x ≡ w) → outcome r loans ≡ behind h loans o
  behind_refused {w} r t q =
      let p = err_from_is_err_and {Q = λ x. x ≡ w} r q in
      rw (p.1, p.2, sym e, t) refl

  pub behind_done : {x : ⊤} → g ≡ Ok x → o ≡ behind h loans o
  behind_done t = rw (sym e, t) refl

-- a call that is never refused behind its tests leaves every loan where it is refused
pub refused_leaves : {L : Type 0} (g : Test) (loans : L) (o : Outcome L) → is_ok o.answer ≡ true → is_ok (behind g loans o).answer ≡ false →
    (behind g loans o).loans ≡ loans
refused_leaves {L} (Ok x) loans o t f = absurd (true≢false (sym t ∙ f))
refused_leaves {L} (Err w) loans o t f = refl

pub outcome_is : {L : Type 0} {a b : Answer} {l m : L} → a ≡ b → l ≡ m → outcome a l ≡ outcome b m
outcome_is e f = λ t. record { answer = e t; loans = f t }

-- what a call leaves, handed on
pub crosses : {L : Type 0} (k : ℕ) (values : List ℕ) (a : Answer) (l : L) (o : Outcome L) → flat k values ≡ flat_of a → outcome a l ≡ o →
    crossing k values l ≡ crossed o
crosses {L} k values a l o f e = λ t. record { told = (f ∙ ap (λ (x : Outcome L). flat_of x.answer) e) t; loans = (e t).loans }
