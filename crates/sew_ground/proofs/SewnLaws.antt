-- Each way in which a plan is settled (`settles-..`) and in which a sew ends: refused by its work (`ends_refused`), without room (`ends_tight`),
-- done (`ends_done`). What the code leaves is on the left. Assumes nothing.
use Rattle.std.specs.Prelude.{◌≡◌, ℕ, ◌<◌, ◌≤◌, true, false, List, length, Err, is_ok}
use mathlib.Core.Path.{sym, ap, ◌∙◌}
use borrow.Author.Tests.{le-leb, lt-leb}
use Rattle.map_betas.specs.declared.error.Refusal.TheVariants.{PlanRoom}
use Rattle.map_betas.specs.Answers.{Answer, done}
use Rattle.sew_plan.specs.declared.Entry.{Entry}
use Rattle.sew_plan.specs.Plan.{room_of, put_plan}
use Rattle.sew_ground.specs.Sewn.{Work, leaves, dart_of, settles, settled, sewn}

module _ (plan : List ℕ) (d : ℕ) (es : List Entry) (k : ℕ) (ek : k ≡ length es) where
  pub settles_tight : room_of plan < k → settles (Err (PlanRoom k)) plan ≡ settled plan d es
  unfolding settled
  settles_tight h = simp (← ek, lt-leb k (room_of plan) h)

  pub settles_done : (plan₁ : List ℕ) → k ≤ room_of plan → plan₁ ≡ put_plan es plan → settles (done d k) plan₁ ≡ settled plan d es
  unfolding settled
  settles_done plan₁ h p = simp (p, ← ek, le-leb k (room_of plan) h)

module _ (rows plan : List ℕ) (w : Work) where
  pub ends_refused : (a : Answer) (rows₁ : List ℕ) → a ≡ w.answer → rows₁ ≡ rows → is_ok a ≡ false → leaves a rows₁ plan ≡ sewn rows plan w
  unfolding sewn
  ends_refused a rows₁ e r t = simp (r, ← e, t)

  module _ (done : is_ok w.answer ≡ true) (d : ℕ) (es : List Entry) (ed : d ≡ dart_of w.answer) (ee : es ≡ w.entries)
      (b : Answer) (plan₁ : List ℕ) (s : settles b plan₁ ≡ settled plan d es) where
    the_plan : settled plan (dart_of w.answer) w.entries ≡ settles b plan₁
    the_plan = ap (λ (x : ℕ). settled plan x w.entries) (sym ed) ∙ ap (settled plan d) (sym ee) ∙ sym s

    pub ends_tight : (rows₁ : List ℕ) → rows₁ ≡ rows → is_ok b ≡ false → leaves b rows₁ plan₁ ≡ sewn rows plan w
    unfolding sewn
    ends_tight rows₁ r t = simp (done, the_plan, r, t)

    pub ends_done : (rows₁ : List ℕ) → rows₁ ≡ w.rows → is_ok b ≡ true → leaves b rows₁ plan₁ ≡ sewn rows plan w
    unfolding sewn
    ends_done rows₁ r t = simp (done, the_plan, r, t)
