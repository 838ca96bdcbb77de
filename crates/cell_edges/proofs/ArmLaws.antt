-- An arm of an edge, turn by turn.
--   edge_two, edge_image, edge_less, edge_back, edge_moved   the two steps of an edge
--   other_edge, not_other, one_or_other   the other of the two
--   Over, over_or           whether a dart ends an arm
--   arm_stops, end_stops    an arm ends where its next dart does
--   arm_on, end_on          and else goes on by the other beta
--   others_round, others_open   the arms of an edge
--   Went, arm_went          what holds at the start and after each turn holds at the end
-- Assumes nothing.
use Prim.Native.Nat.{ℕ, zero, suc, ◌+◌, ◌-◌, ◌≤◌, ◌<◌}
use native.Mathlib.Omega.{arith}
use native.Mathlib.Decide.{ℕ_discrete}
use mathlib.Core.Path.{◌≡◌, refl, sym, ap, ◌∙◌, subst}
use mathlib.Core.Logic.{◌≢◌, ◌⊎◌, inl, inr, ⊎_elim, by_cases}
use mathlib.Core.Bool.{Bool, true, false, ◌||◌, or-true}
use mathlib.Core.List.{List, [], ◌∷◌, ◌++◌, append_assoc, append-nil}
use mathlib.Core.List.Memᴰ
use lib.Dec.{eqb, lit<}
use lib.ListN.{length, length-append}
use borrow.Author.Tests.{eq-eqb, ne_eqb}
use Rattle.map_betas.specs.Betas.{beta}
use Rattle.map_betas.specs.Maps.{WellFormed}
use Rattle.cell_steps.specs.Steps.{image, edge}
use Rattle.cell_steps.specs.Search.{In}
use Rattle.cell_edges.specs.Arms.{arm, arm_end, arm_of, end_of, others}

-- ---- the two steps of an edge

pub edge_two : {j : ℕ} → In j edge → (j ≡ 2) ⊎ (j ≡ 3)
edge_two m = ⊎_elim inl (λ k. inr (Memᴰ.eq_of_singleton k)) (Memᴰ.cases_cons m)

pub edge_image : (rows : List ℕ) (j x : ℕ) → In j edge → image rows j x ≡ beta rows j x
unfolding image
edge_image rows j x m =
    ⊎_elim
    (λ e. subst (λ (i : ℕ). image rows i x ≡ beta rows i x) (sym e) refl)
    (λ e. subst (λ (i : ℕ). image rows i x ≡ beta rows i x) (sym e) refl)
    (edge_two m)

-- the other of the two
pub other_edge : {j : ℕ} → In j edge → In (5 - j) edge
other_edge m = ⊎_elim (λ b. Memᴰ.tail (Memᴰ.head (omega arith))) (λ b. Memᴰ.head (omega arith)) (edge_two m)

pub edge_less : {j : ℕ} → In j edge → j < 4
edge_less m = ⊎_elim (λ e. omega arith) (λ e. omega arith) (edge_two m)

-- one of the two is not the other
pub not_other : {j : ℕ} → In j edge → j ≡ 5 - j → ⊥
not_other m e = ⊎_elim (λ b. omega arith) (λ b. omega arith) (edge_two m)

-- a step of an edge is one that is given, or the other
pub one_or_other : {i j : ℕ} → In i edge → In j edge → (j ≡ i) ⊎ (j ≡ 5 - i)
one_or_other m n =
    ⊎_elim
    (λ a. ⊎_elim (λ b. inl (omega arith)) (λ b. inr (omega arith)) (edge_two n))
    (λ a. ⊎_elim (λ b. inr (omega arith)) (λ b. inl (omega arith)) (edge_two n))
    (edge_two m)

module _ (rows : List ℕ) (w : WellFormed rows) where
  -- beta 2 and beta 3 lead back by themselves
  pub edge_back : (j x : ℕ) → In j edge → beta rows j x ≢ 0 → beta rows j (beta rows j x) ≡ x
  edge_back j x m =
      ⊎_elim
      (λ e. subst (λ (i : ℕ). beta rows i x ≢ 0 → beta rows i (beta rows i x) ≡ x) (sym e) (w.back 2 x (lit< tt)))
      (λ e. subst (λ (i : ℕ). beta rows i x ≢ 0 → beta rows i (beta rows i x) ≡ x) (sym e) (w.back 3 x (lit< tt)))
      (edge_two m)

  -- and from no real dart to itself
  pub edge_moved : (j x : ℕ) → In j edge → x ≢ 0 → beta rows j x ≢ x
  edge_moved j x m n e = w.moved j x (⊎_elim (λ b. omega arith) (λ b. omega arith) (edge_two m)) (edge_less m) (λ z. n (sym e ∙ z)) e

-- ---- an arm, turn by turn

-- a dart that ends an arm
abbrev pub Over : ℕ → ℕ → Type 0
Over stop y = (y ≡ 0) ⊎ (y ≡ stop)

pub over_or : (stop y : ℕ) → Over stop y ⊎ ((y ≢ 0) × (y ≢ stop))
over_or stop y =
    by_cases (ℕ_discrete y 0)
    (λ (z : y ≡ 0). inl (inl z))
    (λ (n : y ≢ 0). by_cases (ℕ_discrete y stop) (λ (e : y ≡ stop). inl (inr e)) (λ (o : y ≢ stop). inr (n, o)))

over_test : (stop y : ℕ) → Over stop y → (eqb y 0 || eqb y stop) ≡ true
over_test stop y =
    ⊎_elim
    (λ z. ap (λ (b : Bool). b || eqb y stop) (eq-eqb y 0 z))
    (λ e. ap (λ (b : Bool). eqb y 0 || b) (eq-eqb y stop e) ∙ or-true (eqb y 0))

on_test : (stop y : ℕ) → y ≢ 0 → y ≢ stop → (eqb y 0 || eqb y stop) ≡ false
on_test stop y n o = ap (λ (b : Bool). b || eqb y stop) (ne_eqb y 0 n) ∙ ne_eqb y stop o

module _ (rows : List ℕ) (stop i x : ℕ) where
  pub arm_stops : (f : ℕ) → Over stop (beta rows i x) → arm f rows stop i x ≡ []
  unfolding arm
  arm_stops zero o = refl
  arm_stops (suc f) o = simp (over_test stop (beta rows i x) o)

  pub end_stops : (f : ℕ) → Over stop (beta rows i x) → arm_end f rows stop i x ≡ beta rows i x
  unfolding arm_end
  end_stops zero o = refl
  end_stops (suc f) o = simp (over_test stop (beta rows i x) o)

  module _ (f : ℕ) (n : beta rows i x ≢ 0) (o : beta rows i x ≢ stop) where
    pub arm_on : arm (suc f) rows stop i x ≡ beta rows i x ∷ arm f rows stop (5 - i) (beta rows i x)
    unfolding arm
    arm_on = simp (on_test stop (beta rows i x) n o)

    pub end_on : arm_end (suc f) rows stop i x ≡ arm_end f rows stop (5 - i) (beta rows i x)
    unfolding arm_end
    end_on = simp (on_test stop (beta rows i x) n o)

module _ (rows : List ℕ) (d : ℕ) where
  -- an edge that is round is its first arm
  pub others_round : end_of rows 2 d ≢ 0 → others rows d ≡ arm_of rows 2 d
  unfolding others
  others_round n = rw (ne_eqb (end_of rows 2 d) 0 n) (append-nil (arm_of rows 2 d))

  -- and one that is open both
  pub others_open : end_of rows 2 d ≡ 0 → others rows d ≡ arm_of rows 2 d ++ arm_of rows 3 d
  unfolding others
  others_open z = rw (eq-eqb (end_of rows 2 d) 0 z)

-- ---- what holds at the start and after each turn holds at the end

-- P holds of the darts l that were met, of the last of them and of the beta that leads on from it, to e, which ends the arm
pub record Went (rows : List ℕ) (stop : ℕ) (P : List ℕ → ℕ → ℕ → Type 0) (l : List ℕ) (e : ℕ) : Type 0 where
  pub last : ℕ
  pub by : ℕ
  pub holds : P l last by
  pub leads : beta rows by last ≡ e
  pub over : Over stop e

module _ (rows : List ℕ) (stop n : ℕ) (P : List ℕ → ℕ → ℕ → Type 0) (few : (l : List ℕ) (x by : ℕ) → P l x by → length l ≤ n)
    (turn : (l : List ℕ) (x by : ℕ) → P l x by → beta rows by x ≢ 0 → beta rows by x ≢ stop → P (l ++ (beta rows by x ∷ [])) (beta rows by x) (5 - by)) where
  ended : (f : ℕ) (l : List ℕ) (x by : ℕ) → P l x by → Over stop (beta rows by x) → Went rows stop P (l ++ arm f rows stop by x) (arm_end f rows stop by x)
  ended f l x by p o =
      rw (arm_stops rows stop by x f o, end_stops rows stop by x f o, append-nil l)
      (record { last = x; by = by; holds = p; leads = refl; over = o })

  -- an arm of as many darts as there may be ends in null or at the stop
  pub arm_went : (f : ℕ) (l : List ℕ) (x by : ℕ) → n ≤ length l + f → P l x by → Went rows stop P (l ++ arm f rows stop by x) (arm_end f rows stop by x)
  arm_went zero l x by h p =
      ⊎_elim
      (ended 0 l x by p)
      (λ q. absurd (omega (arith, few _ _ _ (turn l x by p q.0 q.1), length-append l (beta rows by x ∷ []))))
      (over_or stop (beta rows by x))
  arm_went (suc f) l x by h p =
      ⊎_elim
      (ended (suc f) l x by p)
      (λ q.
      rw (
        arm_on rows stop by x f q.0 q.1,
        end_on rows stop by x f q.0 q.1,
        sym (append_assoc l (beta rows by x ∷ []) (arm f rows stop (5 - by) (beta rows by x))),
      )
      (arm_went f (l ++ (beta rows by x ∷ [])) (beta rows by x) (5 - by) (omega (arith, h, length-append l (beta rows by x ∷ [])))
      (turn l x by p q.0 q.1)))
      (over_or stop (beta rows by x))
