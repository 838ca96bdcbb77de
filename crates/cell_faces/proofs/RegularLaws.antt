-- Regular faces: the test finds them, and a whole face is regular where one of its darts is.
--   regular_sound, regular_complete   the test passes exactly where the face is regular
--   regular_spread                    what a dart of a regular face reaches by the face's steps is regular too
--   regular_alone, regular_paired     its two cases: no dart is faced, or all are and face each other
--   face_id_least                     there the face identifier is the least dart of the Face orbit
--   face_alone                        the face identifier of a dart without an image is the dart itself
--   face_own                          so it is of the least dart of a Face orbit, regular or not
-- Assumes nothing.
use Prim.Native.Nat.{ℕ, zero, suc, ◌-◌, ◌≤◌, ◌<◌}
use native.Mathlib.Nat.{le_trans, le_antisymm}
use native.Mathlib.Omega.{arith}
use native.Mathlib.Decide.{ℕ_discrete}
use mathlib.Core.Path.{◌≡◌, refl, sym, ap, ◌∙◌, subst}
use mathlib.Core.Bool.{Bool, true, false, cond, not, false≢true}
use mathlib.Core.Logic.{◌≢◌, ⊎_elim, by_cases}
use mathlib.Core.List.Memᴰ
use mathlib.Core.List.{List}
use mathlib.Mathlib.Logic.Relation.ReflTransGenᴰ
use lib.Dec.{eqb, lit<}
use borrow.Author.Tests.{eqb-true, eqb-false, eq-eqb, ne_eqb}
use Rattle.map_betas.specs.Betas.{beta, darts}
use Rattle.map_betas.specs.Maps.{WellFormed, Free}
use Rattle.map_betas.specs.Chains.{far, Chain, first, on, back}
use Rattle.map_betas.proofs.Chains.{far_zero, chain_trans, chain_round}
use Rattle.cell_steps.specs.Steps.{image, face}
use Rattle.cell_steps.specs.Search.{Step, Reach}
use Rattle.cell_steps.specs.Idents.{ident}
use Rattle.cell_steps.proofs.ChainLaws.{Enough, enough_starts, enough_on}
use Rattle.cell_steps.proofs.IdentLaws.{ident_least, reach_below, reach_real}
use Rattle.cell_faces.specs.Faces.{forward, face_id, Regular, regular_from, regular}
use Rattle.cell_faces.proofs.LeastLaws.{before_real, across_back, face_least}
use Rattle.cell_faces.proofs.SoundLaws.{lower_le, leg_low, walk_facts}

-- ---- the test

module _ (rows : List ℕ) (w : WellFormed rows) (d : ℕ) where
  -- what the test asks at each dart
  abbrev Fits : ℕ → Type 0
  Fits x = (beta rows 1 x ≡ 0 → ⊥) × (beta rows 3 (beta rows 1 x) ≡ beta rows 0 (beta rows 3 x))

  -- a test that passes has gone on from x to d
  abbrev Tested : ℕ → Type 0
  Tested x = (m : ℕ) × (far rows 1 (suc m) x ≡ d) × ((t : ℕ) → t < suc m → Fits (far rows 1 t x))

  tested : (f x : ℕ) → regular_from rows d f x ≡ true → Tested x
  unfolding regular_from far
  tested zero x e = absurd (false≢true e)
  tested (suc f) x e =
      go (eqb (beta rows 1 x) 0) refl (eqb (beta rows 3 (beta rows 1 x)) (beta rows 0 (beta rows 3 x))) refl (eqb (beta rows 1 x) d) refl
      (tested f (beta rows 1 x)) e
    where
      go : (a : Bool) → eqb (beta rows 1 x) 0 ≡ a → (b : Bool) → eqb (beta rows 3 (beta rows 1 x)) (beta rows 0 (beta rows 3 x)) ≡ b →
          (c : Bool) → eqb (beta rows 1 x) d ≡ c → (regular_from rows d f (beta rows 1 x) ≡ true → Tested (beta rows 1 x)) →
          cond a false (cond (not b) false (cond c true (regular_from rows d f (beta rows 1 x)))) ≡ true → Tested x
      go true ea b eb c ec more t = absurd (false≢true t)
      go false ea false eb c ec more t = absurd (false≢true t)
      go false ea true eb true ec more t = (0, eqb-true _ _ ec, only)
        where
          only : (t : ℕ) → t < 1 → Fits (far rows 1 t x)
          only zero h = (eqb-false _ _ ea, eqb-true _ _ eb)
          only (suc t) h = absurd (omega arith)
      go false ea true eb false ec more t = let r = more t in (suc r.0, r.1, all r.0 r.2)
        where
          all : (m : ℕ) → ((t : ℕ) → t < suc m → Fits (far rows 1 t (beta rows 1 x))) → (t : ℕ) → t < suc (suc m) → Fits (far rows 1 t x)
          all m g zero h = (eqb-false _ _ ea, eqb-true _ _ eb)
          all m g (suc t) h = g t (omega arith)

  pub regular_sound : regular rows d ≡ true → Regular rows d
  unfolding regular
  regular_sound e =
      let r = tested (darts rows) d e in
      let real : d ≢ 0 = λ z. (r.2 0 (omega arith)).0 (ap (beta rows 1) (far_zero rows 1 d ∙ z) ∙ w.null 1 (lit< tt)) in
      let fits : (x : ℕ) → Chain rows d x → Fits x =
      λ x c. let s = chain_round rows w d real r.0 r.1 c in subst Fits (sym s.2) (r.2 s.0 s.1) in
      record { closed = λ x c. (fits x c).0; across = λ x c. (fits x c).1 }

  module _ (lt : d < darts rows) (real : d ≡ 0 → ⊥) (v : Regular rows d) where
    -- the test does not use up its turns
    passes : (f x : ℕ) → Chain rows d x → Enough rows d f x → regular_from rows d f x ≡ true
    unfolding regular_from
    passes zero x c k = absurd (omega (arith, k.few))
    passes (suc f) x c k =
        simp (ne_eqb _ _ (v.closed x c), eq-eqb _ _ (v.across x c))
        (by_cases (ℕ_discrete (beta rows 1 x) d)
        (λ (e : beta rows 1 x ≡ d). simp (eq-eqb _ _ e))
        (λ (o : beta rows 1 x ≢ d).
        let e : suc f - 1 ≡ f = omega arith in
        simp (ne_eqb _ _ o)
        (passes f (beta rows 1 x) (on c (v.closed x c))
        (subst (λ (g : ℕ). Enough rows d g (beta rows 1 x)) e (enough_on rows d (suc f) x k (beta rows 1 x) refl (v.closed x c) o)))))

    pub regular_complete : regular rows d ≡ true
    unfolding regular
    regular_complete = passes (darts rows) d first (enough_starts rows w d lt)

    back_real : {x : ℕ} → Chain rows d x → beta rows 0 x ≡ 0 → ⊥
    back_real c = before_real rows w d lt real v.closed c

    -- ---- the images by beta 3 are a regular chain

    module _ (other : beta rows 3 d ≡ 0 → ⊥) where
      Image : ℕ → Type 0
      Image y = (z : ℕ) × Chain rows d z × (beta rows 3 z ≡ y)

      before : (z : ℕ) → Chain rows d z → (beta rows 3 z ≡ 0 → ⊥) →
          (beta rows 1 (beta rows 3 z) ≡ beta rows 3 (beta rows 0 z)) × (beta rows 3 (beta rows 0 z) ≡ 0 → ⊥)
      before = across_back rows w d lt real v.closed v.across

      imaged : {y : ℕ} → Chain rows (beta rows 3 d) y → Image y × (y ≡ 0 → ⊥)
      unfolding Image
      imaged first = ((d, first, refl), other)
      imaged (on {d = a} r n) =
          let q = imaged r in
          let c : Chain rows d q.0.0 = q.0.1 in
          let k = before q.0.0 c (λ x. q.1 (sym q.0.2 ∙ x)) in
          ((beta rows 0 q.0.0, back c (back_real c), sym k.0 ∙ ap (beta rows 1) q.0.2), n)
      imaged (back {d = a} r n) =
          let q = imaged r in
          let c : Chain rows d q.0.0 = q.0.1 in
          ((beta rows 1 q.0.0, on c (v.closed q.0.0 c), v.across q.0.0 c ∙ ap (beta rows 0) q.0.2), n)

      pub regular_image : Regular rows (beta rows 3 d)
      unfolding Image
      regular_image =
          record {
            closed = λ y r.
                let q = imaged r in
                let k = before q.0.0 q.0.1 (λ x. q.1 (sym q.0.2 ∙ x)) in
                λ x. k.1 (sym k.0 ∙ ap (beta rows 1) q.0.2 ∙ x);
            across = λ y r.
                let q = imaged r in
                let z : ℕ = q.0.0 in
                let y-real : beta rows 3 z ≡ 0 → ⊥ = λ x. q.1 (sym q.0.2 ∙ x) in
                let k = before z q.0.1 y-real in
                ap (λ (u : ℕ). beta rows 3 (beta rows 1 u)) (sym q.0.2)
                ∙ ap (beta rows 3) k.0
                ∙ w.back 3 (beta rows 0 z) (lit< tt) k.1
                ∙ ap (beta rows 0) (sym (w.back 3 z (lit< tt) y-real))
                ∙ ap (λ (u : ℕ). beta rows 0 (beta rows 3 u)) q.0.2;
          }

-- ---- a whole face

module _ (rows : List ℕ) (w : WellFormed rows) where
  -- a step of the chain keeps to the chain
  chain_regular : (a b : ℕ) → Regular rows a → Chain rows a b → Regular rows b
  chain_regular a b v r =
      record { closed = λ x c. v.closed x (chain_trans r c); across = λ x c. v.across x (chain_trans r c) }

  step_regular : (a b : ℕ) → a < darts rows → (a ≡ 0 → ⊥) → Regular rows a → Step rows face a b → Regular rows b
  unfolding image
  step_regular a b lt real v t =
      let to : (i : ℕ) → t.by ≡ i → image rows i a ≡ b = λ i e. ap (λ (k : ℕ). image rows k a) (sym e) ∙ t.leads in
      ⊎_elim
      (λ e. subst (Regular rows) (to 1 e) (chain_regular a _ v (on first (λ z. t.real (sym (to 1 e) ∙ z)))))
      (λ j.
      ⊎_elim
      (λ e. subst (Regular rows) (to 0 e) (chain_regular a _ v (back first (λ z. t.real (sym (to 0 e) ∙ z)))))
      (λ k.
      let e = Memᴰ.eq_of_singleton k in
      subst (Regular rows) (to 3 e) (regular_image rows w a lt real v (λ z. t.real (sym (to 3 e) ∙ z))))
      (Memᴰ.cases_cons j))
      (Memᴰ.cases_cons t.listed)

  pub regular_spread : {a b : ℕ} → a < darts rows → (a ≡ 0 → ⊥) → Regular rows a → Reach rows face a b → Regular rows b
  regular_spread lt real v ReflTransGenᴰ.refl = v
  regular_spread {a} lt real v (ReflTransGenᴰ.tail {b = b} {c = c} r t) =
      step_regular b c (reach_below rows face w.below a lt r) (reach_real rows face real r) (regular_spread lt real v r) t

  -- ---- the two cases of a regular face, and what follows

  module _ (d : ℕ) (closed : (x : ℕ) → Chain rows d x → beta rows 1 x ≡ 0 → ⊥) where
    pub regular_alone : ((x : ℕ) → Chain rows d x → beta rows 3 x ≡ 0) → Regular rows d
    regular_alone free =
        record {
          closed = closed;
          across = λ x c. free (beta rows 1 x) (on c (closed x c)) ∙ sym (ap (beta rows 0) (free x c) ∙ w.null 0 (lit< tt));
        }

    pub regular_paired : ((x : ℕ) → Chain rows d x → (beta rows 3 x ≡ 0 → ⊥) × (beta rows 0 (beta rows 3 x) ≡ beta rows 3 (beta rows 1 x))) →
        Regular rows d
    regular_paired h = record { closed = closed; across = λ x r. sym (h x r).1 }

  pub face_id_least : (d : ℕ) → d < darts rows → (d ≡ 0 → ⊥) → Regular rows d → face_id rows d ≡ ident rows face d
  face_id_least d lt real v = face_least rows w d lt real v.closed v.across

  -- from a dart without an image no step leads on
  alone_reach : (d : ℕ) → Free rows d → {x : ℕ} → Reach rows face d x → x ≡ d
  unfolding image
  alone_reach d free ReflTransGenᴰ.refl = refl
  alone_reach d free (ReflTransGenᴰ.tail {b = a} {c = b} r t) =
      let z = alone_reach d free r in
      let to : (i : ℕ) → t.by ≡ i → i < 4 → image rows i a ≡ beta rows i a → b ≡ d =
      λ i e lt f. absurd (t.real (sym t.leads ∙ ap (λ (k : ℕ). image rows k a) e ∙ f ∙ ap (beta rows i) z ∙ free i lt)) in
      ⊎_elim (λ e. to 1 e (lit< tt) refl)
      (λ j. ⊎_elim (λ e. to 0 e (lit< tt) refl) (λ k. to 3 (Memᴰ.eq_of_singleton k) (lit< tt) refl) (Memᴰ.cases_cons j))
      (Memᴰ.cases_cons t.listed)

  pub face_alone : (d : ℕ) → Free rows d → face_id rows d ≡ d
  unfolding face_id
  face_alone d free = alone_reach d free (walk_facts rows w d).0

  -- the walk starts at the least dart, stays in the orbit and only goes down
  pub face_own : (d : ℕ) → d < darts rows → ident rows face d ≡ d → face_id rows d ≡ d
  unfolding face_id forward
  face_own d h e =
      let f = walk_facts rows w d in
      let up : d ≤ face_id rows d = subst (λ (x : ℕ). x ≤ face_id rows d) e (ident_least rows face w.below d h f.0) in
      let down : face_id rows d ≤ d = le_trans f.1 (le_trans (leg_low rows 1 0 (darts rows) _) (lower_le d (beta rows 3 d))) in
      le_antisymm down up
