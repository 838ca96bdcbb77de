-- What a step of the walk does to its pair, of a link and of an unlink alike.
--   Changed                `PairChanged` at beta 3: the pair was free and is linked, or was linked and is free
--   step_null, step_link, step_stray, step_unlink   the cases of a step
--   link_step_done, step_done   a step that is done changes its pair
--   step_kept              a step that refuses leaves the rows
--   formed_inside          a map's images are all darts
--   changeable, changeable_le   how many places a walk can still change
--   changed_..             what a change leaves: a map (`changed_formed`), the other images, fewer places to change (`changed_fewer`)
-- Assumes nothing.
use Prim.Native.Nat.{ℕ, ◌-◌, ◌<◌, ◌≤◌}
use native.Mathlib.Omega.{arith}
use native.Mathlib.Decide.{ℕ_discrete}
use mathlib.Core.Path.{◌≡◌, refl, sym, ap, ◌∙◌}
use mathlib.Core.Logic.{◌≢◌, by_cases}
use mathlib.Core.List.{List}
use mathlib.Core.Bool.{Bool, true, false, cond}
use lib.ListN.{length, set, length-set}
use borrow.Author.Tests.{eq-eqb, ne_eqb}
use Rattle.map_betas.specs.Betas.{place, beta, darts}
use Rattle.map_betas.specs.Maps.{WellFormed}
use Rattle.map_betas.specs.declared.error.Refusal.TheVariants.{AsymmetricalFaces}
use Rattle.map_betas.specs.Answers.{Out, out, Answer}
use Rattle.map_betas.specs.Cores.{link_core, unlink_core}
use Rattle.map_betas.proofs.AnswerLaws.{not_both, rows_same}
use Rattle.map_betas.proofs.Stores.{PairChanged, places_below, pair_length, pair_others, pair_l, pair_r, pair_back, pair_formed}
use Rattle.map_betas.proofs.Kept.{link_changed, link_refused, unlink_changed, unlink_refused}
use Rattle.link_walk.specs.Walk.{step_of}
use Rattle.link_walk.specs.Undo.{Inside}
use Rattle.link_walk.proofs.Stores.{zeros, zeros_le, zeros_fill, zeros_fill_le, zeros_clear, zeros_clear_le}
use Rattle.std.specs.Prelude.{Err, is_ok}

-- the pair was free and is linked by beta 3, or was linked and is free
abbrev pub Changed : Bool → List ℕ → ℕ → ℕ → List ℕ → Type 0
Changed parting rows l r rows' = PairChanged parting rows 3 l r rows'

-- the cases of a step

module _ (ld rd : ℕ) (rows : List ℕ) (l r : ℕ) where
  pub step_null : r ≡ 0 → out (Err (AsymmetricalFaces ld rd)) rows ≡ step_of false ld rd rows l r
  unfolding step_of
  step_null e = simp (eq-eqb r 0 e)

  pub step_link : r ≢ 0 → link_core rows 3 l r ≡ step_of false ld rd rows l r
  unfolding step_of
  step_link e = simp (ne_eqb r 0 e)

  pub step_stray : l ≢ beta rows 3 r → out (Err (AsymmetricalFaces ld rd)) rows ≡ step_of true ld rd rows l r
  unfolding step_of
  step_stray e = simp (ne_eqb _ _ e)

  pub step_unlink : l ≡ beta rows 3 r → unlink_core rows 3 l ≡ step_of true ld rd rows l r
  unfolding step_of
  step_unlink e = simp (eq-eqb _ _ e)

module _ (rows : List ℕ) (a : Answer) (rows' : List ℕ) (ld rd l r : ℕ) where
  pub link_step_done : out a rows' ≡ step_of false ld rd rows l r → is_ok a ≡ true → Changed false rows l r rows'
  link_step_done e t =
      by_cases (ℕ_discrete r 0)
      (λ (z : r ≡ 0). absurd (not_both _ _ (e ∙ sym (step_null ld rd rows l r z)) refl t))
      (λ (n : r ≢ 0).
      let q : link_core rows 3 l r ≡ out a rows' = step_link ld rd rows l r n ∙ sym e in
      rw (sym (rows_same _ _ q)) (link_changed rows 3 l r (ap (λ (o : Out). is_ok o.answer) q ∙ t) n))

  pub step_done : (parting : Bool) → WellFormed rows → l ≢ 0 → out a rows' ≡ step_of parting ld rd rows l r → is_ok a ≡ true → Changed parting rows l r rows'
  step_done false w nl e t = link_step_done e t
  step_done true w nl e t =
      by_cases (ℕ_discrete l (beta rows 3 r))
      (λ (p : l ≡ beta rows 3 r).
      let q : unlink_core rows 3 l ≡ out a rows' = step_unlink ld rd rows l r p ∙ sym e in
      let b : r ≡ beta rows 3 l = sym (ap (λ (d : ℕ). beta rows 3 d) p ∙ w.back 3 r (omega arith) (λ z. nl (p ∙ z))) in
      rw (sym (rows_same _ _ q), b) (unlink_changed rows 3 l w (omega arith) (omega arith) (ap (λ (o : Out). is_ok o.answer) q ∙ t)))
      (λ (p : l ≢ beta rows 3 r). absurd (not_both _ _ (e ∙ sym (step_stray ld rd rows l r p)) refl t))

  pub step_kept : (parting : Bool) → out a rows' ≡ step_of parting ld rd rows l r → is_ok a ≡ false → rows' ≡ rows
  step_kept false e t =
      by_cases (ℕ_discrete r 0)
      (λ (z : r ≡ 0). rows_same _ _ (e ∙ sym (step_null ld rd rows l r z)))
      (λ (n : r ≢ 0).
      let q : link_core rows 3 l r ≡ out a rows' = step_link ld rd rows l r n ∙ sym e in
      sym (rows_same _ _ q) ∙ link_refused rows 3 l r (ap (λ (o : Out). is_ok o.answer) q ∙ t))
  step_kept true e t =
      by_cases (ℕ_discrete l (beta rows 3 r))
      (λ (p : l ≡ beta rows 3 r).
      let q : unlink_core rows 3 l ≡ out a rows' = step_unlink ld rd rows l r p ∙ sym e in
      sym (rows_same _ _ q) ∙ unlink_refused rows 3 l (ap (λ (o : Out). is_ok o.answer) q ∙ t))
      (λ (p : l ≢ beta rows 3 r). rows_same _ _ (e ∙ sym (step_stray ld rd rows l r p)))

-- rows that are well formed are inside
pub formed_inside : (rows : List ℕ) → WellFormed rows → Inside (darts rows) rows
formed_inside rows w = record { whole = w.sized.whole; below = places_below rows w }

-- the number that falls: of a link the null places, of an unlink the others
abbrev pub changeable : Bool → List ℕ → ℕ
changeable false rows = zeros rows
changeable true rows = length rows - zeros rows

pub changeable_le : (parting : Bool) (rows : List ℕ) → changeable parting rows ≤ length rows
changeable_le false rows = zeros_le rows
changeable_le true rows = omega arith

-- what a change of a pair leaves: the laws of `PairChanged` at beta 3
module _ (parting : Bool) (rows : List ℕ) (l r : ℕ) (rows' : List ℕ) (w : WellFormed rows) (h : Changed parting rows l r rows') (hl : l < darts rows)
    (hr : r < darts rows)
    (nl : l ≢ 0) where
  pub changed_length : length rows' ≡ length rows
  changed_length = pair_length parting rows 3 l r rows' h

  pub changed_low : (i d : ℕ) → i < 3 → beta rows' i d ≡ beta rows i d
  changed_low i d hi = pair_others parting rows 3 l r rows' h i d (omega arith) (omega arith)

  pub changed_far : (d : ℕ) → d ≢ l → d ≢ r → beta rows' 3 d ≡ beta rows 3 d
  changed_far d a b = pair_others parting rows 3 l r rows' h 3 d (omega arith) (omega arith)

  pub changed_l : beta rows' 3 l ≡ cond parting 0 r
  changed_l = pair_l parting rows 3 l r rows' h (omega arith) (omega arith) (omega (arith, w.sized.whole))

  pub changed_r : beta rows' 3 r ≡ cond parting 0 l
  changed_r = pair_r parting rows 3 l r rows' h (omega arith) (omega arith) (omega (arith, w.sized.whole))

  pub changed_back : set (set rows' (place 3 l) (cond parting r 0)) (place 3 r) (cond parting l 0) ≡ rows
  changed_back = pair_back parting rows 3 l r rows' h (omega arith) (omega arith)

  pub changed_formed : WellFormed rows'
  changed_formed = pair_formed parting rows 3 l r rows' h (omega arith) (omega arith) w hl hr nl

  pub changed_fewer : changeable parting rows' < changeable parting rows
  changed_fewer = go parting h.was_l h.put
    where
      go : (u : Bool) → beta rows 3 l ≡ cond u r 0 → rows' ≡ set (set rows (place 3 l) (cond u 0 r)) (place 3 r) (cond u 0 l) →
          changeable u rows' < changeable u rows
      go false z p =
          let s = w.sized.whole in
          let a = zeros_fill rows (place 3 l) r (omega arith) z h.real in
          let b = zeros_fill_le (set rows (place 3 l) r) (place 3 r) l nl in
          rw p (omega arith)
      go true z p =
          let m : beta rows 3 l ≢ 0 = λ e. h.real (sym z ∙ e) in
          let a = zeros_clear rows (place 3 l) m in
          let b = zeros_clear_le (set rows (place 3 l) 0) (place 3 r) in
          let d = zeros_le (set (set rows (place 3 l) 0) (place 3 r) 0) in
          let q : length (set (set rows (place 3 l) 0) (place 3 r) 0) ≡ length rows = simp length-set in
          rw p (omega arith)
