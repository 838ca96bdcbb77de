-- What a walk leaves, and what sets it back.
--   Walked, walked   a walk leaves a map of as many darts and links no dart that was free; its pairs, set back in the same order, give the rows that it
--                    began with
--   again_on         the same with a pair before the walk
--   turn             a turn of the loop that walks
--   back_inside, back_next, undone_none   a turn of the loop that sets back, and its end
-- Why setting back in the same order is right: a store of 0 commutes with a store of 0, and a store at a dart that is free meets no later pair
-- of an unlink (`Safe`). Assumes nothing.
use Prim.Native.Nat.{ℕ, zero, suc, ◌+◌, ◌<◌, ◌≤◌}
use native.Mathlib.Omega.{arith}
use native.Mathlib.Decide.{ℕ_discrete}
use mathlib.Core.Path.{◌≡◌, refl, sym, ap, ◌∙◌}
use mathlib.Core.Logic.{◌≢◌, by_cases}
use mathlib.Core.List.{List}
use mathlib.Core.Bool.{Bool, true, false, cond, or-true}
use lib.ListN.{length, set}
use lib.Seq.{set_comm}
use borrow.Author.Tests.{eq-eqb, ne_eqb}
use Rattle.map_betas.specs.Betas.{place, beta, darts}
use Rattle.map_betas.specs.Maps.{WellFormed, Free}
use Rattle.map_betas.specs.Answers.{Out, out, nothing, Answer}
use Rattle.map_betas.proofs.Spared.{pair_spares, next_linked}
use Rattle.link_walk.specs.Walk.{LegOut, leg_out, leg_at, walk, step_of}
use Rattle.link_walk.specs.Undo.{undone, Inside}
use Rattle.link_walk.proofs.Stores.{inside_set, beta_set, clear_comm}
use Rattle.link_walk.proofs.StepLaws.{Changed, step_done, step_kept, changeable}
use Rattle.link_walk.proofs.StepLaws.{changed_length, changed_low, changed_l, changed_r, changed_far, changed_back, changed_formed, changed_fewer}
use Rattle.std.specs.Prelude.{is_ok}

-- the same images by beta 0, 1 and 2
abbrev pub Alike : List ℕ → List ℕ → Type 0
Alike xs ys = (i d : ℕ) → i < 3 → beta xs i d ≡ beta ys i d

-- a store of v as the image of d by beta 3 that no later step minds: of a link a store of 0, of an unlink one at a dart that is free already
abbrev Safe : Bool → List ℕ → ℕ → ℕ → Type 0
Safe false rows d v = v ≡ 0
Safe true rows d v = beta rows 3 d ≡ 0

-- what a walk leaves: w is where it ends, from l and r with k steps taken
pub record Walked (parting : Bool) (rows : List ℕ) (i j l r k : ℕ) (w : LegOut) : Type 0 where
  pub formed : WellFormed w.rows
  pub long : length w.rows ≡ length rows
  pub on_left : w.leg.pair.l < darts rows
  pub on_right : w.leg.pair.r < darts rows
  pub alike : Alike w.rows rows
  pub more : ℕ
  pub steps : w.leg.steps ≡ k + more
  pub fell : more + changeable parting w.rows ≤ changeable parting rows
  pub moves : (xs : List ℕ) (d v : ℕ) → Alike xs rows → Safe parting rows d v →
      undone parting more (set xs (place 3 d) v) i j l r ≡ set (undone parting more xs i j l r) (place 3 d) v
  pub again : undone parting more w.rows i j l r ≡ rows
  -- a dart that was free is not met, if l and r are null or linked
  pub spared : (Free rows l → l ≡ 0) → (Free rows r → r ≡ 0) → (d : ℕ) → Free rows d → Free w.rows d

-- where it ends at once
module _ (parting : Bool) (rows : List ℕ) (i j l r k : ℕ) where
  here : (a : Answer) → WellFormed rows → l < darts rows → r < darts rows → Walked parting rows i j l r k (leg_out (leg_at a l r k) rows)
  unfolding undone
  here a s hl hr =
      record {
        formed = s;
        long = refl;
        on_left = hl;
        on_right = hr;
        alike = λ b d h. refl;
        more = 0;
        steps = omega arith;
        fell = omega arith;
        moves = λ xs d v e f. refl;
        again = refl;
        spared = λ zl zr d f. f;
      }

-- a pair is changed
module _ (parting : Bool) (rows : List ℕ) (l r : ℕ) (rows' : List ℕ) (s : WellFormed rows) (h : Changed parting rows l r rows') (hl : l < darts rows)
    (hr : r < darts rows) (nl : l ≢ 0) where
  safe_l : Safe parting rows' l (cond parting r 0)
  safe_l = go parting (changed_l parting rows l r rows' s h hl hr nl)
    where
      go : (u : Bool) → beta rows' 3 l ≡ cond u 0 r → Safe u rows' l (cond u r 0)
      go true e = e
      go false e = refl

  safe_r : Safe parting rows' r (cond parting l 0)
  safe_r = go parting (changed_r parting rows l r rows' s h hl hr nl)
    where
      go : (u : Bool) → beta rows' 3 r ≡ cond u 0 l → Safe u rows' r (cond u l 0)
      go true e = e
      go false e = refl

  -- a safe store stays safe, and commutes with what sets the pair back
  away : (d : ℕ) → parting ≡ true → beta rows 3 d ≡ 0 → (d ≢ l) × (d ≢ r)
  away d u z = (
    λ e. h.real (sym (rw u at h.was_l) ∙ ap (λ (x : ℕ). beta rows 3 x) (sym e) ∙ z),
    λ e. nl (sym (rw u at h.was_r) ∙ ap (λ (x : ℕ). beta rows 3 x) (sym e) ∙ z),
  )

  safe_on : (d v : ℕ) → Safe parting rows d v → Safe parting rows' d v
  safe_on d v = go parting refl
    where
      go : (u : Bool) → parting ≡ u → Safe u rows d v → Safe u rows' d v
      go true e z = let a = away d e z in changed_far parting rows l r rows' s h hl hr nl d a.0 a.1 ∙ z
      go false e z = z

  safe_comm : (xs : List ℕ) (d v : ℕ) → Safe parting rows d v →
      set (set (set xs (place 3 d) v) (place 3 l) (cond parting r 0)) (place 3 r) (cond parting l 0)
      ≡ set (set (set xs (place 3 l) (cond parting r 0)) (place 3 r) (cond parting l 0)) (place 3 d) v
  safe_comm xs d v = go parting refl
    where
      go : (u : Bool) → parting ≡ u → Safe u rows d v →
          set (set (set xs (place 3 d) v) (place 3 l) (cond u r 0)) (place 3 r) (cond u l 0)
          ≡ set (set (set xs (place 3 l) (cond u r 0)) (place 3 r) (cond u l 0)) (place 3 d) v
      go true e z =
          let a = away d e z in
          let al = a.0 in
          let ar = a.1 in
          ap (λ (x : List ℕ). set x (place 3 r) l) (set_comm xs (place 3 d) (place 3 l) v r (omega arith))
          ∙ set_comm (set xs (place 3 l) r) (place 3 d) (place 3 r) v l (omega arith)
      go false e z =
          rw z
          (ap (λ (x : List ℕ). set x (place 3 r) 0) (clear_comm xs (place 3 d) (place 3 l))
          ∙ clear_comm (set xs (place 3 l) 0) (place 3 d) (place 3 r))

  module _ (i j k : ℕ) (hi : i < 3) (hj : j < 3) (w : LegOut) (v : Walked parting rows' i j (beta rows' i l) (beta rows' j r) k w) where
    low : Alike rows' rows
    low = changed_low parting rows l r rows' s h hl hr nl

    moves_on : (xs : List ℕ) (d x : ℕ) → Alike xs rows → Safe parting rows d x →
        undone parting (suc v.more) (set xs (place 3 d) x) i j l r ≡ set (undone parting (suc v.more) xs i j l r) (place 3 d) x
    unfolding undone
    moves_on xs d x e f =
        let at_l : beta (set xs (place 3 d) x) i l ≡ beta rows' i l = beta_set xs i l d x hi ∙ e i l hi ∙ sym (low i l hi) in
        let at_r : beta (set xs (place 3 d) x) j r ≡ beta rows' j r = beta_set xs j r d x hj ∙ e j r hj ∙ sym (low j r hj) in
        let to-l : beta xs i l ≡ beta rows' i l = e i l hi ∙ sym (low i l hi) in
        let to-r : beta xs j r ≡ beta rows' j r = e j r hj ∙ sym (low j r hj) in
        let ys : List ℕ = set (set xs (place 3 l) (cond parting r 0)) (place 3 r) (cond parting l 0) in
        rw (at_l, at_r, to-l, to-r, safe_comm xs d x f)
        (v.moves ys d x
        (λ b c hb. beta_set (set xs (place 3 l) (cond parting r 0)) b c r (cond parting l 0) hb ∙ beta_set xs b c l (cond parting r 0) hb
        ∙ e b c hb ∙ sym (low b c hb))
        (safe_on d x f))

    pub again_on : undone parting (suc v.more) w.rows i j l r ≡ rows
    unfolding undone
    again_on =
        rw (v.alike i l hi, v.alike j r hj)
        (v.moves (set w.rows (place 3 l) (cond parting r 0)) r (cond parting l 0)
        (λ b c hb. beta_set w.rows b c l (cond parting r 0) hb ∙ v.alike b c hb) safe_r
        ∙ ap (λ (x : List ℕ). set x (place 3 r) (cond parting l 0)) (v.moves w.rows l (cond parting r 0) v.alike safe_l)
        ∙ ap (λ (x : List ℕ). set (set x (place 3 l) (cond parting r 0)) (place 3 r) (cond parting l 0)) v.again
        ∙ changed_back parting rows l r rows' s h hl hr nl)

  pub onward : (i j k : ℕ) → i < 3 → j < 3 → (w : LegOut) → Walked parting rows' i j (beta rows' i l) (beta rows' j r) (suc k) w →
      Walked parting rows i j l r k w
  onward i j k hi hj w v =
      let q = changed_length parting rows l r rows' s h hl hr nl in
      record {
        formed = v.formed;
        long = v.long ∙ q;
        on_left = let a = v.on_left in omega arith;
        on_right = let a = v.on_right in omega arith;
        alike = λ b d hb. v.alike b d hb ∙ changed_low parting rows l r rows' s h hl hr nl b d hb;
        more = suc v.more;
        steps = let e = v.steps in omega arith;
        fell = let e = v.fell in let f = changed_fewer parting rows l r rows' s h hl hr nl in omega arith;
        moves = moves_on i j (suc k) hi hj w v;
        again = again_on i j (suc k) hi hj w v;
        spared = λ zl zr d f.
            let s' = changed_formed parting rows l r rows' s h hl hr nl in
            let al : d ≢ l = λ e. nl (zl (λ b hb. ap (beta rows b) (sym e) ∙ f b hb)) in
            let ar : d ≢ r = λ e. h.real (zr (λ b hb. ap (beta rows b) (sym e) ∙ f b hb)) in
            v.spared (next_linked rows' i l s' (omega arith) nl) (next_linked rows' j r s' (omega arith) h.real) d
            (pair_spares parting rows 3 l r rows' h (omega arith) d al ar f);
      }

-- a walk of any length
module _ (parting : Bool) (ld rd i j stop : ℕ) (hi : i < 3) (hj : j < 3) where
  abbrev Walks : ℕ → Type 0
  Walks f =
      (rows : List ℕ) (l r k : ℕ) → WellFormed rows → l < darts rows → r < darts rows →
      Walked parting rows i j l r k (walk (step_of parting ld rd) f rows i j stop l r k)

  -- after a step that left o
  after : (f : ℕ) → Walks f → (rows : List ℕ) (l r k : ℕ) → WellFormed rows → l < darts rows → r < darts rows → l ≢ 0 →
      (o : Out) → o ≡ step_of parting ld rd rows l r → (b : Bool) → is_ok o.answer ≡ b →
      Walked parting rows i j l r k
      (cond b (walk (step_of parting ld rd) f o.rows i j stop (beta o.rows i l) (beta o.rows j r) (suc k)) (leg_out (leg_at o.answer l r k) o.rows))
  after f next rows l r k s hl hr nl o e true t =
      let h = step_done rows o.answer o.rows ld rd l r parting s nl e t in
      let s' = changed_formed parting rows l r o.rows s h hl hr nl in
      onward parting rows l r o.rows s h hl hr nl i j k hi hj _
      (next o.rows (beta o.rows i l) (beta o.rows j r) (suc k) s' (s'.below i l) (s'.below j r))
  after f next rows l r k s hl hr nl o e false t =
      rw (step_kept rows o.answer o.rows ld rd l r parting e t) (here parting rows i j l r k o.answer s hl hr)

  walks_on : (f : ℕ) → Walks f → Walks (suc f)
  unfolding walk
  walks_on f next rows l r k s hl hr =
      by_cases (ℕ_discrete l 0)
      (λ (e : l ≡ 0). simp (eq-eqb l 0 e) (here parting rows i j l r k nothing s hl hr))
      (λ (nl : l ≢ 0). by_cases (ℕ_discrete l stop)
      (λ (e : l ≡ stop). simp (eq-eqb l stop e, or-true) (here parting rows i j l r k nothing s hl hr))
      (λ (ns : l ≢ stop). simp (ne_eqb l 0 nl, ne_eqb l stop ns)
      (after f next rows l r k s hl hr nl (step_of parting ld rd rows l r) refl (is_ok (step_of parting ld rd rows l r).answer) refl)))

  walks_not : Walks zero
  unfolding walk
  walks_not rows l r k s hl hr = here parting rows i j l r k nothing s hl hr

  pub walked : (f : ℕ) → Walks f
  walked zero = walks_not
  walked (suc f) = walks_on f (walked f)

-- a turn of the loop that walks, with the values as the code has them
pub turn : (parting : Bool) (ld rd : ℕ) (rows : List ℕ) (l r : ℕ) (a : Answer) (rows' : List ℕ) → WellFormed rows → l < darts rows → r < darts rows → l ≢ 0 →
    out a rows' ≡ step_of parting ld rd rows l r → is_ok a ≡ true → WellFormed rows' × (length rows' ≡ length rows)
    × (changeable parting rows' < changeable parting rows)
turn parting ld rd rows l r a rows' s hl hr nl e t =
    let h = step_done rows a rows' ld rd l r parting s nl e t in
    (changed_formed parting rows l r rows' s h hl hr nl, changed_length parting rows l r rows' s h hl hr nl, changed_fewer parting rows l r rows' s h hl hr nl)

-- a turn of the loop that sets back
module _ (parting : Bool) (rows : List ℕ) (l r v z : ℕ) (rows₁ rows₂ : List ℕ) (ev : v ≡ cond parting r 0) (ez : z ≡ cond parting l 0)
    (e₁ : rows₁ ≡ set rows (place 3 l) v) (e₂ : rows₂ ≡ set rows₁ (place 3 r) z) where
  pub back_inside : (n : ℕ) → Inside n rows → l < n → r < n → Inside n rows₂
  back_inside n s hl hr =
      rw (e₂, e₁, ev, ez) (inside_set n (set rows (place 3 l) (cond parting r 0)) (place 3 r) (cond parting l 0)
      (inside_set n rows (place 3 l) (cond parting r 0) s (small parting r hr)) (small parting l hl))
    where
      small : (b : Bool) (d : ℕ) → d < n → cond b d 0 < n
      small true d hd = hd
      small false d hd = omega arith

  pub back_next : (left left' i j l' r' : ℕ) → left ≡ suc left' → l' ≡ beta rows i l → r' ≡ beta rows j r →
      undone parting left' rows₂ i j l' r' ≡ undone parting left rows i j l r
  unfolding undone
  back_next left left' i j l' r' q el er = rw (q, e₂, e₁, ev, ez, el, er)

pub undone_none : (parting : Bool) (left : ℕ) (rows : List ℕ) (i j l r : ℕ) → left ≤ 0 → undone parting left rows i j l r ≡ rows
unfolding undone
undone_none parting zero rows i j l r h = refl
undone_none parting (suc m) rows i j l r h = absurd (omega arith)
