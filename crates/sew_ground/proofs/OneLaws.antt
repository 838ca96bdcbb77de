-- The links of a 1-sew and the unlinks of a 1-unsew: each way out as the code has it, that both stay a map, and that the code undoes them.
--   rows_of, answer_of_lem, done_of   what an outcome says of its parts
--   handed_on        what a `?` hands on
--   erred, not_erred   what `is_err` says of an answer
--   faced_left, faced_right, faced_both, not_faced, are_faced   the images by beta 3, where both are there
--   second_refused   the second link refused, and ld unlinked again
--   links-..         the ways out of `one_links`
--   unlinks-..       the ways out of `one_unlinks`
-- Assumes nothing.
use Rattle.std.specs.Prelude.{◌≡◌, ℕ, ◌+◌, ◌*◌, ◌<◌, ◌≤◌, Bool, true, false, cond, not, ◌&&◌, eqb, ◌≢◌, List, length}
use Rattle.std.specs.Prelude.{Option, Some, None, Result, Ok, Err, is_ok, is_err, IsErrAnd}
use Rattle.std.proofs.lemmas.Option.{none-some, cond_some}
use Rattle.std.proofs.lemmas.Result.{err_from_is_err_and}
use Rattle.map_betas.specs.declared.error.Refusal.{Refusal}
use native.Mathlib.Omega.{arith}
use mathlib.Core.Path.{refl, sym, ap, ◌∙◌}
use mathlib.Core.Bool.{true≢false}
use borrow.Author.Tests.{eq-eqb, ne_eqb}
use Rattle.map_betas.specs.declared.error.Refusal.TheVariants.{AsymmetricalFaces}
use Rattle.map_betas.specs.Betas.{beta, darts}
use Rattle.map_betas.specs.Answers.{Out, out, Answer}
use Rattle.map_betas.specs.Cores.{link_core, unlink_core}
use Rattle.map_betas.specs.Guards.{Dart}
use Rattle.map_betas.specs.Maps.{WellFormed, Free, Keeps}
use Rattle.map_betas.proofs.Kept.{link_refused, unlink_undoes, link_undoes, unlink_pair}
use Rattle.map_betas.proofs.Always.{link_formed, link_length, unlink_formed}
use Rattle.map_betas.proofs.Spared.{next_linked, keeps_same, keeps_linked, unlink_keeps_all}
use Rattle.sew_ground.specs.Sewn.{dart_of}
use Rattle.sew_ground.specs.One.{both_three, faced, or_back, one_links, second_cut, second_put, agrees, one_unlinks}

pub rows_of : (a : Answer) (rows : List ℕ) (o : Out) → out a rows ≡ o → rows ≡ o.rows
rows_of a rows o e = ap (λ (x : Out). x.rows) e

pub answer_of_lem : (a : Answer) (rows : List ℕ) (o : Out) → out a rows ≡ o → a ≡ o.answer
answer_of_lem a rows o e = ap (λ (x : Out). x.answer) e

pub done_of : (a : Answer) (rows : List ℕ) (o : Out) (b : Bool) → out a rows ≡ o → is_ok a ≡ b → is_ok o.answer ≡ b
done_of a rows o b e t = ap is_ok (sym (answer_of_lem a rows o e)) ∙ t

-- a core that refused has left the rows
pub rows_refused : (rows : List ℕ) (i l r : ℕ) (a : Answer) (rows₁ : List ℕ) → out a rows₁ ≡ link_core rows i l r → is_ok a ≡ false → rows₁ ≡ rows
rows_refused rows i l r a rows₁ e t = rows_of a rows₁ _ e ∙ link_refused rows i l r (done_of a rows₁ _ false e t)

module _ (rows : List ℕ) (ld r3 l3 : ℕ) (b : Answer) (rows₁ : List ℕ) (e : out b rows₁ ≡ link_core rows 1 r3 l3) where
  pub second_refused : (u : Answer) (rows₂ : List ℕ) → is_ok b ≡ false → out u rows₂ ≡ unlink_core rows₁ 1 ld →
      out b rows₂ ≡ or_back (unlink_core rows 1 ld).rows (link_core rows 1 r3 l3)
  second_refused u rows₂ t f =
      let q : rows₂ ≡ (unlink_core rows 1 ld).rows =
      rows_of u rows₂ _ f ∙ ap (λ (x : List ℕ). (unlink_core x 1 ld).rows) (rows_refused rows 1 r3 l3 b rows₁ e t) in
      rw (sym e) (simp t (ap (out b) q))

-- what a `?` hands on
pub handed_on : {A B : Type 0} {a : Result A Refusal} {w : Refusal} (r : Result B Refusal) → a ≡ Err w → IsErrAnd r (λ x. x ≡ w) → r ≡ Err w
handed_on {w = w} r t q = let p = err_from_is_err_and {Q = λ x. x ≡ w} r q in p.1 ∙ ap Err p.2

-- what `is_err` says of an answer
pub erred : (a : Answer) (b : Bool) → b ≡ is_err a → b ≡ true → is_ok a ≡ false
erred (Ok x) b e t = absurd (true≢false (sym t ∙ e))
erred (Err w) b e t = refl

pub not_erred : (a : Answer) (b : Bool) → b ≡ is_err a → b ≡ false → is_ok a ≡ true
not_erred (Ok x) b e t = refl
not_erred (Err w) b e t = absurd (true≢false (sym e ∙ t))

-- the images by beta 3, where both are there
module _ (rows : List ℕ) (ld rd x : ℕ) (ex : x ≡ beta rows 3 ld) where
  pub faced_left : x ≡ 0 → None ≡ faced rows ld rd
  unfolding both_three
  faced_left z = simp (eq-eqb (beta rows 3 ld) 0 (sym ex ∙ z))

  module _ (n : x ≢ 0) (y : ℕ) (ey : y ≡ beta rows 3 rd) where
    pub faced_right : y ≡ 0 → None ≡ faced rows ld rd
    unfolding both_three
    faced_right z = simp (ne_eqb (beta rows 3 ld) 0 (λ q. n (ex ∙ q)), eq-eqb (beta rows 3 rd) 0 (sym ey ∙ z))

    pub faced_both : y ≢ 0 → Some (x, y) ≡ faced rows ld rd
    unfolding both_three
    faced_both m = simp (ne_eqb (beta rows 3 ld) 0 (λ q. n (ex ∙ q)), ne_eqb (beta rows 3 rd) 0 (λ q. m (ey ∙ q)), ex, ey)

module _ (rows : List ℕ) (ld rd : ℕ) (o : Option (ℕ × ℕ)) (e : o ≡ faced rows ld rd) where
  pub not_faced : o ≡ None → both_three rows ld rd ≡ false
  not_faced t = go (both_three rows ld rd) (sym e ∙ t)
    where
      go : (b : Bool) → cond {A = Option (ℕ × ℕ)} b (Some (beta rows 3 ld, beta rows 3 rd)) None ≡ None → b ≡ false
      go true q = absurd (none-some _ (sym q))
      go false q = refl

  pub are_faced : (x y : ℕ) → o ≡ Some (x, y) → (both_three rows ld rd ≡ true) × (x ≡ beta rows 3 ld) × (y ≡ beta rows 3 rd)
  are_faced x y t =
      let p = cond_some (both_three rows ld rd) _ _ (sym e ∙ t) in
      (p.0, ap (λ (v : ℕ × ℕ). v.0) (sym p.1), ap (λ (v : ℕ × ℕ). v.1) (sym p.1))

-- the ways out of the links

module _ (rows : List ℕ) (ld rd : ℕ) (a : Answer) (rows₁ : List ℕ) (e : out a rows₁ ≡ link_core rows 1 ld rd) where
  pub links_refused : is_ok a ≡ false → out a rows₁ ≡ one_links rows ld rd
  unfolding one_links
  links_refused t = rw (sym e) (simp t)

  module _ (t : is_ok a ≡ true) where
    pub links_one : both_three rows ld rd ≡ false → out a rows₁ ≡ one_links rows ld rd
    unfolding one_links
    links_one f = rw (sym e) (simp (t, f))

    pub links_two : (r3 l3 : ℕ) (b : Answer) (rows₂ : List ℕ) → WellFormed rows → Dart (darts rows) 1 ld → Dart (darts rows) 1 rd →
        both_three rows ld rd ≡ true → r3 ≡ beta rows 3 rd → l3 ≡ beta rows 3 ld →
        out b rows₂ ≡ or_back (unlink_core rows₁ 1 ld).rows (link_core rows₁ 1 r3 l3) → out b rows₂ ≡ one_links rows ld rd
    unfolding one_links
    links_two r3 l3 b rows₂ w dl dr f er el g =
        let back : (unlink_core rows₁ 1 ld).rows ≡ rows =
        ap (λ (x : List ℕ). (unlink_core x 1 ld).rows) (rows_of a rows₁ _ e)
        ∙ ap (λ (o : Out). o.rows) (unlink_undoes rows 1 ld rd w (omega arith) (omega arith) dl dr (done_of a rows₁ _ true e t)) in
        g ∙ rw (sym e) (simp (t, f, back, er, el))

-- both have beta 3
pub both_left : (rows : List ℕ) (ld rd : ℕ) → both_three rows ld rd ≡ true → beta rows 3 ld ≢ 0
unfolding both_three
both_left rows ld rd e z = true≢false (sym e ∙ simp (eq-eqb (beta rows 3 ld) 0 z))

pub both_right : (rows : List ℕ) (ld rd : ℕ) → both_three rows ld rd ≡ true → beta rows 3 rd ≢ 0
unfolding both_three
both_right rows ld rd e z = go (not (eqb (beta rows 3 ld) 0)) refl
  where
    go : (b : Bool) → not (eqb (beta rows 3 ld) 0) ≡ b → ⊥
    go true t = true≢false (sym e ∙ simp (t, eq-eqb (beta rows 3 rd) 0 z))
    go false t = true≢false (sym e ∙ simp t)

-- the images by beta 3 do not change
pub both_same : (rows rows' : List ℕ) (ld rd : ℕ) → ((d : ℕ) → beta rows' 3 d ≡ beta rows 3 d) → both_three rows' ld rd ≡ both_three rows ld rd
unfolding both_three
both_same rows rows' ld rd h = ap (λ (x : ℕ). not (eqb x 0) && not (eqb (beta rows' 3 rd) 0)) (h ld)
    ∙ ap (λ (x : ℕ). not (eqb (beta rows 3 ld) 0) && not (eqb x 0)) (h rd)

pub real : (rows : List ℕ) (i d : ℕ) → WellFormed rows → beta rows i d ≢ 0 → Dart (darts rows) 1 (beta rows i d)
real rows i d w n = record { allowed = omega arith; below = w.below i d }

-- the second pair

module _ (rows : List ℕ) (ld rd : ℕ) where
  pub cut_none : both_three rows ld rd ≡ false → rows ≡ second_cut rows ld rd
  unfolding second_cut
  cut_none e = simp e

  pub cut_some : (r3 : ℕ) (u : Answer) (rows₁ : List ℕ) → both_three rows ld rd ≡ true → r3 ≡ beta rows 3 rd → out u rows₁ ≡ unlink_core rows 1 r3 →
      rows₁ ≡ second_cut rows ld rd
  unfolding second_cut
  cut_some r3 u rows₁ e er f = rows_of u rows₁ _ f ∙ simp (e, er)

  pub put_no : both_three rows ld rd ≡ false → rows ≡ second_put rows ld rd
  unfolding second_put
  put_no e = simp e

  pub put_some : (r3 l3 : ℕ) (u : Answer) (rows₁ : List ℕ) → both_three rows ld rd ≡ true → r3 ≡ beta rows 3 rd → l3 ≡ beta rows 3 ld →
      out u rows₁ ≡ link_core rows 1 r3 l3 → rows₁ ≡ second_put rows ld rd
  unfolding second_put
  put_some r3 l3 u rows₁ e er el f = rows_of u rows₁ _ f ∙ simp (e, er, el)

  module _ (w : WellFormed rows) where
    -- what faces a dart is not free
    pub faces_linked : (d : ℕ) → beta rows 3 d ≢ 0 → Free rows (beta rows 3 d) → ⊥
    faces_linked d n f = n (next_linked rows 3 d w (omega arith) (λ z. n (ap (beta rows 3) z ∙ w.null 3 (omega arith))) f)

    pub cut_formed : Keeps ld ld rows (second_cut rows ld rd)
    unfolding second_cut
    cut_formed = go (both_three rows ld rd) refl
      where
        go : (b : Bool) → both_three rows ld rd ≡ b → Keeps ld ld rows (cond b (unlink_core rows 1 (beta rows 3 rd)).rows rows)
        go true e =
            let n = faces_linked rd (both_right rows ld rd e) in
            keeps_linked (beta rows 3 rd) (beta rows 3 rd) ld ld rows _ n n (unlink_keeps_all rows 1 (beta rows 3 rd) w (omega arith) (omega arith))
        go false e = keeps_same ld ld rows w

    pub put_formed : WellFormed (second_put rows ld rd) × (length (second_put rows ld rd) ≡ length rows)
    unfolding second_put
    put_formed = go (both_three rows ld rd) refl
      where
        go : (b : Bool) → both_three rows ld rd ≡ b →
            WellFormed (cond b (link_core rows 1 (beta rows 3 rd) (beta rows 3 ld)).rows rows)
            × (length (cond b (link_core rows 1 (beta rows 3 rd) (beta rows 3 ld)).rows rows) ≡ length rows)
        go true e =
            let dr = real rows 3 rd w (both_right rows ld rd e) in
            let dl = real rows 3 ld w (both_left rows ld rd e) in
            (link_formed rows 1 _ _ w (omega arith) (omega arith) dr dl, link_length rows 1 _ _ w (omega arith) (omega arith) dr dl)
        go false e = (w, refl)

-- whether the second unlink may be made
module _ (rows : List ℕ) (ld rd : ℕ) where
  pub agrees_one : both_three rows ld rd ≡ false → true ≡ agrees rows ld rd
  unfolding agrees
  agrees_one e = simp e

  pub agrees_two : (r3 x y : ℕ) → both_three rows ld rd ≡ true → r3 ≡ beta rows 3 rd → x ≡ beta rows 1 r3 → y ≡ beta rows 3 ld →
      eqb x y ≡ agrees rows ld rd
  unfolding agrees
  agrees_two r3 x y e er ex ey = simp (e, ex, ey, er)

-- the ways out of the unlinks

module _ (rows : List ℕ) (ld : ℕ) (a : Answer) (rows₁ : List ℕ) (e : out a rows₁ ≡ unlink_core rows 1 ld) where
  pub unlinks_refused : is_ok a ≡ false → out a rows₁ ≡ one_unlinks rows ld
  unfolding one_unlinks
  unlinks_refused t = rw (sym e) (simp t)

  module _ (rd : ℕ) (t : is_ok a ≡ true) (er : rd ≡ beta rows 1 ld) where
    pub unlinks_stray : (b : Bool) (u : Answer) (rows₂ : List ℕ) → WellFormed rows → b ≡ agrees rows₁ ld rd → b ≡ false → out u rows₂ ≡ link_core rows₁ 1 ld rd →
        out (Err (AsymmetricalFaces ld rd)) rows₂ ≡ one_unlinks rows ld
    unfolding one_unlinks
    unlinks_stray b u rows₂ w q f g =
        let d = done_of a rows₁ _ true e t in
        let back : rows₂ ≡ rows =
        rows_of u rows₂ _ g ∙ ap (λ (x : List ℕ). (link_core x 1 ld rd).rows) (rows_of a rows₁ _ e)
        ∙ ap (λ (x : ℕ). (link_core (unlink_core rows 1 ld).rows 1 ld x).rows) er
        ∙ ap (λ (o : Out). o.rows) (link_undoes rows 1 ld w (omega arith) (omega arith) d) in
        rw (sym e) (simp (t, ← er, sym q ∙ f, back))

    pub unlinks_done : (b : Bool) (rows₂ : List ℕ) → b ≡ agrees rows₁ ld rd → b ≡ true → rows₂ ≡ second_cut rows₁ ld rd → out a rows₂ ≡ one_unlinks rows ld
    unfolding one_unlinks
    unlinks_done b rows₂ q f g = rw (sym e) (simp (t, ← er, sym q ∙ f, g))

-- the dart that a done unlink answers
pub unlinked_dart : (rows : List ℕ) (i l : ℕ) (a : Answer) (rows₁ : List ℕ) (d : ℕ) → WellFormed rows → 1 ≤ i → i < 4 → out a rows₁ ≡ unlink_core rows i l →
    is_ok a ≡ true → d ≡ dart_of a → d ≡ beta rows i l
unlinked_dart rows i l a rows₁ d w h₁ h₄ e t q =
    q ∙ ap dart_of (answer_of_lem a rows₁ _ e) ∙ ap (λ (o : Out). dart_of o.answer) (unlink_pair rows i l w h₁ h₄ (done_of a rows₁ _ true e t)).1

-- what the cores ask, of a map and its darts

pub formed_as : (x y : List ℕ) → x ≡ y → WellFormed y → WellFormed x
formed_as x y e w = rw e w

pub asks_unlink : (rows : List ℕ) (i l : ℕ) → WellFormed rows → 1 ≤ i → i < 4 → l < darts rows →
    (1 ≤ i) × (i < 4) × (4 * l + 3 < length rows) × (4 * beta rows i l + 3 < length rows)
asks_unlink rows i l w h₁ h₄ h = (h₁, h₄, omega (arith, w.sized.whole), omega (arith, w.sized.whole, w.below i l))

pub inside : (rows : List ℕ) (d : ℕ) → WellFormed rows → d < darts rows → 4 * d + 3 < length rows
inside rows d w h = omega (arith, w.sized.whole)

pub asks_link : (rows : List ℕ) (i l r : ℕ) → WellFormed rows → 1 ≤ i → i < 4 → l < darts rows → r < darts rows →
    (1 ≤ i) × (i < 4) × (4 * l + 3 < length rows) × (4 * r + 3 < length rows)
asks_link rows i l r w h₁ h₄ hl hr = (h₁, h₄, inside rows l w hl, inside rows r w hr)

-- the map after the first link and after the first unlink
pub first_linked : (rows : List ℕ) (ld rd : ℕ) (a : Answer) (rows₁ : List ℕ) → WellFormed rows → Dart (darts rows) 1 ld → Dart (darts rows) 1 rd →
    out a rows₁ ≡ link_core rows 1 ld rd → WellFormed rows₁
first_linked rows ld rd a rows₁ w dl dr e = formed_as _ _ (rows_of a rows₁ _ e) (link_formed rows 1 ld rd w (omega arith) (omega arith) dl dr)

pub first_unlinked : (rows : List ℕ) (ld : ℕ) (a : Answer) (rows₁ : List ℕ) → WellFormed rows → out a rows₁ ≡ unlink_core rows 1 ld → WellFormed rows₁
first_unlinked rows ld a rows₁ w e = formed_as _ _ (rows_of a rows₁ _ e) (unlink_formed rows 1 ld w (omega arith) (omega arith))
