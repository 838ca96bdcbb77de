-- The links of a 1-sew, as a whole.
--   LinksWay, UnlinksWay         the ways through `one_links` and `one_unlinks`
--   links_kept, unlinks_kept     after a refusal the rows are as they were
--   links_dart, unlinks_dart     the dart that is answered
--   links_formed, unlinks_formed the rows stay well formed and as many, and no other dart that was free is linked
--   taken_back_lem, put_back         the code's way of undoing them gives back every row
-- Assumes nothing.
use Rattle.std.specs.Prelude.{◌≡◌, ℕ, Bool, true, false, ◌≢◌, List, length, Err, is_ok}
use native.Mathlib.Omega.{arith}
use mathlib.Core.Path.{refl, sym, ap, ◌∙◌, subst}
use borrow.Author.Tests.{eqb-true}
use Rattle.map_betas.specs.declared.error.Refusal.TheVariants.{AsymmetricalFaces}
use Rattle.map_betas.specs.Betas.{beta, darts}
use Rattle.map_betas.specs.Answers.{Out, out, nothing, Answer}
use Rattle.map_betas.specs.Cores.{link_core, unlink_core}
use Rattle.map_betas.specs.Guards.{Dart}
use Rattle.map_betas.specs.Maps.{WellFormed, Free, Keeps}
use Rattle.map_betas.proofs.AnswerLaws.{not_both, rows_same}
use Rattle.map_betas.proofs.CoreLaws.{unlink_done}
use Rattle.map_betas.proofs.Kept.{link_refused, unlink_refused, unlink_undoes, link_undoes, link_pair, unlink_pair}
use Rattle.map_betas.proofs.Always.{link_formed, link_length, link_other, unlink_formed, unlink_length, unlink_other}
use Rattle.map_betas.proofs.Spared.{link_keeps_all, unlink_keeps_all, keeps_same, keeps_then, keeps_linked}
use Rattle.sew_ground.specs.Sewn.{dart_of}
use Rattle.sew_ground.specs.One.{both_three, one_links, second_cut, second_put, agrees, one_unlinks, taken_back, relinked}
use Rattle.sew_ground.proofs.OneLaws.{both_left, both_right, both_same, cut_none, cut_some, put_no, put_some, faces_linked, cut_formed}

-- ---- links

module _ (rows : List ℕ) (ld rd : ℕ) where
  abbrev first : Out
  first = link_core rows 1 ld rd

  abbrev second : Out
  second = link_core (link_core rows 1 ld rd).rows 1 (beta rows 3 rd) (beta rows 3 ld)

pub data LinksWay (rows : List ℕ) (ld rd : ℕ) : Type 0 where
  stopped : is_ok (first rows ld rd).answer ≡ false → one_links rows ld rd ≡ first rows ld rd → LinksWay rows ld rd
  single : is_ok (first rows ld rd).answer ≡ true → both_three rows ld rd ≡ false → one_links rows ld rd ≡ first rows ld rd → LinksWay rows ld rd
  turned : is_ok (first rows ld rd).answer ≡ true → is_ok (second rows ld rd).answer ≡ false → one_links rows ld rd ≡ out (second rows ld rd).answer rows →
      LinksWay rows ld rd
  double : is_ok (first rows ld rd).answer ≡ true → both_three rows ld rd ≡ true → is_ok (second rows ld rd).answer ≡ true →
      one_links rows ld rd ≡ second rows ld rd → LinksWay rows ld rd

pub links_way : (rows : List ℕ) (ld rd : ℕ) → LinksWay rows ld rd
unfolding one_links
links_way rows ld rd = go (is_ok (first rows ld rd).answer) refl (both_three rows ld rd) refl (is_ok (second rows ld rd).answer) refl
  where
    go : (a : Bool) → is_ok (first rows ld rd).answer ≡ a → (b : Bool) → both_three rows ld rd ≡ b → (s : Bool) → is_ok (second rows ld rd).answer ≡ s →
        LinksWay rows ld rd
    go false ea b eb s es = stopped ea (simp ea)
    go true ea false eb s es = single ea eb (simp (ea, eb))
    go true ea true eb false es = turned ea es (simp (ea, eb, es))
    go true ea true eb true es = double ea eb es (simp (ea, eb, es))

pub links_kept : (rows : List ℕ) (ld rd : ℕ) → is_ok (one_links rows ld rd).answer ≡ false → (one_links rows ld rd).rows ≡ rows
links_kept rows ld rd t = go (links_way rows ld rd)
  where
    go : LinksWay rows ld rd → (one_links rows ld rd).rows ≡ rows
    go (stopped a e) = rows_same _ _ e ∙ link_refused rows 1 ld rd a
    go (single a b e) = absurd (not_both _ _ (sym e) t a)
    go (turned a s e) = rows_same _ _ e
    go (double a b s e) = absurd (not_both _ _ (sym e) t s)

module _ (rows : List ℕ) (ld rd : ℕ) (w : WellFormed rows) (dl : Dart (darts rows) 1 ld) (dr : Dart (darts rows) 1 rd) where
  formed₁ : WellFormed (first rows ld rd).rows
  formed₁ = link_formed rows 1 ld rd w (omega arith) (omega arith) dl dr

  length₁ : length (first rows ld rd).rows ≡ length rows
  length₁ = link_length rows 1 ld rd w (omega arith) (omega arith) dl dr

  three₁ : (d : ℕ) → beta (first rows ld rd).rows 3 d ≡ beta rows 3 d
  three₁ d = link_other rows 1 ld rd w (omega arith) (omega arith) dl dr 3 d (omega arith) (λ z. absurd (omega arith)) (λ z. absurd (omega arith))

  real₁ : (d : ℕ) → beta rows 3 d ≢ 0 → Dart (darts (first rows ld rd).rows) 1 (beta rows 3 d)
  real₁ d n = record { allowed = omega arith; below = omega (arith, length₁, w.below 3 d) }

  module _ (b : both_three rows ld rd ≡ true) where
    dart_r : Dart (darts (first rows ld rd).rows) 1 (beta rows 3 rd)
    dart_r = real₁ rd (both_right rows ld rd b)

    dart_l : Dart (darts (first rows ld rd).rows) 1 (beta rows 3 ld)
    dart_l = real₁ ld (both_left rows ld rd b)

    formed₂ : WellFormed (second rows ld rd).rows
    formed₂ = link_formed (first rows ld rd).rows 1 _ _ formed₁ (omega arith) (omega arith) dart_r dart_l

    length₂ : length (second rows ld rd).rows ≡ length rows
    length₂ = link_length (first rows ld rd).rows 1 _ _ formed₁ (omega arith) (omega arith) dart_r dart_l ∙ length₁

    three₂ : (d : ℕ) → beta (second rows ld rd).rows 3 d ≡ beta rows 3 d
    three₂ d =
        link_other (first rows ld rd).rows 1 _ _ formed₁ (omega arith) (omega arith) dart_r dart_l 3 d (omega arith) (λ z. absurd (omega arith))
        (λ z. absurd (omega arith))
        ∙ three₁ d

  kept₁ : Keeps ld rd rows (first rows ld rd).rows
  kept₁ = link_keeps_all rows 1 ld w (omega arith) (omega arith) rd dl dr

  -- the second link is of darts that face ld and rd: neither was free
  kept₂ : both_three rows ld rd ≡ true → Keeps ld rd rows (second rows ld rd).rows
  kept₂ b =
      let rows₁ : List ℕ = (first rows ld rd).rows in
      let faced : (d : ℕ) → beta rows 3 d ≢ 0 → Free rows₁ (beta rows 3 d) → ⊥ =
      λ d n f. faces_linked rows₁ ld rd formed₁ d (λ z. n (sym (three₁ d) ∙ z)) (subst (Free rows₁) (sym (three₁ d)) f) in
      keeps_then ld rd rows _ _ kept₁
      (keeps_linked (beta rows 3 rd) (beta rows 3 ld) ld rd (first rows ld rd).rows _ (faced rd (both_right rows ld rd b)) (faced ld (both_left rows ld rd b))
      (link_keeps_all (first rows ld rd).rows 1 _ formed₁ (omega arith) (omega arith) _ (dart_r b) (dart_l b)))

  pub links_formed : Keeps ld rd rows (one_links rows ld rd).rows
  links_formed = go (links_way rows ld rd)
    where
      go : LinksWay rows ld rd → Keeps ld rd rows (one_links rows ld rd).rows
      go (stopped a e) = rw (rows_same _ _ e) kept₁
      go (single a b e) = rw (rows_same _ _ e) kept₁
      go (turned a s e) = rw (rows_same _ _ e) (keeps_same ld rd rows w)
      go (double a b s e) = rw (rows_same _ _ e) (kept₂ b)

  module _ (t : is_ok (one_links rows ld rd).answer ≡ true) where
    pub links_dart : 0 ≡ dart_of (one_links rows ld rd).answer
    links_dart = go (links_way rows ld rd)
      where
        go : LinksWay rows ld rd → 0 ≡ dart_of (one_links rows ld rd).answer
        go (stopped a e) = absurd (not_both _ _ e a t)
        go (single a b e) =
            sym (ap (λ (o : Out). dart_of o.answer) (e ∙ (link_pair rows 1 ld rd w (omega arith) (omega arith) dl dr a).1))
        go (turned a s e) = absurd (not_both _ _ e s t)
        go (double a b s e) =
            sym
            (ap (λ (o : Out). dart_of o.answer)
            (e ∙ (link_pair (first rows ld rd).rows 1 _ _ formed₁ (omega arith) (omega arith) (dart_r b) (dart_l b) s).1))

    undone₁ : is_ok (first rows ld rd).answer ≡ true → (unlink_core (first rows ld rd).rows 1 ld).rows ≡ rows
    undone₁ a = rows_same _ _ (unlink_undoes rows 1 ld rd w (omega arith) (omega arith) dl dr a)

    pub taken_back_lem : taken_back (one_links rows ld rd).rows ld rd ≡ rows
    taken_back_lem = go (links_way rows ld rd)
      where
        go : LinksWay rows ld rd → taken_back (one_links rows ld rd).rows ld rd ≡ rows
        go (stopped a e) = absurd (not_both _ _ e a t)
        go (single a b e) =
            ap (λ (x : List ℕ). taken_back x ld rd) (rows_same _ _ e)
            ∙ ap (λ (x : List ℕ). (unlink_core x 1 ld).rows) (sym (cut_none (first rows ld rd).rows ld rd (both_same rows _ ld rd three₁ ∙ b)))
            ∙ undone₁ a
        go (turned a s e) = absurd (not_both _ _ e s t)
        go (double a b s e) =
            ap (λ (x : List ℕ). taken_back x ld rd) (rows_same _ _ e)
            ∙ ap (λ (x : List ℕ). (unlink_core x 1 ld).rows)
            (sym
            (cut_some (second rows ld rd).rows ld rd (beta rows 3 rd) _ (first rows ld rd).rows (both_same rows _ ld rd (three₂ b) ∙ b) (sym (three₂ b rd))
            (sym (unlink_undoes (first rows ld rd).rows 1 _ _ formed₁ (omega arith) (omega arith) (dart_r b) (dart_l b) s))))
            ∙ undone₁ a

-- ---- unlinks

abbrev parted : List ℕ → ℕ → Out
parted rows ld = unlink_core rows 1 ld

pub data UnlinksWay (rows : List ℕ) (ld : ℕ) : Type 0 where
  refused : is_ok (parted rows ld).answer ≡ false → one_unlinks rows ld ≡ parted rows ld → UnlinksWay rows ld
  stray : (x : Answer) → is_ok x ≡ false → one_unlinks rows ld ≡ out x rows → UnlinksWay rows ld
  through : is_ok (parted rows ld).answer ≡ true → agrees (parted rows ld).rows ld (beta rows 1 ld) ≡ true →
      one_unlinks rows ld ≡ out (parted rows ld).answer (second_cut (parted rows ld).rows ld (beta rows 1 ld)) → UnlinksWay rows ld

pub unlinks_way : (rows : List ℕ) (ld : ℕ) → UnlinksWay rows ld
unfolding one_unlinks
unlinks_way rows ld = go (is_ok (parted rows ld).answer) refl (agrees (parted rows ld).rows ld (beta rows 1 ld)) refl
  where
    go : (a : Bool) → is_ok (parted rows ld).answer ≡ a → (b : Bool) → agrees (parted rows ld).rows ld (beta rows 1 ld) ≡ b → UnlinksWay rows ld
    go false ea b eb = refused ea (simp ea)
    go true ea false eb = stray (Err (AsymmetricalFaces ld (beta rows 1 ld))) refl (simp (ea, eb))
    go true ea true eb = through ea eb (simp (ea, eb))

pub unlinks_kept : (rows : List ℕ) (ld : ℕ) → is_ok (one_unlinks rows ld).answer ≡ false → (one_unlinks rows ld).rows ≡ rows
unlinks_kept rows ld t = go (unlinks_way rows ld)
  where
    go : UnlinksWay rows ld → (one_unlinks rows ld).rows ≡ rows
    go (refused a e) = rows_same _ _ e ∙ unlink_refused rows 1 ld a
    go (stray x f e) = rows_same _ _ e
    go (through a b e) = absurd (not_both _ _ (sym e) t a)

agrees_back : (rows : List ℕ) (ld rd : ℕ) → both_three rows ld rd ≡ true → agrees rows ld rd ≡ true → beta rows 1 (beta rows 3 rd) ≡ beta rows 3 ld
unfolding agrees
agrees_back rows ld rd b e = eqb-true _ _ (simp b at e)

module _ (rows : List ℕ) (ld : ℕ) (w : WellFormed rows) where
  cut₁ : WellFormed (parted rows ld).rows
  cut₁ = unlink_formed rows 1 ld w (omega arith) (omega arith)

  cut_length₁ : length (parted rows ld).rows ≡ length rows
  cut_length₁ = unlink_length rows 1 ld w (omega arith) (omega arith)

  kept_cut : Keeps ld ld rows (parted rows ld).rows
  kept_cut = unlink_keeps_all rows 1 ld w (omega arith) (omega arith)

  pub unlinks_formed : Keeps ld ld rows (one_unlinks rows ld).rows
  unlinks_formed = go (unlinks_way rows ld)
    where
      go : UnlinksWay rows ld → Keeps ld ld rows (one_unlinks rows ld).rows
      go (refused a e) = rw (rows_same _ _ e) kept_cut
      go (stray x f e) = rw (rows_same _ _ e) (keeps_same ld ld rows w)
      go (through a b e) =
          rw (rows_same _ _ e) (keeps_then ld ld rows _ _ kept_cut (cut_formed (parted rows ld).rows ld (beta rows 1 ld) cut₁))

  module _ (t : is_ok (one_unlinks rows ld).answer ≡ true) where
    pub unlinks_dart : dart_of (one_unlinks rows ld).answer ≡ beta rows 1 ld
    unlinks_dart = go (unlinks_way rows ld)
      where
        go : UnlinksWay rows ld → dart_of (one_unlinks rows ld).answer ≡ beta rows 1 ld
        go (refused a e) = absurd (not_both _ _ e a t)
        go (stray x f e) = absurd (not_both _ _ e f t)
        go (through a b e) =
            ap (λ (o : Out). dart_of o.answer) e ∙ ap (λ (o : Out). dart_of o.answer) (unlink_pair rows 1 ld w (omega arith) (omega arith) a).1

    pub put_back : relinked (one_unlinks rows ld).rows ld (beta rows 1 ld) ≡ rows
    put_back = go (unlinks_way rows ld)
      where
        rd : ℕ
        rd = beta rows 1 ld

        linked : is_ok (parted rows ld).answer ≡ true → (link_core (parted rows ld).rows 1 ld (beta rows 1 ld)).rows ≡ rows
        linked a = rows_same _ _ (link_undoes rows 1 ld w (omega arith) (omega arith) a)

        second_back : is_ok (parted rows ld).answer ≡ true → agrees (parted rows ld).rows ld (beta rows 1 ld) ≡ true → (b : Bool) →
            both_three (parted rows ld).rows ld (beta rows 1 ld) ≡ b →
            second_put (second_cut (parted rows ld).rows ld (beta rows 1 ld)) ld (beta rows 1 ld) ≡ (parted rows ld).rows
        second_back a g false eb =
            ap (λ (x : List ℕ). second_put x ld (beta rows 1 ld)) (sym (cut_none (parted rows ld).rows ld (beta rows 1 ld) eb))
            ∙ sym (put_no (parted rows ld).rows ld (beta rows 1 ld) eb)
        second_back a g true eb =
            let x : List ℕ = (parted rows ld).rows in
            let r3 : ℕ = beta x 3 (beta rows 1 ld) in
            let l3 : ℕ = beta x 3 ld in
            let q : beta x 1 r3 ≡ l3 = agrees_back x ld (beta rows 1 ld) eb g in
            let n : beta x 1 r3 ≢ 0 = λ z. both_left x ld (beta rows 1 ld) eb (sym q ∙ z) in
            let s : is_ok (unlink_core x 1 r3).answer ≡ true =
            sym (ap (λ (o : Out). is_ok o.answer) (unlink_done x 1 r3 _ _ _ _ refl refl n refl refl)) in
            let y : List ℕ = (unlink_core x 1 r3).rows in
            let three : (d : ℕ) → beta y 3 d ≡ beta x 3 d =
            λ d. unlink_other x 1 r3 cut₁ (omega arith) (omega arith) 3 d (omega arith) (λ z. absurd (omega arith)) (λ z. absurd (omega arith)) in
            ap (λ (z : List ℕ). second_put z ld (beta rows 1 ld)) (sym (cut_some x ld (beta rows 1 ld) r3 _ y eb refl refl))
            ∙ sym
            (put_some y ld (beta rows 1 ld) r3 l3 nothing x (both_same x y ld (beta rows 1 ld) three ∙ eb) (sym (three (beta rows 1 ld))) (sym (three ld))
            (sym (link_undoes x 1 r3 cut₁ (omega arith) (omega arith) s) ∙ ap (link_core y 1 r3) q))

        go : UnlinksWay rows ld → relinked (one_unlinks rows ld).rows ld (beta rows 1 ld) ≡ rows
        go (refused a e) = absurd (not_both _ _ e a t)
        go (stray x f e) = absurd (not_both _ _ e f t)
        go (through a b e) =
            ap (λ (x : List ℕ). relinked x ld (beta rows 1 ld)) (rows_same _ _ e)
            ∙ ap (λ (x : List ℕ). (link_core x 1 ld (beta rows 1 ld)).rows) (second_back a b (both_three (parted rows ld).rows ld (beta rows 1 ld)) refl)
            ∙ linked a
