-- What a core that is done does, on a well-formed map with real darts, for beta 1, 2 and 3 alike.
--   link_changed, unlink_changed the pair that it changes
--   link_pair, unlink_pair       the same, with the core's answer and rows
--   link_keeps, unlink_keeps     the map stays well formed
--   TwoImages, link_changes, unlink_changes   exactly the two images named have changed
--   link_refused, unlink_refused a core that refuses leaves the rows as they were
--   unlink_undoes                an unlink after a link answers r and gives back every row
--   link_undoes                  a link after an unlink gives back every row
-- Assumes nothing.
use Prim.Native.Nat.{ℕ, ◌<◌, ◌≤◌}
use native.Mathlib.Omega.{arith}
use native.Mathlib.Decide.{dec_lt, ℕ_discrete}
use mathlib.Core.Path.{◌≡◌, refl, sym, ap, ◌∙◌}
use mathlib.Core.Logic.{◌≢◌, by_cases}
use mathlib.Core.List.{List}
use mathlib.Core.Bool.{true, false}
use Rattle.map_betas.specs.Betas.{place, beta, darts, opp}
use Rattle.map_betas.specs.Answers.{out, nothing, done}
use Rattle.map_betas.specs.Maps.{WellFormed}
use Rattle.map_betas.specs.Guards.{Dart}
use Rattle.map_betas.specs.Cores.{link_core, unlink_core}
use Rattle.map_betas.proofs.BetaLaws.{opp_lt}
use Rattle.map_betas.proofs.AnswerLaws.{not_both, rows_same}
use Rattle.map_betas.proofs.CoreLaws.{link_base, link_image, link_self, link_done, unlink_free, unlink_done}
use Rattle.map_betas.proofs.Stores.{paired, PairChanged, pair_l, pair_r, pair_others, pair_formed, pair_back}
use Rattle.std.specs.Prelude.{is_ok}

-- the images by beta i of l and by the beta back of r are a and b, and every other image is as it was
pub record TwoImages (rows : List ℕ) (i l r a b : ℕ) (rows' : List ℕ) : Type 0 where
  pub left : beta rows' i l ≡ a
  pub right : beta rows' (opp i) r ≡ b
  pub others : (k d : ℕ) → place k d ≢ place i l → place k d ≢ place (opp i) r → beta rows' k d ≡ beta rows k d

pub link_refused : (rows : List ℕ) (i l r : ℕ) → is_ok (link_core rows i l r).answer ≡ false → (link_core rows i l r).rows ≡ rows
link_refused rows i l r t =
    by_cases (ℕ_discrete (beta rows i l) 0)
    (λ (z : beta rows i l ≡ 0). by_cases (ℕ_discrete (beta rows (opp i) r) 0)
    (λ (y : beta rows (opp i) r ≡ 0). by_cases (dec_lt i 2)
    (λ (h : i < 2). absurd (not_both _ _ (link_done rows i l r _ _ _ refl z y (λ g. absurd (omega arith)) refl refl) t refl))
    (λ (h : i < 2 → ⊥). by_cases (ℕ_discrete l r)
    (λ (e : l ≡ r). rows_same _ _ (sym (link_self rows i l r _ refl z y (omega arith) e)))
    (λ (n : l ≢ r). absurd (not_both _ _ (link_done rows i l r _ _ _ refl z y (λ g. n) refl refl) t refl))))
    (λ (n : beta rows (opp i) r ≢ 0). rows_same _ _ (sym (link_image rows i l r _ refl z n))))
    (λ (n : beta rows i l ≢ 0). rows_same _ _ (sym (link_base rows i l r n)))

pub unlink_refused : (rows : List ℕ) (i l : ℕ) → is_ok (unlink_core rows i l).answer ≡ false → (unlink_core rows i l).rows ≡ rows
unlink_refused rows i l t =
    by_cases (ℕ_discrete (beta rows i l) 0)
    (λ (z : beta rows i l ≡ 0). rows_same _ _ (sym (unlink_free rows i l z)))
    (λ (n : beta rows i l ≢ 0). absurd (not_both _ _ (unlink_done rows i l _ _ _ _ refl refl n refl refl) t refl))

module _ (rows : List ℕ) (i l r : ℕ) (t : is_ok (link_core rows i l r).answer ≡ true) where
  base_free : beta rows i l ≡ 0
  base_free =
      by_cases (ℕ_discrete (beta rows i l) 0) (λ z. z) (λ n. absurd (not_both _ _ (sym (link_base rows i l r n)) refl t))

  image_free : beta rows (opp i) r ≡ 0
  image_free =
      by_cases (ℕ_discrete (beta rows (opp i) r) 0) (λ z. z) (λ n. absurd (not_both _ _ (sym (link_image rows i l r _ refl base_free n)) refl t))

  link_apart : 2 ≤ i → l ≢ r
  link_apart h e = not_both _ _ (sym (link_self rows i l r _ refl base_free image_free h e)) refl t

  link_is : link_core rows i l r ≡ out nothing (paired false rows i l r)
  link_is = sym (link_done rows i l r _ _ _ refl base_free image_free link_apart refl refl)

  pub link_changed : r ≢ 0 → PairChanged false rows i l r (link_core rows i l r).rows
  link_changed n = record { was_l = base_free; was_r = image_free; apart = link_apart; real = n; put = rows_same _ _ link_is }

module _ (rows : List ℕ) (i l r : ℕ) (w : WellFormed rows) (h₁ : 1 ≤ i) (h₄ : i < 4) (dl : Dart (darts rows) 1 l) (dr : Dart (darts rows) 1 r)
    (t : is_ok (link_core rows i l r).answer ≡ true) where
  real_l : l ≢ 0
  real_l z = absurd (omega (arith, dl.allowed))

  real_r : r ≢ 0
  real_r z = absurd (omega (arith, dr.allowed))

  pub link_pair : PairChanged false rows i l r (link_core rows i l r).rows × (link_core rows i l r ≡ out nothing (paired false rows i l r))
  link_pair = (link_changed rows i l r t real_r, link_is rows i l r t)

  pub link_keeps : WellFormed (link_core rows i l r).rows
  link_keeps = pair_formed false rows i l r _ link_pair.0 h₁ h₄ w dl.below dr.below real_l

  pub link_changes : TwoImages rows i l r r l (link_core rows i l r).rows
  link_changes =
      record {
        left = pair_l false rows i l r _ link_pair.0 h₁ h₄ (omega (arith, w.sized.whole, dl.below));
        right = pair_r false rows i l r _ link_pair.0 h₁ h₄ (omega (arith, w.sized.whole, dr.below, opp_lt i h₄));
        others = pair_others false rows i l r _ link_pair.0;
      }

  pub unlink_undoes : unlink_core (link_core rows i l r).rows i l ≡ out (done r 0) rows
  unlink_undoes =
      sym
      (unlink_done (link_core rows i l r).rows i l (opp i) r _ rows refl
      (sym link_changes.left) real_r refl (sym (pair_back false rows i l r _ link_pair.0 h₁ h₄)))

module _ (rows : List ℕ) (i l : ℕ) (w : WellFormed rows) (h₁ : 1 ≤ i) (h₄ : i < 4) (t : is_ok (unlink_core rows i l).answer ≡ true) where
  abbrev r : ℕ
  r = beta rows i l

  linked_image : beta rows i l ≢ 0
  linked_image z = not_both _ _ (sym (unlink_free rows i l z)) refl t

  real_base : l ≢ 0
  real_base z = linked_image (ap (λ (d : ℕ). beta rows i d) z ∙ w.null i h₄)

  leads_back : beta rows (opp i) (beta rows i l) ≡ l
  leads_back = w.back i l h₄ linked_image

  below_base : l < darts rows
  below_base = rw leads_back at (w.below (opp i) (beta rows i l))

  unlink_is : unlink_core rows i l ≡ out (done (beta rows i l) 0) (paired true rows i l (beta rows i l))
  unlink_is = sym (unlink_done rows i l _ _ _ _ refl refl linked_image refl refl)

  pub unlink_changed : PairChanged true rows i l (beta rows i l) (unlink_core rows i l).rows
  unlink_changed =
      record {
        was_l = refl;
        was_r = leads_back;
        apart = λ h e. w.moved i l h h₄ linked_image (sym e);
        real = linked_image;
        put = rows_same _ _ unlink_is;
      }

  pub unlink_pair : PairChanged true rows i l (beta rows i l) (unlink_core rows i l).rows
      × (unlink_core rows i l ≡ out (done (beta rows i l) 0) (paired true rows i l (beta rows i l)))
  unlink_pair = (unlink_changed, unlink_is)

  pub unlink_keeps : WellFormed (unlink_core rows i l).rows
  unlink_keeps = pair_formed true rows i l r _ unlink_changed h₁ h₄ w below_base (w.below i l) real_base

  pub unlink_changes : TwoImages rows i l (beta rows i l) 0 0 (unlink_core rows i l).rows
  unlink_changes =
      record {
        left = pair_l true rows i l r _ unlink_changed h₁ h₄ (omega (arith, w.sized.whole, below_base));
        right = pair_r true rows i l r _ unlink_changed h₁ h₄ (omega (arith, w.sized.whole, w.below i l, opp_lt i h₄));
        others = pair_others true rows i l r _ unlink_changed;
      }

  pub link_undoes : link_core (unlink_core rows i l).rows i l (beta rows i l) ≡ out nothing rows
  link_undoes =
      sym
      (link_done (unlink_core rows i l).rows i l r (opp i) _ rows refl
      unlink_changes.left unlink_changes.right unlink_changed.apart refl (sym (pair_back true rows i l r _ unlink_changed h₁ h₄)))
