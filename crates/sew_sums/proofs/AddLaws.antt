-- Images that links have added.
--   Adds                every image is still there, and what is new was added
--   Linked              what a link of l and r by beta i adds
--   link_adds, adds_on  a link that is done adds them; one link after another
--   adds_as             what was added, said in another way
--   adds_step           every step is still there
-- Assumes nothing.
use Prim.Native.Nat.{ℕ, ◌<◌, ◌≤◌}
use native.Mathlib.Decide.{ℕ_discrete}
use native.Mathlib.Omega.{arith}
use mathlib.Core.Path.{◌≡◌, sym, ap, ◌∙◌, subst}
use mathlib.Core.Logic.{◌⊎◌, inl, inr, ⊎_elim, ◌≢◌, by_cases}
use mathlib.Core.Bool.{true}
use mathlib.Core.List.{List, [], ◌∷◌}
use Rattle.map_betas.specs.Betas.{place, beta, darts, opp}
use Rattle.map_betas.specs.Guards.{Dart}
use Rattle.map_betas.specs.Maps.{WellFormed}
use Rattle.map_betas.specs.Cores.{link_core}
use Rattle.map_betas.proofs.BetaLaws.{opp_lt}
use Rattle.map_betas.proofs.Kept.{link_changed, link_changes}
use Rattle.cell_steps.specs.Cgal.{composed}
use Rattle.cell_steps.specs.Search.{Step}
use Rattle.cell_steps.proofs.StepLaws.{Each, each_at}
use Rattle.cell_steps.proofs.CgalLaws.{word, image_word, AreBetas}
use Rattle.std.specs.Prelude.{is_ok}

pub record Adds (rows rows' : List ℕ) (New : ℕ → ℕ → ℕ → Type 0) : Type 0 where
  pub kept : (i d : ℕ) → i < 4 → beta rows i d ≢ 0 → beta rows' i d ≡ beta rows i d
  pub added : (i d : ℕ) → i < 4 → (beta rows' i d ≡ beta rows i d) ⊎ New i d (beta rows' i d)

abbrev pub Linked : ℕ → ℕ → ℕ → ℕ → ℕ → ℕ → Type 0
Linked i l r k x y = ((k ≡ i) × (x ≡ l) × (y ≡ r)) ⊎ ((k ≡ opp i) × (x ≡ r) × (y ≡ l))

module _ (rows : List ℕ) (i l r : ℕ) (w : WellFormed rows) (h₁ : 1 ≤ i) (h₄ : i < 4) (dl : Dart (darts rows) 1 l) (dr : Dart (darts rows) 1 r)
    (t : is_ok (link_core rows i l r).answer ≡ true) where
  abbrev rows₁ : List ℕ
  rows₁ = (link_core rows i l r).rows

  -- an image is as it was, or one of the two that were null
  image_of_lem : (k d : ℕ) → k < 4 → (beta rows₁ k d ≡ beta rows k d) ⊎ (Linked i l r k d (beta rows₁ k d) × (beta rows k d ≡ 0))
  image_of_lem k d h =
      let c = link_changes rows i l r w h₁ h₄ dl dr t in
      let p = link_changed rows i l r t (λ z. absurd (omega (arith, dr.allowed))) in
      let o = opp_lt i h₄ in
      by_cases (ℕ_discrete (place k d) (place i l))
      (λ (e : place k d ≡ place i l).
      let q : k ≡ i = omega arith in
      let x : d ≡ l = omega arith in
      inr (inl (q, x, (λ s. beta rows₁ (q s) (x s)) ∙ c.left), (λ s. beta rows (q s) (x s)) ∙ p.was_l))
      (λ (n : place k d ≢ place i l).
      by_cases (ℕ_discrete (place k d) (place (opp i) r))
      (λ (e : place k d ≡ place (opp i) r).
      let q : k ≡ opp i = omega arith in
      let x : d ≡ r = omega arith in
      inr (inr (q, x, (λ s. beta rows₁ (q s) (x s)) ∙ c.right), (λ s. beta rows (q s) (x s)) ∙ p.was_r))
      (λ (m : place k d ≢ place (opp i) r). inl (c.others k d n m)))

  pub link_adds : Adds rows rows₁ (Linked i l r)
  link_adds =
      record {
        kept = λ k d h n. ⊎_elim (λ e. e) (λ q. absurd (n q.1)) (image_of_lem k d h);
        added = λ k d h. ⊎_elim inl (λ q. inr q.0) (image_of_lem k d h);
      }

pub adds_on : (rows rows₁ rows₂ : List ℕ) (M N : ℕ → ℕ → ℕ → Type 0) → Adds rows rows₁ M → Adds rows₁ rows₂ N →
    Adds rows rows₂ (λ i x y. M i x y ⊎ N i x y)
adds_on rows rows₁ rows₂ M N a b =
    record {
      kept = λ i d h n. let e = a.kept i d h n in b.kept i d h (λ z. n (sym e ∙ z)) ∙ e;
      added = λ i d h.
          ⊎_elim
          (λ e. ⊎_elim (λ f. inl (e ∙ f)) (λ m. inr (inl (subst (M i d) (sym e) m))) (a.added i d h))
          (λ n. inr (inr n))
          (b.added i d h);
    }

pub adds_as : (rows rows' : List ℕ) (M N : ℕ → ℕ → ℕ → Type 0) → ((i x y : ℕ) → M i x y → N i x y) → Adds rows rows' M → Adds rows rows' N
adds_as rows rows' M N f a = record { kept = a.kept; added = λ i d h. ⊎_elim inl (λ m. inr (f i d _ m)) (a.added i d h) }

module _ (rows rows' : List ℕ) (New : ℕ → ℕ → ℕ → Type 0) (a : Adds rows rows' New) (w : WellFormed rows) where
  along : (p : List ℕ) → AreBetas p → (x y : ℕ) → composed rows p x ≡ y → y ≢ 0 → composed rows' p x ≡ y
  unfolding composed
  along [] h x y e n = e
  along (i ∷ p) h x y e n =
      let m : ℕ = composed rows p x in
      let real : m ≢ 0 = λ z. n (sym e ∙ ap (beta rows i) z ∙ w.null i h.0) in
      ap (beta rows' i) (along p h.1 x m (λ s. m) real) ∙ a.kept i m h.0 (λ z. n (sym e ∙ z)) ∙ e

  pub adds_step : (steps : List ℕ) → Each (λ (s : ℕ). AreBetas (word s)) steps → (x y : ℕ) → Step rows steps x y → Step rows' steps x y
  adds_step steps h x y t =
      let b = each_at (λ (s : ℕ). AreBetas (word s)) steps h t.by t.listed in
      record {
        by = t.by;
        listed = t.listed;
        leads = image_word rows' t.by x ∙ along (word t.by) b x y (sym (image_word rows t.by x) ∙ t.leads) t.real;
        real = t.real;
      }
