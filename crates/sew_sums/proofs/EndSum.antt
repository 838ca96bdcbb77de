-- The vertices that a 2-sew merges: dart x begins at one, and the other is at an end of y, where x and y are its darts, either way.
--   ends_joins   the vertex of x and that of y's end are joined and no others, where the other merge joins nothing, or nothing of these
--   ends_cell    then, where they were two, the vertex afterwards has the lesser name, and as many darts as both
-- Assumes nothing.
use Prim.Native.Nat.{ℕ, ◌<◌}
use native.Mathlib.Decide.{dec_lt}
use native.Mathlib.Omega.{arith}
use mathlib.Core.Path.{◌≡◌, sym, ap, ◌∙◌, subst}
use mathlib.Core.Logic.{◌⊎◌, inl, inr, ⊎_elim, ◌≢◌, by_cases}
use mathlib.Core.List.{List}
use mathlib.Mathlib.Logic.Relation.ReflTransGenᴰ
use Rattle.map_betas.specs.Betas.{beta, darts}
use Rattle.map_betas.specs.Maps.{WellFormed}
use Rattle.cell_steps.specs.Steps.{step, image, vertex}
use Rattle.cell_steps.specs.Search.{Step, Reach}
use Rattle.cell_steps.specs.Cgal.{Orbit, vertexΦ}
use Rattle.cell_steps.specs.Idents.{cell_of}
use Rattle.cell_steps.specs.declared.cells.Class.TheVariants.{Vertex}
use Rattle.cell_steps.proofs.StepLaws.{Each, each_at}
use Rattle.cell_steps.proofs.CgalLaws.{at0, at2, at3, at5, vertex_serves, class_symmetric}
use Rattle.cell_steps.proofs.IdentLaws.{ident_same, ident_one, reach_symm, reach_real}
use Rattle.cell_steps.proofs.JoinLaws.{Sides, Joins, together, joined_cell}
use Rattle.sew_ground.specs.Two.{far_of}
use Rattle.sew_ground.proofs.SideLaws.{far_below}
use Rattle.sew_sums.proofs.AddLaws.{Adds, Linked, adds_step}

-- d ends at e: by beta 1 or by beta 3
abbrev End : List ℕ → ℕ → ℕ → Type 0
End rows d e = (beta rows 1 d ≡ e) ⊎ (beta rows 3 d ≡ e)

-- ---- the new steps of a 2-link

module _ (rows rows' : List ℕ) (w : WellFormed rows) (x y : ℕ) (real-x : x ≢ 0) (real-y : y ≢ 0) (adds : Adds rows rows' (Linked 2 x y)) where
  -- a new step leads from one of the two darts to an end of the other, or back
  abbrev New : ℕ → ℕ → Type 0
  New a b = (((a ≡ x) × End rows y b) ⊎ (End rows y a × (b ≡ x))) ⊎ (((a ≡ y) × End rows x b) ⊎ (End rows x a × (b ≡ y)))

  same : (i d : ℕ) → i < 4 → i ≢ 2 → beta rows' i d ≡ beta rows i d
  same i d k n = ⊎_elim (λ e. e) (λ q. ⊎_elim (λ o. absurd (n o.0)) (λ o. absurd (n o.0)) q) (adds.added i d k)

  one : (d : ℕ) → beta rows' 1 d ≡ beta rows 1 d
  one d = same 1 d (omega arith) (λ z. absurd (omega arith))

  three : (d : ℕ) → beta rows' 3 d ≡ beta rows 3 d
  three d = same 3 d (omega arith) (λ z. absurd (omega arith))

  null : (d : ℕ) → beta rows' 0 d ≡ beta rows 0 d
  null d = same 0 d (omega arith) (λ z. absurd (omega arith))

  -- after beta 2, on to b, which is an end of the dart that is there
  out_of : (f : ℕ → ℕ) (a b : ℕ) → ((d : ℕ) → f d ≡ b → End rows d b) → f (beta rows' 2 a) ≡ b → (f (beta rows 2 a) ≡ b) ⊎ New a b
  out_of f a b end e =
      ⊎_elim
      (λ q. inl (ap f (sym q) ∙ e))
      (λ q.
      inr
      (⊎_elim (λ o. inl (inl (o.1, end y (ap f (sym o.2) ∙ e)))) (λ o. inr (inl (o.1, end x (ap f (sym o.2) ∙ e)))) q))
      (adds.added 2 a (omega arith))

  -- by beta 2 from m, of which a is an end
  into : (m a b : ℕ) → (m ≢ 0 → End rows m a) → beta rows' 2 m ≡ b → (beta rows 2 m ≡ b) ⊎ New a b
  into m a b end e =
      let at : (d : ℕ) → d ≢ 0 → m ≡ d → End rows d a = λ d n q. subst (λ (v : ℕ). End rows v a) q (end (λ z. n (sym q ∙ z))) in
      ⊎_elim
      (λ q. inl (sym q ∙ e))
      (λ q.
      inr
      (⊎_elim (λ o. inr (inr (at x real-x o.1, sym e ∙ o.2))) (λ o. inl (inr (at y real-y o.1, sym e ∙ o.2))) q))
      (adds.added 2 m (omega arith))

  abbrev Goes : ℕ → Type 0
  Goes s = (a b : ℕ) → image rows' s a ≡ b → (image rows s a ≡ b) ⊎ New a b

  goes : Each Goes vertex
  unfolding image
  goes =
      let by : (s : ℕ) → Goes s → Goes s = λ s g. g in (
        by (step 1 2) (λ a b e. out_of (beta rows 1) a b (λ d q. inl q) (sym (one (beta rows' 2 a)) ∙ e)),
        (
          by (step 2 0)
              (λ a b e. into (beta rows 0 a) a b (λ n. inl (w.back 0 a (omega arith) n)) (ap (beta rows' 2) (sym (null a)) ∙ e)),
          (
            by (step 1 3) (λ a b e. inl (sym (one (beta rows 3 a)) ∙ ap (beta rows' 1) (sym (three a)) ∙ e)),
            (
              by (step 3 0) (λ a b e. inl (sym (three (beta rows 0 a)) ∙ ap (beta rows' 3) (sym (null a)) ∙ e)),
              (
                by (step 2 3)
                    (λ a b e. into (beta rows 3 a) a b (λ n. inr (w.back 3 a (omega arith) n)) (ap (beta rows' 2) (sym (three a)) ∙ e)),
                (by (step 3 2) (λ a b e. out_of (beta rows 3) a b (λ d q. inr q) (sym (three (beta rows' 2 a)) ∙ e)), tt),
              ),
            ),
          ),
        ),
      )

-- ---- the ends of a dart are in one vertex

module _ (rows : List ℕ) (w : WellFormed rows) (d : ℕ) (real : d ≢ 0) where
  abbrev b₁ : ℕ
  b₁ = beta rows 1 d

  abbrev b₃ : ℕ
  b₃ = beta rows 3 d

  which : ((far_of rows d ≡ b₁) × (b₁ ≡ 0 → b₃ ≡ 0)) ⊎ ((far_of rows d ≡ b₃) × (b₃ ≡ 0 → b₁ ≡ 0))
  which =
      by_cases (dec_lt b₃ b₁)
      (λ (h : b₃ < b₁). inl (omega arith, λ z. absurd (omega arith)))
      (λ (h : b₃ < b₁ → ⊥). inr (omega arith, λ z. omega arith))

  -- over the dart, from its one end to the other
  to_one : b₃ ≢ 0 → b₁ ≢ 0 → Reach rows vertex b₃ b₁
  unfolding image
  to_one m n =
      ReflTransGenᴰ.tail ReflTransGenᴰ.refl
      (record { by = step 1 3; listed = at2; leads = ap (beta rows 1) (w.back 3 d (omega arith) m); real = n })

  to_three : b₁ ≢ 0 → b₃ ≢ 0 → Reach rows vertex b₁ b₃
  unfolding image
  to_three m n =
      ReflTransGenᴰ.tail ReflTransGenᴰ.refl
      (record { by = step 3 0; listed = at3; leads = ap (beta rows 3) (w.back 1 d (omega arith) m); real = n })

  pub at_end : (e : ℕ) → End rows d e → e ≢ 0 → Reach rows vertex (far_of rows d) e
  at_end e t n =
      ⊎_elim
      (λ q.
      ⊎_elim
      (λ f. subst (λ (v : ℕ). Reach rows vertex v e) (sym f.0) (subst (Reach rows vertex b₁) q ReflTransGenᴰ.refl))
      (λ f.
      subst (λ (v : ℕ). Reach rows vertex v e) (sym f.0)
      (subst (Reach rows vertex b₃) q (to_one (λ z. n (sym q ∙ f.1 z)) (λ z. n (sym q ∙ z)))))
      which)
      (λ q.
      ⊎_elim
      (λ f.
      subst (λ (v : ℕ). Reach rows vertex v e) (sym f.0)
      (subst (Reach rows vertex b₁) q (to_three (λ z. n (sym q ∙ f.1 z)) (λ z. n (sym q ∙ z)))))
      (λ f. subst (λ (v : ℕ). Reach rows vertex v e) (sym f.0) (subst (Reach rows vertex b₃) q ReflTransGenᴰ.refl))
      which)
      t

  pub far_end : End rows d (far_of rows d)
  far_end = ⊎_elim (λ f. inl (sym f.0)) (λ f. inr (sym f.0)) which

-- ---- one merge of the two

-- the null dart reaches nothing else
null_reach : (rows : List ℕ) → WellFormed rows → {a b : ℕ} → Reach rows vertex a b → b ≢ 0 → a ≡ 0 → ⊥
null_reach rows w r n z = reach_real rows vertex n (reach_symm rows vertex (class_symmetric rows w Vertex) r) z

abbrev pub vertex_name : List ℕ → ℕ → ℕ
vertex_name rows d = (cell_of Vertex rows d).least

-- the other merge, of y's vertex and that of x's end, is none, or names no cell that this one names
abbrev pub Apart : List ℕ → ℕ → ℕ → Type 0
Apart rows x y =
    (far_of rows x ≡ 0)
    ⊎ ((vertex_name rows (far_of rows x) ≡ vertex_name rows y)
    ⊎ ((vertex_name rows y ≢ vertex_name rows x) × (vertex_name rows y ≢ vertex_name rows (far_of rows y))
    × (vertex_name rows (far_of rows x) ≢ vertex_name rows x) × (vertex_name rows (far_of rows x) ≢ vertex_name rows (far_of rows y))))

module _ (rows rows' : List ℕ) (w : WellFormed rows) (x y : ℕ) (hx : x < darts rows) (hy : y < darts rows) (real-x : x ≢ 0) (real-y : y ≢ 0)
    (adds : Adds rows rows' (Linked 2 x y)) (set : beta rows' 2 x ≡ y) (far : far_of rows y ≢ 0) (apart : Apart rows x y) where
  abbrev mx : ℕ
  mx = far_of rows x

  abbrev my : ℕ
  my = far_of rows y

  symm : {a b : ℕ} → Reach rows vertex a b → Reach rows vertex b a
  symm = reach_symm rows vertex (class_symmetric rows w Vertex)

  one_name : (a b : ℕ) → a < darts rows → Reach rows vertex a b → vertex_name rows a ≡ vertex_name rows b
  one_name = ident_same rows vertex w.below (class_symmetric rows w Vertex)

  abbrev Either : ℕ → Type 0
  Either a = Reach rows vertex x a ⊎ Reach rows vertex my a

  real_either : (a : ℕ) → Either a → a ≢ 0
  real_either a e = ⊎_elim (reach_real rows vertex real-x) (reach_real rows vertex far) e

  -- a dart of this merge's cells is in none of the other's, where they are apart
  strange : (c a : ℕ) → c < darts rows → Reach rows vertex c a → Either a → vertex_name rows c ≢ vertex_name rows x → vertex_name rows c ≢ vertex_name rows my → ⊥
  strange c a h r e n m =
      ⊎_elim (λ q. n (one_name c x h (ReflTransGenᴰ.trans r (symm q)))) (λ q. m (one_name c my h (ReflTransGenᴰ.trans r (symm q)))) e

  -- what the other merge adds joins nothing, or starts in neither of these cells
  other : (a b : ℕ) → Either a → b ≢ 0 → ((a ≡ y) × End rows x b) ⊎ (End rows x a × (b ≡ y)) → Reach rows vertex a b
  other a b e n (inl q) =
      let to : Reach rows vertex mx b = at_end rows w x real-x b q.1 n in
      ⊎_elim
      (λ z. absurd (null_reach rows w to n z))
      (λ k.
      ⊎_elim
      (λ g.
      subst (λ (v : ℕ). Reach rows vertex v b) (sym q.0)
      (ReflTransGenᴰ.trans (symm (ident_one rows vertex w.below (class_symmetric rows w Vertex) mx y (far_below rows x w) hy g)) to))
      (λ g. absurd (strange y a hy (subst (Reach rows vertex y) (sym q.0) ReflTransGenᴰ.refl) e g.0 g.1))
      k)
      apart
  other a b e n (inr q) =
      let to : Reach rows vertex mx a = at_end rows w x real-x a q.0 (real_either a e) in
      ⊎_elim
      (λ z. absurd (null_reach rows w to (real_either a e) z))
      (λ k.
      ⊎_elim
      (λ g.
      subst (Reach rows vertex a) (sym q.1)
      (ReflTransGenᴰ.trans (symm to) (ident_one rows vertex w.below (class_symmetric rows w Vertex) mx y (far_below rows x w) hy g)))
      (λ g. absurd (strange mx a (far_below rows x w) to e g.2 g.3))
      k)
      apart

  crosses : (a b : ℕ) → Either a → Step rows' vertex a b → Reach rows vertex a b ⊎ Sides rows vertex x my a b
  crosses a b e t =
      ⊎_elim
      (λ q. inl (ReflTransGenᴰ.tail ReflTransGenᴰ.refl (record { by = t.by; listed = t.listed; leads = q; real = t.real })))
      (λ n.
      ⊎_elim
      (λ q.
      inr
      (⊎_elim
      (λ o. inl (subst (Reach rows vertex x) (sym o.0) ReflTransGenᴰ.refl, at_end rows w y real-y b o.1 t.real))
      (λ o. inr (at_end rows w y real-y a o.0 (real_either a e), subst (Reach rows vertex x) (sym o.1) ReflTransGenᴰ.refl))
      q))
      (λ q. inl (other a b e t.real q))
      n)
      (each_at (Goes rows rows' w x y real-x real-y adds) vertex (goes rows rows' w x y real-x real-y adds) t.by t.listed a b t.leads)

  -- over x and y, from x to the end of y
  over : End rows y my → Reach rows' vertex x my
  unfolding image
  over (inl e) =
      ReflTransGenᴰ.tail ReflTransGenᴰ.refl
      (record {
        by = step 1 2;
        listed = at0;
        leads = ap (beta rows' 1) set ∙ one rows rows' w x y real-x real-y adds y ∙ e;
        real = far;
      })
  over (inr e) =
      ReflTransGenᴰ.tail ReflTransGenᴰ.refl
      (record {
        by = step 3 2;
        listed = at5;
        leads = ap (beta rows' 3) set ∙ three rows rows' w x y real-x real-y adds y ∙ e;
        real = far;
      })

  pub ends_joins : Joins rows rows' vertex x my
  ends_joins =
      record {
        kept = adds_step rows rows' (Linked 2 x y) adds w vertex vertex_serves.betas;
        crosses = crosses;
        bridge = over (far_end rows w y real-y);
      }

  pub ends_cell : WellFormed rows' → darts rows' ≡ darts rows → vertex_name rows x ≢ vertex_name rows my → (v : ℕ) →
      Orbit rows vertexΦ x v ⊎ Orbit rows vertexΦ my v →
      cell_of Vertex rows' v ≡ together (cell_of Vertex rows x) (cell_of Vertex rows my)
  ends_cell w' many = joined_cell Vertex vertexΦ vertex_serves rows rows' x my w w' ends_joins many hx (far_below rows y w) real-x far
