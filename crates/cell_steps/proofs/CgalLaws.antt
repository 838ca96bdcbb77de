-- The steps of a cell reach the darts of the CGAL manual's cell.
--   word, inverse, image_word   a step as a composition of betas, and its inverse
--   undone, from_real           a composition that is defined is undone by its inverse; its dart is not null
--   Serves                      the steps are the permutations of Φ and their inverses
--   reach_orbit, orbit_reach, reach_exact   then they reach exactly the orbit
--   symmetric                   and they lead back
--   vertex_serves .. volume_serves   the four cells
--   class_symmetric    the steps of each class lead back
-- Assumes nothing.
use mathlib.Core.Path.{◌≡◌, refl, sym, ap, ◌∙◌}
use mathlib.Core.Bool.{Bool, true, false, cond}
use mathlib.Core.Logic.{◌⊎◌, inl, inr, ⊎_elim, ◌↔◌}
use mathlib.Core.List.{List, [], ◌∷◌, ◌++◌, Memᴰ}
use mathlib.Mathlib.Logic.Relation.ReflTransGenᴰ
use Prim.Native.Nat.{ℕ, ◌/◌, ◌%◌, ◌<◌}
use native.Mathlib.Omega.{arith}
use lib.Dec.{ltb}
use Rattle.map_betas.specs.Betas.{beta, opp}
use Rattle.map_betas.specs.Maps.{WellFormed}
use Rattle.cell_steps.specs.Cgal.{composed, Orbit, self, forth, back, vertexΦ, edgeΦ, faceΦ, volumeΦ, cellΦ}
use Rattle.cell_steps.specs.Search.{In, Step, Reach, Symmetric}
use Rattle.cell_steps.specs.declared.cells.Class.{Class}
use Rattle.cell_steps.specs.declared.cells.Class.TheVariants as class
use Rattle.cell_steps.specs.Steps.{cell_steps, step, image, vertex, edge, face, volume}
use Rattle.cell_steps.proofs.StepLaws.{Each, each_at}

-- a step's betas, and their inverse
abbrev pub word : ℕ → List ℕ
word c = cond (ltb c 16) (c ∷ []) (c / 16 ∷ c % 16 ∷ [])

abbrev pub inverse : List ℕ → List ℕ
inverse [] = []
inverse (i ∷ p) = inverse p ++ (opp i ∷ [])

abbrev pub AreBetas : List ℕ → Type 0
AreBetas [] = Unit {0}
AreBetas (i ∷ p) = (i < 4) × AreBetas p

module _ (rows : List ℕ) where
  pub image_word : (s d : ℕ) → image rows s d ≡ composed rows (word s) d
  unfolding image composed
  image_word s d = go (ltb s 16)
    where
      go : (t : Bool) → cond t (beta rows s d) (beta rows (s / 16) (beta rows (s % 16) d)) ≡ composed rows (cond t (s ∷ []) (s / 16 ∷ s % 16 ∷ [])) d
      go true = refl
      go false = refl

  composed_snoc : (p : List ℕ) (i d : ℕ) → composed rows (p ++ (i ∷ [])) d ≡ composed rows p (beta rows i d)
  unfolding composed
  composed_snoc [] i d = refl
  composed_snoc (j ∷ p) i d = ap (beta rows j) (composed_snoc p i d)

  module _ (w : WellFormed rows) where
    -- a composition that is defined is undone by its inverse
    pub undone : (p : List ℕ) → AreBetas p → (a b : ℕ) → composed rows p a ≡ b → (b ≡ 0 → ⊥) → composed rows (inverse p) b ≡ a
    unfolding composed
    undone [] h a b e r = sym e
    undone (i ∷ p) h a b e r =
        let y : ℕ = composed rows p a in
        let y-real : y ≡ 0 → ⊥ = λ z. r (sym e ∙ ap (beta rows i) z ∙ w.null i h.0) in
        let there : beta rows (opp i) b ≡ y =
        ap (beta rows (opp i)) (sym e) ∙ w.back i y h.0 (λ z. r (sym e ∙ z)) in
        composed_snoc (inverse p) (opp i) b ∙ ap (composed rows (inverse p)) there ∙ undone p h.1 a y refl y-real

    -- where a composition of betas is defined its dart is not null
    pub from_real : (p : List ℕ) → AreBetas p → (a : ℕ) → (composed rows p a ≡ 0 → ⊥) → a ≡ 0 → ⊥
    unfolding composed
    from_real [] h a r z = r z
    from_real (i ∷ p) h a r z = from_real p h.1 a (λ y. r (ap (beta rows i) y ∙ w.null i h.0)) z

-- ---- the steps serve Φ: each is one of its permutations or the inverse of one, and each of these and their inverses is a step

abbrev pub Spelt : List ℕ → List ℕ → Type 0
Spelt steps p = (s : ℕ) × In s steps × (word s ≡ p)

pub record Serves (steps : List ℕ) (Φ : List (List ℕ)) : Type 0 where
  pub betas : Each (λ (s : ℕ). AreBetas (word s)) steps
  pub covered : Each (λ (s : ℕ). Memᴰ (word s) Φ ⊎ Memᴰ (inverse (word s)) Φ) steps
  pub betasΦ : Each AreBetas Φ
  pub there : Each (Spelt steps) Φ
  pub again : Each (λ (p : List ℕ). Spelt steps (inverse p)) Φ

module _ (rows : List ℕ) (w : WellFormed rows) (steps : List ℕ) (Φ : List (List ℕ)) (k : Serves steps Φ) where
  -- a spelt permutation that is defined at a is a step
  as_step : (p : List ℕ) → Spelt steps p → (a b : ℕ) → composed rows p a ≡ b → (b ≡ 0 → ⊥) → Step rows steps a b
  as_step p t a b e r =
      record { by = t.0; listed = t.1; leads = image_word rows t.0 a ∙ ap (λ (q : List ℕ). composed rows q a) t.2 ∙ e; real = r }

  pub reach_orbit : {d x : ℕ} → Reach rows steps d x → Orbit rows Φ d x
  reach_orbit ReflTransGenᴰ.refl = self
  reach_orbit (ReflTransGenᴰ.tail {b = a} {c = b} r t) =
      let e : composed rows (word t.by) a ≡ b = sym (image_word rows t.by a) ∙ t.leads in
      let h = each_at (λ (s : ℕ). AreBetas (word s)) steps k.betas t.by t.listed in
      ⊎_elim
      (λ m. forth (reach_orbit r) (word t.by) m e t.real)
      (λ m.
      back (reach_orbit r) (inverse (word t.by)) m (undone rows w (word t.by) h a b e t.real)
      (from_real rows w (word t.by) h a (λ z. t.real (sym e ∙ z))))
      (each_at (λ (s : ℕ). Memᴰ (word s) Φ ⊎ Memᴰ (inverse (word s)) Φ) steps k.covered t.by t.listed)

  pub orbit_reach : {d x : ℕ} → Orbit rows Φ d x → Reach rows steps d x
  orbit_reach self = ReflTransGenᴰ.refl
  orbit_reach (forth {a = a} {b = b} o p m e r) =
      ReflTransGenᴰ.tail (orbit_reach o) (as_step p (each_at (Spelt steps) Φ k.there p m) a b e r)
  orbit_reach (back {a = a} {b = b} o p m e r) =
      let h = each_at AreBetas Φ k.betasΦ p m in
      ReflTransGenᴰ.tail (orbit_reach o)
      (as_step (inverse p) (each_at (λ (q : List ℕ). Spelt steps (inverse q)) Φ k.again p m) a b (undone rows w p h b a e r)
      (from_real rows w p h b (λ z. r (sym e ∙ z))))

  pub reach_exact : (d x : ℕ) → Reach rows steps d x ↔ Orbit rows Φ d x
  reach_exact d x = (reach_orbit, orbit_reach)

  -- ---- reaching is symmetric

  turned : (s : ℕ) → In s steps → Spelt steps (inverse (word s))
  turned s m =
      ⊎_elim
      (λ f. each_at (λ (q : List ℕ). Spelt steps (inverse q)) Φ k.again (word s) f)
      (λ f. each_at (Spelt steps) Φ k.there (inverse (word s)) f)
      (each_at (λ (s : ℕ). Memᴰ (word s) Φ ⊎ Memᴰ (inverse (word s)) Φ) steps k.covered s m)

  pub symmetric : Symmetric rows steps
  symmetric =
      record {
        back = λ a b t.
            let e : composed rows (word t.by) a ≡ b = sym (image_word rows t.by a) ∙ t.leads in
            let h = each_at (λ (s : ℕ). AreBetas (word s)) steps k.betas t.by t.listed in
            as_step (inverse (word t.by)) (turned t.by t.listed) b a (undone rows w (word t.by) h a b e t.real)
            (from_real rows w (word t.by) h a (λ z. t.real (sym e ∙ z)));
      }

-- ---- the four classes

abbrev pub at0 : {A : Type 0} {x : A} {l : List A} → Memᴰ x (x ∷ l)
at0 = Memᴰ.head refl

abbrev pub at1 : {A : Type 0} {x y0 : A} {l : List A} → Memᴰ x (y0 ∷ x ∷ l)
at1 = Memᴰ.tail at0

abbrev pub at2 : {A : Type 0} {x y0 y1 : A} {l : List A} → Memᴰ x (y0 ∷ y1 ∷ x ∷ l)
at2 = Memᴰ.tail at1

abbrev pub at3 : {A : Type 0} {x y0 y1 y2 : A} {l : List A} → Memᴰ x (y0 ∷ y1 ∷ y2 ∷ x ∷ l)
at3 = Memᴰ.tail at2

abbrev pub at4 : {A : Type 0} {x y0 y1 y2 y3 : A} {l : List A} → Memᴰ x (y0 ∷ y1 ∷ y2 ∷ y3 ∷ x ∷ l)
at4 = Memᴰ.tail at3

abbrev pub at5 : {A : Type 0} {x y0 y1 y2 y3 y4 : A} {l : List A} → Memᴰ x (y0 ∷ y1 ∷ y2 ∷ y3 ∷ y4 ∷ x ∷ l)
at5 = Memᴰ.tail at4

pub vertex_serves : Serves vertex vertexΦ
vertex_serves =
    record {
      betas = omega arith;
      covered = (inl at0, (inr at0, (inl at1, (inr at1, (inl at2, (inr at2, tt))))));
      betasΦ = omega arith;
      there = ((step 1 2, at0, refl), ((step 1 3, at2, refl), ((step 2 3, at4, refl), tt)));
      again = ((step 2 0, at1, refl), ((step 3 0, at3, refl), ((step 3 2, at5, refl), tt)));
    }

pub edge_serves : Serves edge edgeΦ
edge_serves =
    record {
      betas = omega arith;
      covered = (inl at0, (inl at1, tt));
      betasΦ = omega arith;
      there = ((2, at0, refl), ((3, at1, refl), tt));
      again = ((2, at0, refl), ((3, at1, refl), tt));
    }

pub face_serves : Serves face faceΦ
face_serves =
    record {
      betas = omega arith;
      covered = (inl at0, (inr at0, (inl at1, tt)));
      betasΦ = omega arith;
      there = ((1, at0, refl), ((3, at2, refl), tt));
      again = ((0, at1, refl), ((3, at2, refl), tt));
    }

pub volume_serves : Serves volume volumeΦ
volume_serves =
    record {
      betas = omega arith;
      covered = (inl at0, (inr at0, (inl at1, tt)));
      betasΦ = omega arith;
      there = ((1, at0, refl), ((2, at2, refl), tt));
      again = ((0, at1, refl), ((2, at2, refl), tt));
    }

pub class_serves : (c : Class) → Serves (cell_steps c) (cellΦ c)
class_serves class.Vertex = vertex_serves
class_serves class.Edge = edge_serves
class_serves class.Face = face_serves
class_serves class.Volume = volume_serves

pub class_symmetric : (rows : List ℕ) → WellFormed rows → (c : Class) → Symmetric rows (cell_steps c)
class_symmetric rows w c = symmetric rows w (cell_steps c) (cellΦ c) (class_serves c)
