-- A volume by beta 1 and beta 2 alone: where every beta 1 image leads on, beta 0 leads nowhere else.
--   images, onto       a map of a finite list into itself that can be undone is onto
--   linear_reach       what beta 1 and beta 2 reach is of the volume
--   linear_seeded      so the search goes on from it by all the steps of a volume
--   linear_spread      or has nowhere to go on to
--   ahead-..           the loop that sees whether a beta 1 image is null
--   not_ended          where it has seen none every dart leads on
--   visited_forward    a visit by beta 1 and beta 2
-- Assumes nothing.
use Prim.Native.Nat.{ℕ, zero, suc, ◌+◌, ◌-◌, ◌≤◌, ◌<◌}
use native.Mathlib.Omega.{arith}
use mathlib.Core.Path.{◌≡◌, refl, sym, ap, ◌∙◌, subst}
use mathlib.Core.Bool.{Bool, true, false, ◌||◌, true≢false}
use mathlib.Core.Logic.{◌⊎◌, inl, inr, ⊎_elim}
use mathlib.Core.List.Memᴰ
use mathlib.Core.List.{List, [], ◌∷◌}
use mathlib.Mathlib.Logic.Relation.ReflTransGenᴰ
use lib.Dec.{eqb, lit<}
use lib.ListN.{length, get_or, take, length-append}
use lib.Seq.{length-take-le, get_or-append-add, get_or-take}
use borrow.Author.Tests.{eqb-true, eqb-false, eq-eqb, ne_eqb}
use Rattle.map_betas.specs.Betas.{beta}
use Rattle.map_betas.specs.Maps.{WellFormed}
use Rattle.cell_steps.specs.Steps.{image, volume, volume_linear}
use Rattle.cell_steps.specs.Search.{In, NoRep, mem, add, visit, Reach}
use Rattle.cell_steps.specs.Loans.{Grown}
use Rattle.cell_steps.proofs.Lists.{bool, mem_in, not_mem, norep_le, norep_parts, at_in}
use Rattle.cell_steps.proofs.SearchLaws.{Ext, ext_in, ext_at, visit_ext}
use Rattle.cell_steps.proofs.OrbitLaws.{Has}
use Rattle.cell_joins.specs.Joins.{Whole, ended, Onward}
use Rattle.cell_joins.proofs.WidenLaws.{Seeded, Spread}
use Rattle.cell_joins.proofs.PushLaws.{grown_both}

-- ---- a map of a finite list into itself that can be undone is onto

images : (ℕ → ℕ) → List ℕ → List ℕ
images f [] = []
images f (x ∷ l) = f x ∷ images f l

module _ (f g : ℕ → ℕ) where
  images_length : (l : List ℕ) → length (images f l) ≡ length l
  unfolding images
  images_length [] = refl
  images_length (x ∷ l) = ap suc (images_length l)

  images_of : (l : List ℕ) (y : ℕ) → In y (images f l) → (x : ℕ) × In x l × (y ≡ f x)
  unfolding images
  images_of [] y m = absurd (Memᴰ.not-nil m)
  images_of (x ∷ l) y m =
      ⊎_elim (λ e. (x, Memᴰ.head refl, e)) (λ n. let r = images_of l y n in (r.0, Memᴰ.tail r.1, r.2)) (Memᴰ.cases_cons m)

  images_norep : (l : List ℕ) → NoRep l → ((x : ℕ) → In x l → g (f x) ≡ x) → NoRep (images f l)
  unfolding images
  images_norep [] n u = tt
  images_norep (x ∷ l) n u = (
    λ m.
        let r = images_of l (f x) m in
        let e : x ≡ r.0 = sym (u x (Memᴰ.head refl)) ∙ ap g r.2 ∙ u r.0 (Memᴰ.tail r.1) in
        n.0 (Memᴰ.cast e r.1),
    images_norep l n.1 (λ y m. u y (Memᴰ.tail m)),
  )

  onto : (l : List ℕ) → NoRep l → ((x : ℕ) → In x l → In (f x) l) → ((x : ℕ) → In x l → g (f x) ≡ x) → (y : ℕ) → In y l → In (g y) l
  onto l n into u y m =
      ⊎_elim
      (λ t. let r = images_of l y (mem_in y (images f l) t) in Memᴰ.cast (ap g r.2 ∙ u r.0 r.1) r.1)
      (λ t.
      let all : (x : ℕ) → In x (y ∷ images f l) → In x l =
      λ x i. ⊎_elim (λ e. Memᴰ.cast e m) (λ j. let r = images_of l x j in Memᴰ.cast r.2 (into r.0 r.1)) (Memᴰ.cases_cons i) in
      absurd (omega (arith, norep_le (y ∷ images f l) l (not_mem y (images f l) t, images_norep l n u) all, images_length l)))
      (bool (mem y (images f l)))

-- ---- beta 1 and beta 2 are steps of a volume

linear_step : {s : ℕ} → In s volume_linear → In s volume
linear_step m =
    ⊎_elim (λ e. Memᴰ.head e) (λ k. Memᴰ.tail (Memᴰ.tail (Memᴰ.head (Memᴰ.eq_of_singleton k)))) (Memᴰ.cases_cons m)

linear_reach : (rows : List ℕ) {a x : ℕ} → Reach rows volume_linear a x → Reach rows volume a x
linear_reach rows ReflTransGenᴰ.refl = ReflTransGenᴰ.refl
linear_reach rows (ReflTransGenᴰ.tail r t) =
    ReflTransGenᴰ.tail (linear_reach rows r) (record { by = t.by; listed = linear_step t.listed; leads = t.leads; real = t.real })

pub linear_closed : (rows l : List ℕ) → Whole rows volume l → Whole rows volume_linear l
linear_closed rows l c = record { image_in = λ x m s t. c.image_in x m s (linear_step t) }

module _ (rows : List ℕ) (w : WellFormed rows) (d : ℕ) (l m : List ℕ) (v : Spread rows volume_linear d l m) where
  pub linear_seeded : Seeded rows volume d l m
  linear_seeded =
      record {
        norep = v.seeded.norep;
        starts = v.seeded.starts;
        has = v.seeded.has;
        all = λ x i. let p = v.seeded.all x i in (⊎_elim inl (λ r. inr (linear_reach rows r)) p.0, p.1);
      }

  module _ (c : Whole rows volume l) (on : Onward rows (length l) m) where
    abbrev new : List ℕ
    new = v.seeded.starts.rest

    parts : NoRep l × NoRep new × ((x : ℕ) → In x l → In x new → ⊥)
    parts = norep_parts l new (subst NoRep v.seeded.starts.is v.seeded.norep)

    whole : {x : ℕ} → In x new → In x m
    whole i = rw v.seeded.starts.is (Memᴰ.append_right l i)

    part : (x : ℕ) → In x m → In x l ⊎ In x new
    part x i = Memᴰ.append_cases l (subst (λ (t : List ℕ). In x t) v.seeded.starts.is i)

    new_on : (x : ℕ) → In x new → beta rows 1 x ≡ 0 → ⊥
    new_on x i z =
        let p = at_in i in
        let e : get_or m (length l + p.0) 0 ≡ x =
        ap (λ (t : List ℕ). get_or t (length l + p.0) 0) v.seeded.starts.is ∙ get_or-append-add l new p.0 0 ∙ p.2 in
        on.leads (length l + p.0) (omega arith)
        (omega (arith, p.1, ap length v.seeded.starts.is, length-append l new))
        (ap (beta rows 1) e ∙ z)

    back_1 : (x : ℕ) → In x new → beta rows 0 (beta rows 1 x) ≡ x
    back_1 x i = w.back 1 x (lit< tt) (new_on x i)

    new_real : (x : ℕ) → In x new → x ≡ 0 → ⊥
    new_real x i e = new_on x i (ap (beta rows 1) e ∙ w.null 1 (lit< tt))

    -- beta 1 keeps to the new darts: from an old one beta 0 leads to old ones
    into : (x : ℕ) → In x new → In (beta rows 1 x) new
    unfolding image
    into x i =
        ⊎_elim
        (λ z. absurd (new_on x i z))
        (λ k.
        ⊎_elim
        (λ o.
        ⊎_elim
        (λ z. absurd (new_real x i (sym (back_1 x i) ∙ z)))
        (λ q. absurd (parts.2 x (Memᴰ.cast (sym (back_1 x i)) q) i))
        (c.image_in (beta rows 1 x) o 0 (Memᴰ.tail (Memᴰ.head refl))))
        (λ n. n)
        (part (beta rows 1 x) k))
        (v.closed x (whole i) 1 (Memᴰ.head refl))

    has_all : (x : ℕ) → In x m → Has rows volume m x
    unfolding image
    has_all x i s t =
        ⊎_elim
        (λ o. ⊎_elim inl (λ q. inr (ext_in v.seeded.starts q)) (c.image_in x o s t))
        (λ n.
        ⊎_elim
        (λ e. subst (λ (j : ℕ). (image rows j x ≡ 0) ⊎ In (image rows j x) m) (sym e) (v.closed x i 1 (Memᴰ.head refl)))
        (λ t'.
        ⊎_elim
        (λ e.
        subst (λ (j : ℕ). (image rows j x ≡ 0) ⊎ In (image rows j x) m) (sym e)
        (inr (whole (onto (beta rows 1) (beta rows 0) new parts.1 into back_1 x n))))
        (λ k.
        subst (λ (j : ℕ). (image rows j x ≡ 0) ⊎ In (image rows j x) m) (sym (Memᴰ.eq_of_singleton k))
        (v.closed x i 2 (Memᴰ.tail (Memᴰ.head refl))))
        (Memᴰ.cases_cons t'))
        (Memᴰ.cases_cons t))
        (part x i)

    pub linear_spread : Spread rows volume d l m
    linear_spread = record { seeded = linear_seeded; closed = has_all }

-- ---- the loop that sees whether a beta 1 image is null

module _ (rows : List ℕ) (from : ℕ) where
  -- only the places that are looked at matter
  ended_same : (l l' : List ℕ) (f : ℕ) → ((i : ℕ) → i < f → get_or l (from + i) 0 ≡ get_or l' (from + i) 0) → ended rows l from f ≡ ended rows l' from f
  unfolding ended
  ended_same l l' zero h = refl
  ended_same l l' (suc f) h =
      λ s. eqb (beta rows 1 (h f (omega arith) s)) 0 || ended_same l l' f (λ i q. h i (omega arith)) s

  -- where no place says so every one has an image
  ended_none : (l : List ℕ) (f : ℕ) → ended rows l from f ≡ false → (i : ℕ) → i < f → beta rows 1 (get_or l (from + i) 0) ≡ 0 → ⊥
  unfolding ended
  ended_none l zero e i h z = absurd (omega arith)
  ended_none l (suc f) e i h z =
      ⊎_elim
      (λ t.
      let q : i ≡ f = eqb-true i f t in
      true≢false (sym (ap (λ (b : Bool). b || ended rows l from f) (eq-eqb _ 0 (ap (λ (j : ℕ). beta rows 1 (get_or l (from + j) 0)) (sym q) ∙ z))) ∙ e))
      (λ t. ended_none l f (or_right (eqb (beta rows 1 (get_or l (from + f) 0)) 0) (ended rows l from f) e) i (omega (arith, eqb-false i f t)) z)
      (bool (eqb i f))
    where
      or_right : (a b : Bool) → (a || b) ≡ false → b ≡ false
      or_right true b q = absurd (true≢false q)
      or_right false b q = q

  pub ahead_starts : (l : List ℕ) (k : ℕ) → k ≡ from → false ≡ ended rows l from (k - from)
  unfolding ended
  ahead_starts l k e = let q : k - from ≡ 0 = omega arith in rw q

  module _ (k count : ℕ) (queue : List ℕ) (first : from ≤ k) (lt : k < count) (room : count ≤ length queue) (marks' queue' : List ℕ) (r : ℕ)
      (g : Grown queue count (visit rows volume_linear (get_or queue k 0) (take count queue)) marks' queue' r) where
    abbrev l : List ℕ
    l = take count queue

    abbrev l' : List ℕ
    l' = take r queue'

    wider : Ext l l'
    wider = rw g.front (visit_ext rows (get_or queue k 0) volume_linear l)

    at : (i : ℕ) → i < count → get_or l i 0 ≡ get_or l' i 0
    at i h = sym (ext_at wider i (omega (arith, h, length-take-le count queue room)))

    -- one place more
    one_more : ended rows l' from ((k + 1) - from) ≡ (eqb (beta rows 1 (get_or queue k 0)) 0 || ended rows l from (k - from))
    unfolding ended
    one_more =
        let q : (k + 1) - from ≡ suc (k - from) = omega arith in
        let p : from + (k - from) ≡ k = omega arith in
        let x : get_or l' (from + (k - from)) 0 ≡ get_or queue k 0 =
        ap (λ (i : ℕ). get_or l' i 0) p ∙ sym (at k lt) ∙ get_or-take count queue k 0 lt in
        ap (ended rows l' from) q
        ∙ (λ s. eqb (beta rows 1 (x s)) 0 || ended_same l' l (k - from) (λ i h. sym (at (from + i) (omega arith))) s)

    pub ahead_visit : (ends ends' : Bool) → ends ≡ ended rows l from (k - from) →
        ((beta rows 1 (get_or queue k 0) ≡ 0) × (ends' ≡ true)) ⊎ ((beta rows 1 (get_or queue k 0) ≡ 0 → ⊥) × (ends' ≡ ends)) →
        ends' ≡ ended rows l' from ((k + 1) - from)
    ahead_visit ends ends' e (inl p) =
        p.1 ∙ sym (one_more ∙ ap (λ (b : Bool). b || ended rows l from (k - from)) (eq-eqb (beta rows 1 (get_or queue k 0)) 0 p.0))
    ahead_visit ends ends' e (inr p) =
        p.1 ∙ e ∙ sym (one_more ∙ ap (λ (b : Bool). b || ended rows l from (k - from)) (ne_eqb (beta rows 1 (get_or queue k 0)) 0 p.0))

  pub ahead_ends : (k count : ℕ) (l : List ℕ) (ends : Bool) → k ≤ count → count ≤ k → ends ≡ ended rows l from (k - from) →
      ends ≡ ended rows l from (count - from)
  ahead_ends k count l ends h q e = let n : k ≡ count = omega arith in e ∙ ap (λ (c : ℕ). ended rows l from (c - from)) n

  pub not_ended : (l : List ℕ) (count : ℕ) → length l ≡ count → ended rows l from (count - from) ≡ false → Onward rows from l
  not_ended l count e t =
      record {
        leads = λ i h q z.
            let p : from + (i - from) ≡ i = omega arith in
            ended_none l (count - from) t (i - from) (omega arith) (ap (λ (j : ℕ). beta rows 1 (get_or l j 0)) p ∙ z);
      }

-- a visit by beta 1 and beta 2 is a push of each image
pub visited_forward : (rows : List ℕ) (d : ℕ) (out : List ℕ) (count x y : ℕ) → x ≡ beta rows 1 d → y ≡ beta rows 2 d → (m₁ o₁ : List ℕ) (k : ℕ) →
    Grown out count (add (take count out) x) m₁ o₁ k →
    (m₂ o₂ : List ℕ) (r : ℕ) → Grown o₁ k (add (take k o₁) y) m₂ o₂ r → Grown out count (visit rows volume_linear d (take count out)) m₂ o₂ r
unfolding visit image
visited_forward rows d out count x y ex ey m₁ o₁ k g m₂ o₂ r h =
    let e : add (take k o₁) y ≡ visit rows volume_linear d (take count out) =
    ap (λ (t : List ℕ). add t y) g.front
    ∙ ap (λ (i : ℕ). add (add (take count out) i) y) ex
    ∙ ap (add (add (take count out) (beta rows 1 d))) ey in
    subst (λ (t : List ℕ). Grown out count t m₂ o₂ r) e (grown_both out count _ m₁ o₁ k _ m₂ o₂ r g h)
