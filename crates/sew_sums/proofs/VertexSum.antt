-- The vertex that a 1-sew merges has exactly the darts of both vertices.
--   Behind, Set     one dart stands behind another now; the pairs of which the links of a 1-sew make this so
--   behind_joins    links by beta 1 join two vertices where each of their pairs leads from the one to the other
--   links_add       they add these images by beta 1, and by beta 0 back, and no others
--   vertex_joins    so they join the vertices of the far end and of rd, and no others
--   vertex_cell     where they were two, the vertex afterwards has the lesser name, and as many darts as both
-- Assumes nothing.
use Prim.Native.Nat.{ℕ, ◌/◌, ◌<◌, ◌≤◌}
use native.Mathlib.Decide.{dec_lt, ℕ_discrete}
use native.Mathlib.Omega.{arith}
use mathlib.Core.Path.{◌≡◌, refl, sym, ap, ◌∙◌, subst}
use mathlib.Core.Logic.{◌⊎◌, inl, inr, ⊎_elim, ◌≢◌, by_cases}
use mathlib.Core.Bool.{true}
use mathlib.Core.List.{List}
use mathlib.Mathlib.Logic.Relation.ReflTransGenᴰ
use Rattle.map_betas.specs.Betas.{beta, darts}
use Rattle.map_betas.specs.Guards.{Dart}
use Rattle.map_betas.specs.Maps.{WellFormed}
use Rattle.map_betas.specs.Cores.{link_core}
use Rattle.map_betas.proofs.AnswerLaws.{not_both, rows_same}
use Rattle.map_betas.proofs.Kept.{link_changes}
use Rattle.map_betas.proofs.Always.{link_formed, link_length}
use Rattle.map_betas.proofs.BetaLaws.{opp_high}
use Rattle.cell_steps.specs.Steps.{step, image, vertex}
use Rattle.cell_steps.specs.Search.{Step, Reach}
use Rattle.cell_steps.specs.Cgal.{Orbit, vertexΦ}
use Rattle.cell_steps.specs.Idents.{cell_of}
use Rattle.cell_steps.specs.declared.cells.Class.TheVariants.{Vertex}
use Rattle.cell_steps.proofs.StepLaws.{Each, each_at}
use Rattle.cell_steps.proofs.CgalLaws.{at0, at2, at4, at5, vertex_serves}
use Rattle.cell_steps.proofs.JoinLaws.{Sides, Joins, together, joined_cell}
use Rattle.sew_ground.specs.One.{both_three, one_far, one_links}
use Rattle.sew_ground.proofs.OneLaws.{both_left, both_right}
use Rattle.sew_ground.proofs.OneBack.{LinksWay, stopped, single, turned, double, links_way, links_formed}
use Rattle.sew_sums.proofs.AddLaws.{Adds, Linked, link_adds, adds_on, adds_as, adds_step}
use Rattle.std.specs.Prelude.{is_ok, max}

-- ---- links by beta 1, whatever their pairs

-- y stands behind x now: by beta 1 of x, and by beta 0 of y
abbrev pub Behind : (ℕ → ℕ → Type 0) → ℕ → ℕ → ℕ → Type 0
Behind P k x y = ((k ≡ 1) × P x y) ⊎ ((k ≡ 0) × P y x)

-- a corner of x is a dart that beta 2 or beta 3 leads to x
abbrev Corner : List ℕ → ℕ → ℕ → Type 0
Corner rows x c = (beta rows 2 c ≡ x) ⊎ (beta rows 3 c ≡ x)

module _ (rows rows' : List ℕ) (w : WellFormed rows) (P : ℕ → ℕ → Type 0) (adds : Adds rows rows' (Behind P)) (a b : ℕ)
    (met : (x y c : ℕ) → P x y → Corner rows x c → Sides rows vertex a b c y) where
  -- beta 2 and beta 3 are as they were
  same : (j d : ℕ) → 2 ≤ j → j < 4 → beta rows' j d ≡ beta rows j d
  same j d h k = ⊎_elim (λ e. e) (λ n. ⊎_elim (λ q. absurd (omega (arith, q.0))) (λ q. absurd (omega (arith, q.0))) n) (adds.added j d k)

  corner : (j c x : ℕ) → 2 ≤ j → j < 4 → beta rows j c ≡ x → Corner rows x c
  corner j c x h k e =
      by_cases (ℕ_discrete j 2)
      (λ (q : j ≡ 2). inl (ap (λ (i : ℕ). beta rows i c) (sym q) ∙ e))
      (λ (n : j ≢ 2). let q : j ≡ 3 = omega arith in inr (ap (λ (i : ℕ). beta rows i c) (sym q) ∙ e))

  -- beta 1 after beta j: a new image stands behind a dart of which x is a corner
  fore : (j x y : ℕ) → 2 ≤ j → j < 4 → beta rows' 1 (beta rows' j x) ≡ y → (beta rows 1 (beta rows j x) ≡ y) ⊎ Sides rows vertex a b x y
  fore j x y h k e =
      let m : ℕ = beta rows j x in
      let e' : beta rows' 1 m ≡ y = ap (beta rows' 1) (sym (same j x h k)) ∙ e in
      ⊎_elim
      (λ q. inl (sym q ∙ e'))
      (λ n. ⊎_elim (λ q. inr (met m y x (subst (P m) e' q.1) (corner j x m h k refl))) (λ q. absurd (omega (arith, q.0))) n)
      (adds.added 1 m (omega arith))

  -- beta j after beta 0: the way back
  rear : (j x y : ℕ) → 2 ≤ j → j < 4 → beta rows' j (beta rows' 0 x) ≡ y → y ≢ 0 → (beta rows j (beta rows 0 x) ≡ y) ⊎ Sides rows vertex a b x y
  rear j x y h k e n =
      let m : ℕ = beta rows' 0 x in
      let e' : beta rows j m ≡ y = sym (same j m h k) ∙ e in
      let back : beta rows j y ≡ m =
      ap (beta rows j) (sym e') ∙ ap (λ (i : ℕ). beta rows i (beta rows j m)) (sym (opp_high j h)) ∙ w.back j m k (λ z. n (sym e' ∙ z)) in
      ⊎_elim
      (λ q. inl (ap (beta rows j) (sym q) ∙ e'))
      (λ q.
      ⊎_elim
      (λ o. absurd (omega (arith, o.0)))
      (λ o. inr (⊎_elim (λ p. inr (p.1, p.0)) (λ p. inl (p.1, p.0)) (met m x y o.1 (corner j y m h k back))))
      q)
      (adds.added 0 x (omega arith))

  abbrev Goes : ℕ → Type 0
  Goes s = (x y : ℕ) → image rows' s x ≡ y → y ≢ 0 → (image rows s x ≡ y) ⊎ Sides rows vertex a b x y

  -- beta 2 and beta 3, one after the other, are as they were
  neither : (i j x y : ℕ) → 2 ≤ i → i < 4 → 2 ≤ j → j < 4 → beta rows' i (beta rows' j x) ≡ y → beta rows i (beta rows j x) ≡ y
  neither i j x y h k g l e = sym (same i (beta rows j x) h k) ∙ ap (beta rows' i) (sym (same j x g l)) ∙ e

  goes : Each Goes vertex
  unfolding image
  goes =
      let by : (s : ℕ) → Goes s → Goes s = λ s g. g in (
        by (step 1 2) (λ x y e n. fore 2 x y (omega arith) (omega arith) e),
        (
          by (step 2 0) (λ x y e n. rear 2 x y (omega arith) (omega arith) e n),
          (
            by (step 1 3) (λ x y e n. fore 3 x y (omega arith) (omega arith) e),
            (
              by (step 3 0) (λ x y e n. rear 3 x y (omega arith) (omega arith) e n),
              (
                by (step 2 3) (λ x y e n. inl (neither 2 3 x y (omega arith) (omega arith) (omega arith) (omega arith) e)),
                (by (step 3 2) (λ x y e n. inl (neither 3 2 x y (omega arith) (omega arith) (omega arith) (omega arith) e)), tt),
              ),
            ),
          ),
        ),
      )

  crosses : (x y : ℕ) → Step rows' vertex x y → Reach rows vertex x y ⊎ Sides rows vertex a b x y
  crosses x y t =
      ⊎_elim
      (λ e. inl (ReflTransGenᴰ.tail ReflTransGenᴰ.refl (record { by = t.by; listed = t.listed; leads = e; real = t.real })))
      inr
      (each_at Goes vertex goes t.by t.listed x y t.leads t.real)

  behind_joins : Reach rows' vertex a b → Joins rows rows' vertex a b
  behind_joins r = record { kept = adds_step rows rows' (Behind P) adds w vertex vertex_serves.betas; crosses = λ x y e. crosses x y; bridge = r }

-- ---- the links of a 1-sew

module _ (rows : List ℕ) (ld rd : ℕ) (w : WellFormed rows) (dl : Dart (darts rows) 1 ld) (dr : Dart (darts rows) 1 rd)
    (t : is_ok (one_links rows ld rd).answer ≡ true) where
  abbrev rows' : List ℕ
  rows' = (one_links rows ld rd).rows

  abbrev rows₁ : List ℕ
  rows₁ = (link_core rows 1 ld rd).rows

  abbrev l₃ : ℕ
  l₃ = beta rows 3 ld

  abbrev r₃ : ℕ
  r₃ = beta rows 3 rd

  -- rd stands behind ld, and what faces ld behind what faces rd, where both are faced
  abbrev Set : ℕ → ℕ → Type 0
  Set x y = ((x ≡ ld) × (y ≡ rd)) ⊎ ((both_three rows ld rd ≡ true) × (x ≡ r₃) × (y ≡ l₃))

  first_set : (k x y : ℕ) → Linked 1 ld rd k x y → Behind Set k x y
  first_set k x y n = ⊎_elim (λ q. inl (q.0, inl (q.1, q.2))) (λ q. inr (q.0, inl (q.2, q.1))) n

  module _ (a : is_ok (link_core rows 1 ld rd).answer ≡ true) where
    first_adds : Adds rows rows₁ (Linked 1 ld rd)
    first_adds = link_adds rows 1 ld rd w (omega arith) (omega arith) dl dr a

    first_ahead : beta rows₁ 1 ld ≡ rd
    first_ahead = (link_changes rows 1 ld rd w (omega arith) (omega arith) dl dr a).left

    module _ (b : both_three rows ld rd ≡ true) (s : is_ok (link_core rows₁ 1 r₃ l₃).answer ≡ true) where
      there : (d : ℕ) → beta rows 3 d ≢ 0 → Dart (darts rows₁) 1 (beta rows 3 d)
      there d n =
          record { allowed = omega arith; below = omega (arith, link_length rows 1 ld rd w (omega arith) (omega arith) dl dr, w.below 3 d) }

      second_adds : Adds rows₁ (link_core rows₁ 1 r₃ l₃).rows (Linked 1 r₃ l₃)
      second_adds =
          link_adds rows₁ 1 r₃ l₃ (link_formed rows 1 ld rd w (omega arith) (omega arith) dl dr) (omega arith) (omega arith)
          (there rd (both_right rows ld rd b)) (there ld (both_left rows ld rd b)) s

      second_set : (k x y : ℕ) → Linked 1 ld rd k x y ⊎ Linked 1 r₃ l₃ k x y → Behind Set k x y
      second_set k x y n =
          ⊎_elim (first_set k x y)
          (λ m. ⊎_elim (λ q. inl (q.0, inr (b, q.1, q.2))) (λ q. inr (q.0, inr (b, q.2, q.1))) m) n

  -- what the links add, and that rd stands behind ld
  pub links_add : Adds rows rows' (Behind Set) × (beta rows' 1 ld ≡ rd)
  links_add = go (links_way rows ld rd)
    where
      go : LinksWay rows ld rd → Adds rows rows' (Behind Set) × (beta rows' 1 ld ≡ rd)
      go (stopped a e) = absurd (not_both _ _ e a t)
      go (single a b e) = rw (rows_same _ _ e) (adds_as _ _ _ _ first_set (first_adds a), first_ahead a)
      go (turned a s e) = absurd (not_both _ _ e s t)
      go (double a b s e) =
          let n : beta rows₁ 1 ld ≢ 0 = λ z. absurd (omega (arith, first_ahead a, z, dr.allowed)) in
          rw (rows_same _ _ e) (
            adds_as _ _ _ _ (second_set a b s) (adds_on _ _ _ _ _ (first_adds a) (second_adds a b s)),
            (second_adds a b s).kept 1 ld (omega arith) n ∙ first_ahead a,
          )

  abbrev far : ℕ
  far = one_far rows ld

  real_l : ld ≢ 0
  real_l z = absurd (omega (arith, dl.allowed))

  real_r : rd ≢ 0
  real_r z = absurd (omega (arith, dr.allowed))

  still : (j p : ℕ) → j < 4 → beta rows j p ≡ ld → beta rows' j p ≡ ld
  still j p k e = links_add.0.kept j p k (λ z. real_l (sym e ∙ z)) ∙ e

  -- beta 2 and beta 3 lead back
  back : (j c x : ℕ) → 2 ≤ j → j < 4 → beta rows j c ≡ x → x ≢ 0 → beta rows j x ≡ c
  back j c x h k e n =
      ap (beta rows j) (sym e) ∙ ap (λ (i : ℕ). beta rows i (beta rows j c)) (sym (opp_high j h)) ∙ w.back j c k (λ z. n (sym e ∙ z))

  not_null : (j c x : ℕ) → j < 4 → beta rows j c ≡ x → x ≢ 0 → c ≢ 0
  not_null j c x k e n z = n (sym e ∙ ap (beta rows j) z ∙ w.null j k)

  -- the two steps between darts that beta 2 and beta 3 lead to from one
  from_three : (p x q : ℕ) → beta rows 3 p ≡ x → beta rows 2 x ≡ q → q ≢ 0 → Reach rows vertex p q
  unfolding image
  from_three p x q e f n =
      ReflTransGenᴰ.tail ReflTransGenᴰ.refl (record { by = step 2 3; listed = at4; leads = ap (beta rows 2) e ∙ f; real = n })

  from_two : (p x q : ℕ) → beta rows 2 p ≡ x → beta rows 3 x ≡ q → q ≢ 0 → Reach rows vertex p q
  unfolding image
  from_two p x q e f n =
      ReflTransGenᴰ.tail ReflTransGenᴰ.refl (record { by = step 3 2; listed = at5; leads = ap (beta rows 3) e ∙ f; real = n })

  -- the far end is the one or the other of what faces ld and lies across from it
  which : ((far ≡ l₃) × (l₃ ≢ 0)) ⊎ ((far ≡ beta rows 2 ld) × (beta rows 2 ld ≡ 0 → l₃ ≡ 0))
  which =
      by_cases (dec_lt (beta rows 2 ld) l₃)
      (λ (h : beta rows 2 ld < l₃). inl (omega arith, λ z. absurd (omega arith)))
      (λ (h : beta rows 2 ld < l₃ → ⊥). inr (omega arith, λ z. omega arith))

  -- both are in its vertex
  near_three : l₃ ≢ 0 → Reach rows vertex far l₃
  near_three n =
      ⊎_elim
      (λ q. subst (λ (x : ℕ). Reach rows vertex x l₃) (sym q.0) ReflTransGenᴰ.refl)
      (λ q.
      let two : beta rows 2 ld ≢ 0 = λ z. n (q.1 z) in
      subst (λ (x : ℕ). Reach rows vertex x l₃) (sym q.0)
      (from_two (beta rows 2 ld) ld l₃ (back 2 ld (beta rows 2 ld) (omega arith) (omega arith) refl two) refl n))
      which

  near_two : beta rows 2 ld ≢ 0 → Reach rows vertex far (beta rows 2 ld)
  near_two n =
      ⊎_elim
      (λ q.
      subst (λ (x : ℕ). Reach rows vertex x (beta rows 2 ld)) (sym q.0)
      (from_three l₃ ld (beta rows 2 ld) (back 3 ld l₃ (omega arith) (omega arith) refl q.1) refl n))
      (λ q. subst (λ (x : ℕ). Reach rows vertex x (beta rows 2 ld)) (sym q.0) ReflTransGenᴰ.refl)
      which

  -- the corners of ld are in the vertex of the far end, and those of what faces rd in the vertex of rd
  corner_l : (c : ℕ) → Corner rows ld c → Reach rows vertex far c
  corner_l c (inl e) =
      let q = back 2 c ld (omega arith) (omega arith) e real_l in
      subst (Reach rows vertex far) q (near_two (λ z. not_null 2 c ld (omega arith) e real_l (sym q ∙ z)))
  corner_l c (inr e) =
      let q = back 3 c ld (omega arith) (omega arith) e real_l in
      subst (Reach rows vertex far) q (near_three (λ z. not_null 3 c ld (omega arith) e real_l (sym q ∙ z)))

  corner_r : (c : ℕ) → r₃ ≢ 0 → Corner rows r₃ c → Reach rows vertex rd c
  corner_r c n (inl e) = from_three rd r₃ c refl (back 2 c r₃ (omega arith) (omega arith) e n) (not_null 2 c r₃ (omega arith) e n)
  corner_r c n (inr e) =
      subst (Reach rows vertex rd) (sym (back 3 rd r₃ (omega arith) (omega arith) refl n) ∙ back 3 c r₃ (omega arith) (omega arith) e n) ReflTransGenᴰ.refl

  met : (x y c : ℕ) → Set x y → Corner rows x c → Sides rows vertex far rd c y
  met x y c (inl q) k =
      inl (corner_l c (subst (λ (v : ℕ). Corner rows v c) q.0 k), subst (Reach rows vertex rd) (sym q.1) ReflTransGenᴰ.refl)
  met x y c (inr q) k =
      inr (
        corner_r c (both_right rows ld rd q.0) (subst (λ (v : ℕ). Corner rows v c) q.1 k),
        subst (Reach rows vertex far) (sym q.2) (near_three (both_left rows ld rd q.0)),
      )

  -- a step over ld leads from the far end to rd now
  over : (p : ℕ) → Corner rows ld p → Reach rows' vertex p rd
  unfolding image
  over p (inl e) =
      ReflTransGenᴰ.tail ReflTransGenᴰ.refl
      (record { by = step 1 2; listed = at0; leads = ap (beta rows' 1) (still 2 p (omega arith) e) ∙ links_add.1; real = real_r })
  over p (inr e) =
      ReflTransGenᴰ.tail ReflTransGenᴰ.refl
      (record { by = step 1 3; listed = at2; leads = ap (beta rows' 1) (still 3 p (omega arith) e) ∙ links_add.1; real = real_r })

  module _ (n : far ≢ 0) where
    far_corner : Corner rows ld far
    far_corner =
        ⊎_elim
        (λ q. inr (ap (beta rows 3) q.0 ∙ back 3 ld l₃ (omega arith) (omega arith) refl q.1))
        (λ q. inl (ap (beta rows 2) q.0 ∙ back 2 ld (beta rows 2 ld) (omega arith) (omega arith) refl (λ z. n (q.0 ∙ z))))
        which

    pub vertex_joins : Joins rows rows' vertex far rd
    vertex_joins = behind_joins rows rows' w Set links_add.0 far rd met (over far far_corner)

    pub vertex_cell : (cell_of Vertex rows far).least ≢ (cell_of Vertex rows rd).least → (x : ℕ) → Orbit rows vertexΦ far x ⊎ Orbit rows vertexΦ rd x →
        cell_of Vertex rows' x ≡ together (cell_of Vertex rows far) (cell_of Vertex rows rd)
    vertex_cell =
        let k = links_formed rows ld rd w dl dr in
        let far_below : max l₃ (beta rows 2 ld) < darts rows = omega (arith, w.below 3 ld, w.below 2 ld) in
        joined_cell Vertex vertexΦ vertex_serves rows rows' far rd w k.0 vertex_joins (ap (λ (m : ℕ). m / 4) k.1) far_below dr.below n real_r
