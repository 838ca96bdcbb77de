-- The walk along an edge, both ways from d, meets every dart of the edge exactly once, whether the edge is round or open.
--   Once rows steps d l     l holds what the steps reach from d, each dart once
--   Walking Left l x by     the darts l are met, x is the last of them, and beta `by` leads on; what `Left` says of is left for later
--   walking_turn            one dart more
--   first_arm               an arm of d by itself
--   round_closed, open_closed   the walk has come to all that its darts lead to
--   walk_once               the walk of the whole edge
--   arm_over                each arm ends in null or at d
-- Assumes nothing.
use Prim.Native.Nat.{ℕ, ◌-◌, ◌≤◌, ◌<◌}
use native.Mathlib.Omega.{arith}
use native.Mathlib.Decide.{ℕ_discrete}
use mathlib.Core.Path.{◌≡◌, refl, sym, ap, ◌∙◌, subst}
use mathlib.Core.Logic.{◌≢◌, ◌⊎◌, inl, inr, ⊎_elim, by_cases}
use mathlib.Core.Bool.{Bool, true, false, cond}
use mathlib.Core.List.Memᴰ
use mathlib.Core.List.{List, [], ◌∷◌, ◌++◌}
use mathlib.Mathlib.Logic.Relation.ReflTransGenᴰ
use lib.Dec.{eqb}
use lib.ListN.{length}
use Rattle.map_betas.specs.Betas.{beta, darts}
use Rattle.map_betas.specs.Maps.{WellFormed}
use Rattle.cell_steps.specs.Steps.{edge}
use Rattle.cell_steps.specs.Search.{In, NoRep, Reach}
use Rattle.cell_steps.proofs.Lists.{norep_snoc, pigeonhole}
use Rattle.cell_steps.proofs.OrbitLaws.{closed_reach}
use Rattle.cell_steps.proofs.IdentLaws.{reach_below, reach_real}
use Rattle.cell_edges.specs.Arms.{arm_of, end_of, others, edge_walk}
use Rattle.cell_edges.proofs.ArmLaws.{edge_image, other_edge, not_other, one_or_other, edge_less, edge_back, edge_moved}
use Rattle.cell_edges.proofs.ArmLaws.{Over, arm_stops, end_stops, others_round, others_open, Went, arm_went}

-- l holds what the steps reach from d, each dart once
pub record Once (rows steps : List ℕ) (d : ℕ) (l : List ℕ) : Type 0 where
  pub norep : NoRep l
  pub only : (x : ℕ) → In x l → Reach rows steps d x
  pub every : (x : ℕ) → Reach rows steps d x → In x l

-- what a step of an edge leads to is null or in l
abbrev Held : List ℕ → List ℕ → Type 0
Held rows l = (y j : ℕ) → In y l → In j edge → (beta rows j y ≡ 0) ⊎ In (beta rows j y) l

held_every : (rows : List ℕ) (d : ℕ) (l : List ℕ) → Held rows l → In d l → (x : ℕ) → Reach rows edge d x → In x l
held_every rows d l h m x r =
    closed_reach rows edge l
    (λ y n s t. ⊎_elim (λ z. inl (edge_image rows s y t ∙ z)) (λ o. inr (Memᴰ.cast (edge_image rows s y t) o)) (h y s n t))
    m r

module _ (rows : List ℕ) (w : WellFormed rows) (d : ℕ) (lt : d < darts rows) (real : d ≢ 0) where
  -- ---- one dart more

  record Walking (Left : ℕ → ℕ → Type 0) (l : List ℕ) (x by : ℕ) : Type 0 where
    norep : NoRep l
    by_edge : In by edge
    here : In x l
    only : (y : ℕ) → In y l → Reach rows edge d y
    next : (y j : ℕ) → In y l → In j edge → ((y ≡ x) × (j ≡ by)) ⊎ (Left y j ⊎ In (beta rows j y) l)
    fresh : (y : ℕ) → In y l → (Left y by → ⊥) → beta rows by y ≢ x

  met_few : (Left : ℕ → ℕ → Type 0) (l : List ℕ) (x by : ℕ) → Walking Left l x by → length l ≤ darts rows
  met_few Left l x by v = pigeonhole (darts rows) l v.norep (λ y m. reach_below rows edge w.below d lt (v.only y m))

  -- what is left is left at d, or leads to null
  module _ (Left : ℕ → ℕ → Type 0) (left-ends : (y j : ℕ) → Left y j → (y ≡ d) ⊎ (beta rows j y ≡ 0)) (l : List ℕ) (x by : ℕ) (v : Walking Left l x by)
      (n : beta rows by x ≢ 0) (o : beta rows by x ≢ d) where
    abbrev y : ℕ
    y = beta rows by x

    abbrev l' : List ℕ
    l' = l ++ (y ∷ [])

    back_x : beta rows by y ≡ x
    back_x = edge_back rows w by x v.by_edge n

    new : In y l → ⊥
    new m =
        v.fresh y m
        (λ q.
        ⊎_elim o
        (λ z. reach_real rows edge real (v.only x v.here) (sym back_x ∙ z))
        (left-ends y by q))
        back_x

    at_last : In y l'
    at_last = Memᴰ.append_right l (Memᴰ.head refl)

    reached : Reach rows edge d y
    reached =
        ReflTransGenᴰ.tail (v.only x v.here) (record { by = by; listed = v.by_edge; leads = edge_image rows by x v.by_edge; real = n })

    next_more : (z j : ℕ) → In z l' → In j edge → ((z ≡ y) × (j ≡ 5 - by)) ⊎ (Left z j ⊎ In (beta rows j z) l')
    next_more z j m t =
        ⊎_elim
        (λ k.
        ⊎_elim
        (λ p. inr (inr (Memᴰ.cast (ap (λ (c : ℕ). beta rows c z) p.1 ∙ ap (beta rows by) p.0) at_last)))
        (λ p. inr (⊎_elim inl (λ q. inr (Memᴰ.append_left (y ∷ []) q)) p))
        (v.next z j k t))
        (λ k.
        let e : z ≡ y = Memᴰ.eq_of_singleton k in
        ⊎_elim
        (λ f. inr (inr (Memᴰ.cast (ap (λ (c : ℕ). beta rows c z) f ∙ ap (beta rows by) e ∙ back_x) (Memᴰ.append_left (y ∷ []) v.here))))
        (λ f. inl (e, f))
        (one_or_other v.by_edge t))
        (Memᴰ.append_cases l m)

    fresh_more : (z : ℕ) → In z l' → (Left z (5 - by) → ⊥) → beta rows (5 - by) z ≢ y
    fresh_more z m a e =
        ⊎_elim
        (λ k.
        ⊎_elim
        (λ p. not_other v.by_edge (sym p.1))
        (λ p. ⊎_elim a (λ q. new (Memᴰ.cast (sym e) q)) p)
        (v.next z (5 - by) k (other_edge v.by_edge)))
        (λ k. edge_moved rows w (5 - by) y (other_edge v.by_edge) n (ap (beta rows (5 - by)) (sym (Memᴰ.eq_of_singleton k)) ∙ e))
        (Memᴰ.append_cases l m)

    walking_turn : Walking Left l' y (5 - by)
    walking_turn =
        record {
          norep = norep_snoc l y v.norep new;
          by_edge = other_edge v.by_edge;
          here = at_last;
          only = λ z m. ⊎_elim (v.only z) (λ q. subst (Reach rows edge d) (sym (Memᴰ.eq_of_singleton q)) reached) (Memᴰ.append_cases l m);
          next = next_more;
          fresh = fresh_more;
        }

  -- ---- an arm of d by itself

  module _ (i : ℕ) (i-edge : In i edge) where
    -- the step from d by the other beta is left for the second arm
    abbrev Second : ℕ → ℕ → Type 0
    Second y j = (y ≡ d) × (j ≡ 5 - i)

    -- nothing but the last dart leads to d by the other beta
    record Apart (l : List ℕ) (x by : ℕ) : Type 0 where
      at_d : x ≡ d → by ≡ i
      to_d : (y : ℕ) → In y l → beta rows (5 - i) y ≡ d → (y ≡ x) × (by ≡ 5 - i)

    abbrev Arming : List ℕ → ℕ → ℕ → Type 0
    Arming l x by = Walking Second l x by × Apart l x by

    starts : Arming (d ∷ []) d i
    starts = (
      record {
        norep = (Memᴰ.not-nil, tt);
        by_edge = i-edge;
        here = Memᴰ.head refl;
        only = λ y m. subst (Reach rows edge d) (sym (Memᴰ.eq_of_singleton m)) ReflTransGenᴰ.refl;
        next = λ y j m t.
            let e = Memᴰ.eq_of_singleton m in
            ⊎_elim (λ f. inl (e, f)) (λ f. inr (inl (e, f))) (one_or_other i-edge t);
        fresh = λ y m a e. edge_moved rows w i d i-edge real (ap (beta rows i) (sym (Memᴰ.eq_of_singleton m)) ∙ e);
      },
      record {
        at_d = λ e. refl;
        to_d = λ y m e.
            absurd (edge_moved rows w (5 - i) d (other_edge i-edge) real (ap (beta rows (5 - i)) (sym (Memᴰ.eq_of_singleton m)) ∙ e));
      },
    )

    apart_turn : (l : List ℕ) (x by : ℕ) → Arming l x by → beta rows by x ≢ 0 → beta rows by x ≢ d →
        Apart (l ++ (beta rows by x ∷ [])) (beta rows by x) (5 - by)
    apart_turn l x by v n o =
        record {
          at_d = λ e. absurd (o e);
          to_d = λ z m e.
              ⊎_elim
              (λ k.
              let p = v.1.to_d z k e in
              absurd (o (ap (λ (c : ℕ). beta rows c x) p.1 ∙ ap (beta rows (5 - i)) (sym p.0) ∙ e)))
              (λ k.
              let q : z ≡ beta rows by x = Memᴰ.eq_of_singleton k in
              ⊎_elim
              (λ f. (q, ap (λ (c : ℕ). 5 - c) f))
              (λ f.
              let b : x ≡ d =
              sym (edge_back rows w by x v.0.by_edge n) ∙ ap (beta rows by) (sym q) ∙ ap (λ (c : ℕ). beta rows c z) f ∙ e in
              absurd (not_other i-edge (sym (v.1.at_d b) ∙ f)))
              (one_or_other i-edge v.0.by_edge))
              (Memᴰ.append_cases l m);
        }

    first_arm : Went rows d Arming (d ∷ arm_of rows i d) (end_of rows i d)
    first_arm =
        arm_went rows d (darts rows) Arming (λ l x by v. met_few Second l x by v.0)
        (λ l x by v n o. (walking_turn Second (λ y j q. inl q.0) l x by v.0 n o, apart_turn l x by v n o))
        (darts rows) (d ∷ []) d i (omega arith) starts

    -- ---- an edge that is round

    abbrev one : List ℕ
    one = d ∷ arm_of rows i d

    round_closed : end_of rows i d ≡ d → Held rows one
    round_closed e y j m t =
        let v = first_arm.holds.0 in
        let to : beta rows first_arm.by first_arm.last ≡ d = first_arm.leads ∙ e in
        let back : beta rows first_arm.by d ≡ first_arm.last =
        ap (beta rows first_arm.by) (sym to) ∙ edge_back rows w first_arm.by first_arm.last v.by_edge (λ z. real (sym to ∙ z)) in
        ⊎_elim
        (λ p. inr (Memᴰ.cast (ap (λ (c : ℕ). beta rows c y) p.1 ∙ ap (beta rows first_arm.by) p.0 ∙ to) (Memᴰ.head refl)))
        (λ p.
        ⊎_elim
        (λ q.
        ⊎_elim
        (λ f. absurd (v.fresh d (Memᴰ.head refl) (λ s. not_other i-edge (sym f ∙ s.1)) back))
        (λ f. inr (Memᴰ.cast (ap (λ (c : ℕ). beta rows c y) (q.1 ∙ sym f) ∙ ap (beta rows first_arm.by) q.0 ∙ back) v.here))
        (one_or_other i-edge v.by_edge))
        inr
        p)
        (v.next y j m t)

    -- ---- an edge that is open

    module _ (e : end_of rows i d ≡ 0) where
      abbrev Null : ℕ → ℕ → Type 0
      Null y j = beta rows j y ≡ 0

      second_starts : Walking Null one d (5 - i)
      second_starts =
          let v = first_arm.holds.0 in
          let to : beta rows first_arm.by first_arm.last ≡ 0 = first_arm.leads ∙ e in
          record {
            norep = v.norep;
            by_edge = other_edge i-edge;
            here = Memᴰ.head refl;
            only = v.only;
            next = λ y j m t.
                ⊎_elim
                (λ p. inr (inl (ap (λ (c : ℕ). beta rows c y) p.1 ∙ ap (beta rows first_arm.by) p.0 ∙ to)))
                (λ p. ⊎_elim inl (λ q. inr (inr q)) p)
                (v.next y j m t);
            fresh = λ y m a f.
                let p = first_arm.holds.1.to_d y m f in
                a (ap (λ (c : ℕ). beta rows c y) (sym p.1) ∙ ap (beta rows first_arm.by) p.0 ∙ to);
          }

      abbrev both : List ℕ
      both = one ++ arm_of rows (5 - i) d

      second_arm : Went rows d (Walking Null) both (end_of rows (5 - i) d)
      second_arm =
          arm_went rows d (darts rows) (Walking Null) (met_few Null)
          (λ l x by v n o. walking_turn Null (λ y j q. inr q) l x by v n o)
          (darts rows) one d (5 - i) (omega arith) second_starts

      open_closed : Held rows both
      open_closed y j m t =
          let s = second_arm in
          ⊎_elim
          (λ p.
          let f = ap (λ (c : ℕ). beta rows c y) p.1 ∙ ap (beta rows s.by) p.0 ∙ s.leads in
          ⊎_elim (λ z. inl (f ∙ z)) (λ q. inr (Memᴰ.cast (f ∙ q) (Memᴰ.head refl))) s.over)
          (λ q. q)
          (s.holds.next y j m t)

-- ---- the whole edge

module _ (rows : List ℕ) (w : WellFormed rows) where
  -- the null dart stands alone
  null_held : Held rows (0 ∷ [])
  null_held y j m t = inl (ap (beta rows j) (Memᴰ.eq_of_singleton m) ∙ w.null j (edge_less t))

  null_over : (i : ℕ) → In i edge → Over 0 (beta rows i 0)
  null_over i m = inl (w.null i (edge_less m))

  null_walk : edge_walk rows 0 ≡ 0 ∷ []
  unfolding others
  null_walk =
      rw (
        arm_stops rows 0 2 0 (darts rows) (null_over 2 (Memᴰ.head refl)),
        arm_stops rows 0 3 0 (darts rows) (null_over 3 (Memᴰ.tail (Memᴰ.head refl))),
      )
      (ap (λ (l : List ℕ). 0 ∷ l) (same (eqb (end_of rows 2 0) 0) []))
    where
      same : (b : Bool) (l : List ℕ) → cond b l l ≡ l
      same true l = refl
      same false l = refl

  null_once : Once rows edge 0 (edge_walk rows 0)
  null_once =
      rw null_walk
      (record {
        norep = (Memᴰ.not-nil, tt);
        only = λ x m. subst (Reach rows edge 0) (sym (Memᴰ.eq_of_singleton m)) ReflTransGenᴰ.refl;
        every = held_every rows 0 (0 ∷ []) null_held (Memᴰ.head refl);
      })

  module _ (d : ℕ) (lt : d < darts rows) where
    real_once : d ≢ 0 → Once rows edge d (edge_walk rows d)
    real_once n =
        ⊎_elim
        (λ z.
        rw (others_open rows d z)
        (record {
          norep = (second_arm rows w d lt n 2 two z).holds.norep;
          only = (second_arm rows w d lt n 2 two z).holds.only;
          every = held_every rows d _ (open_closed rows w d lt n 2 two z) (Memᴰ.head refl);
        }))
        (λ e.
        rw (others_round rows d (λ z. n (sym e ∙ z)))
        (record {
          norep = first.holds.0.norep;
          only = first.holds.0.only;
          every = held_every rows d _ (round_closed rows w d lt n 2 two e) (Memᴰ.head refl);
        }))
        first.over
      where
        two : In 2 edge
        two = Memᴰ.head refl

        first : Went rows d (Arming rows w d lt n 2 two) (d ∷ arm_of rows 2 d) (end_of rows 2 d)
        first = first_arm rows w d lt n 2 two

    -- the walk of an edge meets every dart of the edge exactly once
    pub walk_once : Once rows edge d (edge_walk rows d)
    walk_once =
        by_cases (ℕ_discrete d 0)
        (λ (z : d ≡ 0). subst (λ (x : ℕ). Once rows edge x (edge_walk rows x)) (sym z) null_once)
        real_once

    -- each arm ends in null or at d
    pub arm_over : (i : ℕ) → In i edge → Over d (end_of rows i d)
    arm_over i m =
        by_cases (ℕ_discrete d 0)
        (λ (z : d ≡ 0). inl (subst (λ (x : ℕ). end_of rows i x ≡ 0) (sym z) (end_stops rows 0 i 0 (darts rows) (null_over i m) ∙ w.null i (edge_less m))))
        (λ (n : d ≢ 0). (first_arm rows w d lt n i m).over)
