-- What an edge adds to the queue of a list.
--   Following, following-..   the loop of `follow_arm`: the darts of the arm that are met stand behind the queue
--   first_new, second_new, joined_round, joined_open   both arms, one after the other
--   edge_norep    no dart of an edge is in a closed list that d is not in
--   edge_joined   a closed list and the walk of an edge: the whole edge has joined it
-- Assumes nothing.
use Prim.Native.Nat.{ℕ, ◌+◌, ◌-◌, ◌<◌}
use native.Mathlib.Omega.{arith}
use mathlib.Core.Path.{◌≡◌, refl, sym, ap, ◌∙◌, subst}
use mathlib.Core.Logic.{◌≢◌, inl, inr, ⊎_elim}
use mathlib.Core.List.{List, [], ◌∷◌, ◌++◌, append_assoc}
use mathlib.Core.List.Memᴰ
use lib.ListN.{length, take, drop, length-append}
use Rattle.map_betas.specs.Betas.{beta, darts}
use Rattle.map_betas.specs.Maps.{WellFormed}
use Rattle.cell_steps.specs.declared.cells.Class.TheVariants.{Edge}
use Rattle.cell_steps.specs.Steps.{edge}
use Rattle.cell_steps.specs.Search.{In, NoRep}
use Rattle.cell_steps.specs.Loans.{Queue, Grown}
use Rattle.cell_steps.proofs.Lists.{norep_parts, norep_join}
use Rattle.cell_steps.proofs.OrbitLaws.{closed_reach}
use Rattle.cell_steps.proofs.CgalLaws.{class_symmetric}
use Rattle.cell_steps.proofs.IdentLaws.{reach_symm}
use Rattle.cell_steps.proofs.TurnLaws.{drop_more}
use Rattle.cell_edges.specs.Arms.{arm_of, end_of, others, edge_walk}
use Rattle.cell_edges.proofs.ArmLaws.{Over, others_round, others_open}
use Rattle.cell_edges.proofs.WalkLaws.{walk_once}
use Rattle.cell_edges.proofs.AlongLaws.{Along, along_on, along_next, along_turn, along_ends}
use Rattle.cell_joins.specs.Joins.{Whole, Joined}
use Rattle.cell_joins.proofs.PushLaws.{grown_both}

-- ---- the loop

pub record Following (rows : List ℕ) (i d : ℕ) (marks₀ queue₀ : List ℕ) (k₀ : ℕ) (marks queue : List ℕ) (k x by : ℕ) : Type 0 where
  pub seen : List ℕ
  pub along : Along rows i d seen by x
  pub marks_n : length marks ≡ length marks₀
  pub queue_same : length queue ≡ length queue₀
  pub front : take k queue ≡ take k₀ queue₀ ++ seen
  pub back : drop k queue ≡ drop k queue₀
  pub counted : k ≡ k₀ + length seen
  pub held : Queue marks queue k

module _ (rows : List ℕ) (w : WellFormed rows) (i d : ℕ) (lt : d < darts rows) (i-edge : In i edge) (marks₀ queue₀ : List ℕ) (k₀ : ℕ) where
  module _ (marks queue : List ℕ) (k x by y : ℕ) (v : Following rows i d marks₀ queue₀ k₀ marks queue k x by) (y-is : y ≡ beta rows by x) where
    module _ (n : y ≢ 0) (o : y ≢ d) where
      pub following_on : k < darts rows + k₀
      following_on = let h = along_on rows w i d lt i-edge v.seen by x y v.along y-is n o in let c = v.counted in omega arith

      -- no dart of the arm is there before it is met
      pub following_new : NoRep (take k₀ queue₀ ++ arm_of rows i d) → In y (take k queue) → ⊥
      following_new r m =
          let e = along_next rows w i d lt i-edge v.seen by x y v.along y-is n o in
          let p : NoRep ((take k₀ queue₀ ++ v.seen) ++ _) =
          subst NoRep (ap (λ (l : List ℕ). take k₀ queue₀ ++ l) e ∙ sym (append_assoc (take k₀ queue₀) v.seen _)) r in
          (norep_parts (take k₀ queue₀ ++ v.seen) _ p).2 y (subst (λ (l : List ℕ). In y l) v.front m) (Memᴰ.head refl)

      pub following_turn : (marks' queue' : List ℕ) → length marks' ≡ length marks → length queue' ≡ length queue →
          Grown queue k (take k queue ++ (y ∷ [])) marks' queue' (k + 1) → (by' : ℕ) → by' ≡ 5 - by →
          Following rows i d marks₀ queue₀ k₀ marks' queue' (k + 1) y by'
      following_turn marks' queue' e-m e-q g by' b =
          record {
            seen = v.seen ++ (y ∷ []);
            along = along_turn rows w i d lt i-edge v.seen by x y v.along y-is n o by' b;
            marks_n = e-m ∙ v.marks_n;
            queue_same = e-q ∙ v.queue_same;
            front = g.front ∙ ap (λ (l : List ℕ). l ++ (y ∷ [])) v.front ∙ append_assoc (take k₀ queue₀) v.seen (y ∷ []);
            back = g.back ∙ drop_more queue queue₀ k (k + 1) g.more v.back;
            counted = let s = length-append v.seen (y ∷ []) in let c = v.counted in omega arith;
            held = g.queue;
          }

    pub following_ends : Over d y → Grown queue₀ k₀ (take k₀ queue₀ ++ arm_of rows i d) marks queue k × (y ≡ end_of rows i d)
    following_ends o =
        let e = along_ends rows w i d lt i-edge v.seen by x y v.along y-is o in (
          record {
            front = v.front ∙ ap (λ (l : List ℕ). take k₀ queue₀ ++ l) e.0;
            back = v.back;
            more = let c = v.counted in omega arith;
            queue = v.held;
          },
          e.1,
        )

-- ---- both arms, one after the other

module _ (rows : List ℕ) (d : ℕ) (queue : List ℕ) (k : ℕ) (r : NoRep (take k queue ++ others rows d)) where
  -- none of the first arm is there
  pub first_new : NoRep (take k queue ++ arm_of rows 2 d)
  unfolding others
  first_new = (norep_parts (take k queue ++ arm_of rows 2 d) _ (subst NoRep (sym (append_assoc (take k queue) (arm_of rows 2 d) _)) r)).0

  module _ (marks₁ queue₁ : List ℕ) (k₁ : ℕ) (g : Grown queue k (take k queue ++ arm_of rows 2 d) marks₁ queue₁ k₁) (e : ℕ) (e-is : e ≡ end_of rows 2 d) where
    pub joined_round : e ≢ 0 → Grown queue k (take k queue ++ others rows d) marks₁ queue₁ k₁
    joined_round n =
        subst (λ (l : List ℕ). Grown queue k (take k queue ++ l) marks₁ queue₁ k₁) (sym (others_round rows d (λ z. n (e-is ∙ z)))) g

    module _ (z : e ≡ 0) where
      open_is : take k₁ queue₁ ++ arm_of rows 3 d ≡ take k queue ++ others rows d
      open_is =
          ap (λ (l : List ℕ). l ++ arm_of rows 3 d) g.front
          ∙ append_assoc (take k queue) (arm_of rows 2 d) (arm_of rows 3 d)
          ∙ ap (λ (l : List ℕ). take k queue ++ l) (sym (others_open rows d (sym e-is ∙ z)))

      -- and none of the second
      pub second_new : NoRep (take k₁ queue₁ ++ arm_of rows 3 d)
      second_new = rw open_is r

      pub joined_open : (marks₂ queue₂ : List ℕ) (k₂ : ℕ) → Grown queue₁ k₁ (take k₁ queue₁ ++ arm_of rows 3 d) marks₂ queue₂ k₂ →
          Grown queue k (take k queue ++ others rows d) marks₂ queue₂ k₂
      joined_open marks₂ queue₂ k₂ h =
          grown_both queue k _ marks₁ queue₁ k₁ _ marks₂ queue₂ k₂ g
          (subst (λ (l : List ℕ). Grown queue₁ k₁ l marks₂ queue₂ k₂) open_is h)

-- ---- a closed list and the walk of an edge

module _ (rows : List ℕ) (w : WellFormed rows) (d : ℕ) (lt : d < darts rows) (l : List ℕ) (c : Whole rows edge l) where
  -- an edge that d is not in before has none of its darts there
  pub edge_norep : NoRep l → (In d l → ⊥) → NoRep (l ++ edge_walk rows d)
  edge_norep n out =
      let o = walk_once rows w d lt in
      norep_join l (edge_walk rows d) n o.norep
      (λ x m k. out (closed_reach rows edge l c.image_in m (reach_symm rows edge (class_symmetric rows w Edge) (o.only x k))))

  pub edge_joined : Joined rows edge d l (l ++ edge_walk rows d)
  edge_joined =
      let o = walk_once rows w d lt in
      record {
        only = λ x m. ⊎_elim inl (λ k. inr (o.only x k)) (Memᴰ.append_cases l m);
        old = λ x m. Memᴰ.append_left (edge_walk rows d) m;
        every = λ x r. Memᴰ.append_right l (o.every x r);
      }
