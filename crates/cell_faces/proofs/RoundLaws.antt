-- The walk round the chain of a regular face, which puts its darts and their beta 3 images behind those that are done with.
--   round_on, round_last, round_null   the step laws of the walk
--   round_joins              where the test passes it adds exactly the darts that the face's steps reach
--   Rounding, rounding-..    the loop of `go_round`
-- Assumes nothing.
use Prim.Native.Nat.{ℕ, zero, suc, ◌+◌, ◌-◌, ◌≤◌, ◌<◌}
use native.Mathlib.Nat.{le_refl}
use native.Mathlib.Omega.{arith}
use native.Mathlib.Decide.{dec_lt, ℕ_discrete}
use mathlib.Core.Path.{◌≡◌, refl, sym, ap, ◌∙◌, subst}
use mathlib.Core.Bool.{true}
use mathlib.Core.Logic.{◌≢◌, ◌⊎◌, inl, inr, ⊎_elim, by_cases}
use mathlib.Core.List.Memᴰ
use mathlib.Core.List.{List}
use mathlib.Mathlib.Logic.Relation.ReflTransGenᴰ
use lib.Dec.{lit<}
use lib.ListN.{length, take}
use borrow.Author.Tests.{eq-eqb, ne_eqb}
use Rattle.map_betas.specs.Betas.{beta, darts}
use Rattle.map_betas.specs.Maps.{WellFormed}
use Rattle.map_betas.specs.Chains.{far, Chain, first, on, back}
use Rattle.map_betas.proofs.Chains.{Ends, far_zero, far_suc, far_last, chain_far, chain_round}
use Rattle.cell_steps.specs.Steps.{image, face}
use Rattle.cell_steps.specs.Search.{In, add, Reach}
use Rattle.cell_steps.specs.Loans.{Queue, Grown}
use Rattle.cell_steps.proofs.ChainLaws.{going_real, Enough, enough_starts, enough_one, enough_on, ahead, ahead_falls}
use Rattle.cell_steps.proofs.SearchLaws.{Added, null, old, new, added, added_ext, added_has, ext_in}
use Rattle.cell_steps.proofs.IdentLaws.{reach_real}
use Rattle.cell_steps.proofs.QueueLaws.{add_null}
use Rattle.cell_joins.specs.Joins.{Joined}
use Rattle.cell_joins.proofs.PushLaws.{grown_both}
use Rattle.cell_faces.specs.Faces.{Regular, regular}
use Rattle.cell_faces.specs.FaceLists.{round_from, go_round}
use Rattle.cell_faces.proofs.LeastLaws.{round, face_of_chain}
use Rattle.cell_faces.proofs.RegularLaws.{regular_sound}

-- ---- the step laws

module _ (rows : List ℕ) (d f x : ℕ) (s : List ℕ) where
  round_on : (beta rows 1 x ≡ d → ⊥) → round_from rows d (suc f) x s ≡ round_from rows d f (beta rows 1 x) (add (add s x) (beta rows 3 x))
  unfolding round_from
  round_on n = simp (ne_eqb (beta rows 1 x) d n)

  round_last : beta rows 1 x ≡ d → round_from rows d (suc f) x s ≡ add (add s x) (beta rows 3 x)
  unfolding round_from
  round_last e = simp (eq-eqb (beta rows 1 x) d e)

-- null stays where it is, and nothing is put behind s
round_null : (rows : List ℕ) → WellFormed rows → (d f : ℕ) (s : List ℕ) → round_from rows d f 0 s ≡ s
unfolding round_from
round_null rows m d zero s = refl
round_null rows m d (suc f) s =
    let e : add (add s 0) (beta rows 3 0) ≡ s = ap (add (add s 0)) (m.null 3 (lit< tt)) ∙ add_null (add s 0) 0 refl ∙ add_null s 0 refl in
    by_cases (ℕ_discrete (beta rows 1 0) d)
    (λ (q : beta rows 1 0 ≡ d). round_last rows d f 0 s q ∙ e)
    (λ (q : beta rows 1 0 ≢ d).
    round_on rows d f 0 s q
    ∙ ap (λ (t : List ℕ). round_from rows d f (beta rows 1 0) t) e
    ∙ ap (λ (x : ℕ). round_from rows d f x s) (m.null 1 (lit< tt))
    ∙ round_null rows m d f s)

-- ---- what is put behind k

-- s has the darts of k, the first t of d's chain and their beta 3 images, and else only what d reaches
record Passed (rows : List ℕ) (d : ℕ) (k : List ℕ) (t : ℕ) (s : List ℕ) : Type 0 where
  old : (x : ℕ) → In x k → In x s
  only : (x : ℕ) → In x s → In x k ⊎ Reach rows face d x
  here : (u : ℕ) → u < t → In (far rows 1 u d) s
  across : (u : ℕ) → u < t → (beta rows 3 (far rows 1 u d) ≡ 0) ⊎ In (beta rows 3 (far rows 1 u d)) s

added_only : {l m : List ℕ} {x y : ℕ} → Added l x m → In y m → In y l ⊎ ((x ≡ 0 → ⊥) × (y ≡ x))
added_only (null e) i = inl i
added_only (old j) i = inl i
added_only {l} (new a b) i = ⊎_elim inl (λ j. inr (a, Memᴰ.eq_of_singleton j)) (Memᴰ.append_cases l i)

-- the steps of a chain are steps of the face
chain_reach : (rows : List ℕ) (d : ℕ) → {x : ℕ} → Chain rows d x → Reach rows face d x
unfolding image
chain_reach rows d first = ReflTransGenᴰ.refl
chain_reach rows d (on c n) = ReflTransGenᴰ.tail (chain_reach rows d c) (record { by = 1; listed = Memᴰ.head refl; leads = refl; real = n })
chain_reach rows d (back c n) =
    ReflTransGenᴰ.tail (chain_reach rows d c) (record { by = 0; listed = Memᴰ.tail (Memᴰ.head refl); leads = refl; real = n })

module _ (rows : List ℕ) (d : ℕ) (k : List ℕ) where
  passed_starts : Passed rows d k 0 k
  passed_starts = record { old = λ x m. m; only = λ x m. inl m; here = λ u h. absurd (omega arith); across = λ u h. absurd (omega arith) }

  module _ (t : ℕ) (s : List ℕ) (real : far rows 1 t d ≢ 0) (r : Reach rows face d (far rows 1 t d)) (v : Passed rows d k t s) where
    abbrev x : ℕ
    x = far rows 1 t d

    passed_turn : Passed rows d k (suc t) (add (add s x) (beta rows 3 x))
    unfolding image
    passed_turn =
        let p : Added s x (add s x) = added s x in
        let q : Added (add s x) (beta rows 3 x) (add (add s x) (beta rows 3 x)) = added (add s x) (beta rows 3 x) in
        let on : (y : ℕ) → In y s → In y (add (add s x) (beta rows 3 x)) = λ y m. ext_in (added_ext q) (ext_in (added_ext p) m) in
        let at_x : In x (add (add s x) (beta rows 3 x)) = ext_in (added_ext q) (⊎_elim (λ z. absurd (real z)) (λ m. m) (added_has p)) in
        record {
          old = λ y m. on y (v.old y m);
          only = λ y m.
              ⊎_elim
              (λ i. ⊎_elim (v.only y) (λ e. inr (subst (Reach rows face d) (sym e.1) r)) (added_only p i))
              (λ e.
              inr
              (subst (Reach rows face d) (sym e.1)
              (ReflTransGenᴰ.tail r (record { by = 3; listed = Memᴰ.tail (Memᴰ.tail (Memᴰ.head refl)); leads = refl; real = e.0 }))))
              (added_only q m);
          here = λ u h. each (λ (y : ℕ). In y (add (add s x) (beta rows 3 x))) at_x (λ i g. on (far rows 1 i d) (v.here i g)) u h;
          across = λ u h.
              each (λ (y : ℕ). (beta rows 3 y ≡ 0) ⊎ In (beta rows 3 y) (add (add s x) (beta rows 3 x))) (added_has q)
              (λ i g. ⊎_elim inl (λ j. inr (on (beta rows 3 (far rows 1 i d)) j)) (v.across i g)) u h;
        }
      where
        each : (P : ℕ → Type 0) → P x → ((u : ℕ) → u < t → P (far rows 1 u d)) → (u : ℕ) → u < suc t → P (far rows 1 u d)
        each P a b u h =
            by_cases (dec_lt u t) (b u)
            (λ (l : u < t → ⊥).
            let e : u ≡ t = omega arith in
            subst (λ (i : ℕ). P (far rows 1 i d)) (sym e) a)

  module _ (m : WellFormed rows) (lt : d < darts rows) (real : d ≡ 0 → ⊥) (test : regular rows d ≡ true) where
    regular_d : Regular rows d
    regular_d = regular_sound rows m d test

    loop : (n : ℕ) × (n < darts rows) × Ends rows 1 d (beta rows 1 d) n × (far rows 1 (suc n) d ≡ d)
    loop = round rows m d lt real regular_d.closed

    -- the walk goes round
    goes : (f t : ℕ) (s : List ℕ) → t ≤ loop.0 → loop.0 < t + f → Passed rows d k t s →
        Passed rows d k (suc loop.0) (round_from rows d f (far rows 1 t d) s)
    goes zero t s h g v = absurd (omega arith)
    goes (suc f) t s h g v =
        let x-real : far rows 1 t d ≢ 0 = going_real rows m 1 (lit< tt) d real loop.0 loop.2.run t h in
        let p = passed_turn t s x-real (chain_reach rows d (chain_far rows m d 1 (lit< tt) t x-real)) v in
        by_cases (dec_lt t loop.0)
        (λ (l : t < loop.0).
        rw (round_on rows d f (far rows 1 t d) s (λ e. (loop.2.run t l).1 (sym (far_suc rows 1 t d) ∙ far_last rows 1 t d ∙ e)), ← far_last rows 1 t d)
        (goes f (suc t) _ l (omega arith) p))
        (λ (l : t < loop.0 → ⊥).
        let e : suc t ≡ suc loop.0 = omega arith in
        rw (round_last rows d f (far rows 1 t d) s (sym (far_last rows 1 t d) ∙ ap (λ (i : ℕ). far rows 1 i d) e ∙ loop.3), ← e) p)

    went : Passed rows d k (suc loop.0) (go_round rows d k)
    unfolding go_round
    went = let h = loop.1 in rw (far_zero rows 1 d) at (goes (darts rows) 0 k (omega arith) (omega arith) passed_starts)

    pub round_joins : Joined rows face d k (go_round rows d k)
    round_joins =
        let all : (x : ℕ) → Chain rows d x → (t : ℕ) × (t < suc loop.0) × (x ≡ far rows 1 t d) = λ x c. chain_round rows m d real loop.0 loop.3 c in
        record {
          old = went.old;
          only = went.only;
          every = λ x r.
              ⊎_elim
              (λ c. let a = all x c in Memᴰ.cast a.2 (went.here a.0 a.1))
              (λ q.
              let a = all q.0 q.1 in
              let e : beta rows 3 (far rows 1 a.0 d) ≡ x = ap (beta rows 3) (sym a.2) ∙ q.2 in
              ⊎_elim
              (λ z. absurd (reach_real rows face real r (sym e ∙ z)))
              (λ i. Memᴰ.cast (sym e) i)
              (went.across a.0 a.1))
              (face_of_chain rows m d lt real regular_d.closed regular_d.across r);
        }

-- ---- the loop of `go_round`

pub record Rounding (rows : List ℕ) (d : ℕ) (marks₀ queue₀ : List ℕ) (known : ℕ) (marks queue : List ℕ) (k x : ℕ) : Type 0 where
  pub marks_n : length marks ≡ length marks₀
  pub queue_same : length queue ≡ length queue₀
  pub x_lt : x < darts rows
  pub left : ℕ
  pub enough : Enough rows d left x
  pub still : round_from rows d left x (take k queue) ≡ go_round rows d (take known queue₀)
  pub grown : Grown queue₀ known (take k queue) marks queue k

module _ (rows : List ℕ) (m : WellFormed rows) (d : ℕ) (marks₀ queue₀ : List ℕ) (known : ℕ) where
  pub rounding_starts : Queue marks₀ queue₀ known → d < darts rows → Rounding rows d marks₀ queue₀ known marks₀ queue₀ known d
  unfolding go_round
  rounding_starts q lt =
      record {
        marks_n = refl;
        queue_same = refl;
        x_lt = lt;
        left = darts rows;
        enough = enough_starts rows m d lt;
        still = refl;
        grown = record { front = refl; back = refl; more = le_refl known; queue = q };
      }

  -- a turn's two pushes
  module _ (marks queue : List ℕ) (k x : ℕ) (v : Rounding rows d marks₀ queue₀ known marks queue k x) (y : ℕ) (e-y : y ≡ beta rows 3 x)
      (m₁ q₁ : List ℕ) (a : ℕ) (g₁ : Grown queue k (add (take k queue) x) m₁ q₁ a) (m₂ q₂ : List ℕ) (r : ℕ) (g₂ : Grown q₁ a (add (take a q₁) y) m₂ q₂ r) where
    both : Grown queue₀ known (add (add (take k queue) x) (beta rows 3 x)) m₂ q₂ r
    both =
        subst (λ (t : List ℕ). Grown queue₀ known t m₂ q₂ r) (ap (λ (t : List ℕ). add t y) g₁.front ∙ ap (add (add (take k queue) x)) e-y)
        (grown_both queue₀ known _ m₁ q₁ a _ m₂ q₂ r (grown_both queue₀ known _ marks queue k _ m₁ q₁ a v.grown g₁) g₂)

    abbrev f : ℕ
    f = v.left - 1

    still_suc : round_from rows d (suc f) x (take k queue) ≡ go_round rows d (take known queue₀)
    still_suc = ap (λ (i : ℕ). round_from rows d i x (take k queue)) (sym (enough_one rows d v.left x v.enough)) ∙ v.still

    ends_at : (t : List ℕ) → round_from rows d (suc f) x (take k queue) ≡ t → t ≡ add (add (take k queue) x) (beta rows 3 x) →
        Grown queue₀ known (go_round rows d (take known queue₀)) m₂ q₂ r
    ends_at t e q = subst (λ (s : List ℕ). Grown queue₀ known s m₂ q₂ r) (sym q ∙ sym e ∙ still_suc) both

    module _ (x' : ℕ) (e-x : x' ≡ beta rows 1 x) where
      pub rounding_ends : x' ≡ d → Grown queue₀ known (go_round rows d (take known queue₀)) m₂ q₂ r
      rounding_ends e = ends_at _ (round_last rows d f x (take k queue) (sym e-x ∙ e)) refl

      module _ (n : x' ≡ d → ⊥) where
        goes_on : round_from rows d (suc f) x (take k queue) ≡ round_from rows d f x' (add (add (take k queue) x) (beta rows 3 x))
        goes_on =
            round_on rows d f x (take k queue) (λ z. n (e-x ∙ z))
            ∙ ap (λ (z : ℕ). round_from rows d f z (add (add (take k queue) x) (beta rows 3 x))) (sym e-x)

        pub rounding_null : x' ≡ 0 → Grown queue₀ known (go_round rows d (take known queue₀)) m₂ q₂ r
        rounding_null z =
            ends_at _ goes_on
            (ap (λ (i : ℕ). round_from rows d f i (add (add (take k queue) x) (beta rows 3 x))) z
            ∙ round_null rows m d f (add (add (take k queue) x) (beta rows 3 x)))

        module _ (real : x' ≡ 0 → ⊥) where
          pub rounding_falls : ahead rows d x' < ahead rows d x
          rounding_falls = ahead_falls rows d v.left x v.enough x' e-x real n

          pub rounding_turn : length m₁ ≡ length marks → length q₁ ≡ length queue → length m₂ ≡ length m₁ → length q₂ ≡ length q₁ →
              Rounding rows d marks₀ queue₀ known m₂ q₂ r x'
          rounding_turn e-m₁ e-q₁ e-m₂ e-q₂ =
              record {
                marks_n = e-m₂ ∙ e-m₁ ∙ v.marks_n;
                queue_same = e-q₂ ∙ e-q₁ ∙ v.queue_same;
                x_lt = rw e-x (m.below _ _);
                left = f;
                enough = enough_on rows d v.left x v.enough x' e-x real n;
                still = ap (λ (t : List ℕ). round_from rows d f x' t) both.front ∙ sym goes_on ∙ still_suc;
                grown = record { front = refl; back = both.back; more = both.more; queue = both.queue };
              }
