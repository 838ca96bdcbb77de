-- Where the chain of d is closed and each of its beta 1 steps is a beta 0 step between the beta 3 images (both null, where none has an image), the
-- face identifier is the least dart of the Face orbit.
--   round           a closed chain comes back to d
--   At, leg_round   the forward leg goes round it, each dart once
--   before_real, across_back   one step back
--   face_of_chain   a closed chain and its beta 3 images are the Face orbit
--   face_least      the claim
-- Assumes nothing.
use mathlib.Core.Path.{◌≡◌, refl, sym, ap, ◌∙◌, subst}
use mathlib.Core.Bool.{Bool, ◌||◌}
use mathlib.Core.Logic.{◌≢◌, ◌⊎◌, inl, inr, ⊎_elim, by_cases}
use mathlib.Core.List.Memᴰ
use mathlib.Core.List.{List, [], ◌∷◌, ◌++◌}
use mathlib.Mathlib.Logic.Relation.ReflTransGenᴰ
use Prim.Native.Nat.{ℕ, zero, suc, ◌+◌, ◌≤◌, ◌<◌}
use native.Mathlib.Nat.{le_trans, le_antisymm, le_of_eq}
use native.Mathlib.Omega.{arith}
use native.Mathlib.Decide.{dec_lt}
use lib.Dec.{lit<}
use Rattle.map_betas.specs.Betas.{beta, darts}
use Rattle.map_betas.specs.Maps.{WellFormed}
use Rattle.map_betas.specs.Chains.{far, Chain, first, on, back}
use Rattle.map_betas.proofs.Chains.{Ends, far_suc, far_last, chain_far, chain_round, round_before}
use Rattle.cell_steps.specs.Idents.{ident}
use Rattle.cell_steps.specs.Search.{In, Reach}
use Rattle.cell_steps.specs.Steps.{image, face}
use Rattle.cell_steps.proofs.ChainLaws.{passed, going_real, not_passed, chain_ends}
use Rattle.cell_steps.proofs.Lists.{mem_not}
use Rattle.cell_steps.proofs.QueueLaws.{add_new}
use Rattle.cell_steps.proofs.IdentLaws.{ident_reached, ident_least, reach_real}
use Rattle.cell_faces.specs.Faces.{fresh, lower, Walk, turn, leg, forward, face_id}
use Rattle.cell_faces.proofs.LegLaws.{leg_more, insert_left}
use Rattle.cell_faces.proofs.SoundLaws.{fresh_new, lower_le, lower_at, leg_low, walk_facts}

-- low is at most x, and at most the beta 3 image of x, where there is one
abbrev Low : List ℕ → ℕ → ℕ → Type 0
Low rows low x = (low ≤ x) × ((beta rows 3 x ≡ 0) ⊎ (low ≤ beta rows 3 x))

low_falls : (rows : List ℕ) (x low low' : ℕ) → low' ≤ low → Low rows low x → Low rows low' x
low_falls rows x low low' h p = (le_trans h p.0, ⊎_elim inl (λ q. inr (le_trans h q)) p.1)

-- the forward leg from d after t turns
record At (rows : List ℕ) (d t : ℕ) (w : Walk) : Type 0 where
  seen_is : w.seen ≡ passed rows 1 t d
  l_is : w.l ≡ far rows 1 t d
  r_is : w.r ≡ beta rows 3 (far rows 1 t d)
  lows : (u : ℕ) → u ≤ t → Low rows w.low (far rows 1 u d)

module _ (rows : List ℕ) (m : WellFormed rows) (d : ℕ) (lt : d < darts rows) (real : d ≡ 0 → ⊥)
    (closed : (x : ℕ) → Chain rows d x → beta rows 1 x ≡ 0 → ⊥) where
  pub round : (k : ℕ) × (k < darts rows) × Ends rows 1 d (beta rows 1 d) k × (far rows 1 (suc k) d ≡ d)
  round =
      let e = chain_ends rows m 1 (lit< tt) d lt in
      let k : ℕ = e.0 in
      let c : Chain rows d (far rows 1 k d) = chain_far rows m d 1 (lit< tt) k (going_real rows m 1 (lit< tt) d real k e.2.run k (omega arith)) in
      let q : far rows 1 k (beta rows 1 d) ≡ beta rows 1 (far rows 1 k d) = sym (far_suc rows 1 k d) ∙ far_last rows 1 k d in
      (k, e.1, e.2, ⊎_elim (λ z. absurd (closed (far rows 1 k d) c (sym q ∙ z))) (λ r. far_suc rows 1 k d ∙ r) e.2.over)

  pub before_real : {x : ℕ} → Chain rows d x → beta rows 0 x ≡ 0 → ⊥
  before_real c = round_before rows m d real round.0 round.3 c

  module _ (across : (x : ℕ) → Chain rows d x → beta rows 3 (beta rows 1 x) ≡ beta rows 0 (beta rows 3 x)) where
    -- ---- the forward leg goes round the chain

    low_2 : (low x y : ℕ) → (lower (lower low x) y ≤ low) × ((x ≡ 0) ⊎ (lower (lower low x) y ≤ x)) × ((y ≡ 0) ⊎ (lower (lower low x) y ≤ y))
    low_2 low x y = (
      le_trans (lower_le (lower low x) y) (lower_le low x),
      ⊎_elim inl (λ h. inr (le_trans (lower_le (lower low x) y) h)) (lower_at low x),
      lower_at (lower low x) y,
    )

    at_starts : At rows d 0 (record { seen = []; l = d; r = beta rows 3 d; low = lower d (beta rows 3 d) })
    unfolding passed far
    at_starts =
        record {
          seen_is = refl;
          l_is = refl;
          r_is = refl;
          lows = λ u h. let e : u ≡ 0 = omega arith in rw e (lower_le d (beta rows 3 d), lower_at d (beta rows 3 d));
        }

    module _ (t : ℕ) (h : t ≤ round.0) (w : Walk) (v : At rows d t w) where
      here_real : far rows 1 t d ≢ 0
      here_real = going_real rows m 1 (lit< tt) d real round.0 round.2.run t h

      here : Chain rows d (far rows 1 t d)
      here = chain_far rows m d 1 (lit< tt) t here_real

      l_real : w.l ≡ 0 → ⊥
      l_real z = here_real (sym v.l_is ∙ z)

      out : In w.l w.seen → ⊥
      out i = not_passed rows m 1 (lit< tt) d real round.0 round.2.run t h (Memᴰ.cast (sym v.l_is) (subst (In w.l) v.seen_is i))

      l'_is : beta rows 1 w.l ≡ far rows 1 (suc t) d
      l'_is = ap (beta rows 1) v.l_is ∙ sym (far_last rows 1 t d)

      r'_is : beta rows 0 w.r ≡ beta rows 3 (far rows 1 (suc t) d)
      r'_is = ap (beta rows 0) v.r_is ∙ sym (across (far rows 1 t d) here) ∙ ap (beta rows 3) (sym (far_last rows 1 t d))

      at_turn : At rows d (suc t) (turn rows 1 0 w)
      unfolding turn passed
      at_turn =
          let k = low_2 w.low (beta rows 1 w.l) (beta rows 0 w.r) in
          record {
            seen_is =
                insert_left w.seen w.l w.r (fresh_new w.seen w.l l_real out)
                ∙ add_new w.seen w.l l_real (mem_not w.l w.seen out)
                ∙ (λ i. v.seen_is i ++ (v.l_is i ∷ []));
            l_is = l'_is;
            r_is = r'_is;
            lows = λ u q.
                by_cases (dec_lt u (suc t))
                (λ (a : u < suc t). low_falls rows (far rows 1 u d) w.low _ k.0 (v.lows u (omega arith)))
                (λ (a : u < suc t → ⊥).
                let e : u ≡ suc t = omega arith in
                rw e (
                  subst (λ (y : ℕ). lower (lower w.low (beta rows 1 w.l)) (beta rows 0 w.r) ≤ y) l'_is
                      (⊎_elim (λ z. absurd (closed (far rows 1 t d) here (ap (beta rows 1) (sym v.l_is) ∙ z))) (λ y. y) k.1),
                  subst (λ (y : ℕ). (y ≡ 0) ⊎ (lower (lower w.low (beta rows 1 w.l)) (beta rows 0 w.r) ≤ y)) r'_is k.2,
                ));
          }

      leg_turn : (f : ℕ) → leg rows 1 0 (suc f) w ≡ leg rows 1 0 f (turn rows 1 0 w)
      leg_turn f = leg_more rows 1 0 w f (ap (λ (b : Bool). b || fresh w.seen w.r) (fresh_new w.seen w.l l_real out))

    -- with turns enough the leg has gone round
    leg_round : (f t : ℕ) (w : Walk) → At rows d t w → round.0 < t + f → (u : ℕ) → u ≤ round.0 → Low rows (leg rows 1 0 f w).low (far rows 1 u d)
    leg_round zero t w v h u q = low_falls rows (far rows 1 u d) w.low _ (leg_low rows 1 0 0 w) (v.lows u (omega arith))
    leg_round (suc f) t w v h u q =
        by_cases (dec_lt round.0 t)
        (λ (a : round.0 < t). low_falls rows (far rows 1 u d) w.low _ (leg_low rows 1 0 (suc f) w) (v.lows u (omega arith)))
        (λ (a : round.0 < t → ⊥).
        let le : t ≤ round.0 = omega arith in
        rw (leg_turn t le w v f) (leg_round f (suc t) (turn rows 1 0 w) (at_turn t le w v) (omega arith) u q))

    chain_low : {x : ℕ} → Chain rows d x → Low rows (forward rows [] d).low x
    unfolding forward
    chain_low c =
        let p = chain_round rows m d real round.0 round.3 c in
        let h = round.1 in
        let g = p.1 in
        rw p.2 (leg_round (darts rows) 0 (record { seen = []; l = d; r = beta rows 3 d; low = lower d (beta rows 3 d) }) at_starts (omega arith) p.0
        (omega arith))

    -- ---- the chain and its beta 3 images are the Face orbit

    -- one step back before z on the chain is one step on after its image
    pub across_back : (z : ℕ) → Chain rows d z → (beta rows 3 z ≡ 0 → ⊥) →
        (beta rows 1 (beta rows 3 z) ≡ beta rows 3 (beta rows 0 z)) × (beta rows 3 (beta rows 0 z) ≡ 0 → ⊥)
    across_back z c y-real =
        let p : ℕ = beta rows 0 z in
        let p-real : p ≡ 0 → ⊥ = before_real c in
        let e : beta rows 3 z ≡ beta rows 0 (beta rows 3 p) = ap (beta rows 3) (sym (m.back 0 z (lit< tt) p-real)) ∙ across p (back c p-real) in
        let u : beta rows 0 (beta rows 3 p) ≡ 0 → ⊥ = λ q. y-real (e ∙ q) in
        (ap (beta rows 1) e ∙ m.back 0 (beta rows 3 p) (lit< tt) u, λ q. u (ap (beta rows 0) q ∙ m.null 0 (lit< tt)))

    Member : ℕ → Type 0
    Member x = Chain rows d x ⊎ ((y : ℕ) × Chain rows d y × (beta rows 3 y ≡ x))

    member_1 : (a : ℕ) → Member a → (beta rows 1 a ≡ 0 → ⊥) → Member (beta rows 1 a)
    unfolding Member
    member_1 a p r =
        ⊎_elim
        (λ i. inl (on i r))
        (λ q.
        let k = across_back q.0 q.1 (λ e. r (ap (beta rows 1) (sym q.2 ∙ e) ∙ m.null 1 (lit< tt))) in
        inr (beta rows 0 q.0, back q.1 (before_real q.1), sym k.0 ∙ ap (beta rows 1) q.2))
        p

    member_0 : (a : ℕ) → Member a → (beta rows 0 a ≡ 0 → ⊥) → Member (beta rows 0 a)
    unfolding Member
    member_0 a p r =
        ⊎_elim
        (λ i. inl (back i r))
        (λ q. inr (beta rows 1 q.0, on q.1 (closed q.0 q.1), across q.0 q.1 ∙ ap (beta rows 0) q.2))
        p

    member_3 : (a : ℕ) → Member a → (beta rows 3 a ≡ 0 → ⊥) → Member (beta rows 3 a)
    unfolding Member
    member_3 a p r =
        ⊎_elim
        (λ i. inr (a, i, refl))
        (λ q.
        let e : beta rows 3 (beta rows 3 q.0) ≡ q.0 =
        m.back 3 q.0 (lit< tt) (λ z. r (ap (beta rows 3) (sym q.2 ∙ z) ∙ m.null 3 (lit< tt))) in
        inl (subst (Chain rows d) (sym (ap (beta rows 3) (sym q.2) ∙ e)) q.1))
        p

    member : {x : ℕ} → Reach rows face d x → Member x
    unfolding Member image
    member ReflTransGenᴰ.refl = inl first
    member (ReflTransGenᴰ.tail {b = a} {c = b} r t) =
        let p = member r in
        let to : (i : ℕ) → t.by ≡ i → image rows i a ≡ b = λ i e. ap (λ (k : ℕ). image rows k a) (sym e) ∙ t.leads in
        ⊎_elim
        (λ e. subst Member (to 1 e) (member_1 a p (λ z. t.real (sym (to 1 e) ∙ z))))
        (λ j.
        ⊎_elim
        (λ e. subst Member (to 0 e) (member_0 a p (λ z. t.real (sym (to 0 e) ∙ z))))
        (λ k. let e = Memᴰ.eq_of_singleton k in subst Member (to 3 e) (member_3 a p (λ z. t.real (sym (to 3 e) ∙ z))))
        (Memᴰ.cases_cons j))
        (Memᴰ.cases_cons t.listed)

    pub face_of_chain : {x : ℕ} → Reach rows face d x → Chain rows d x ⊎ ((z : ℕ) × Chain rows d z × (beta rows 3 z ≡ x))
    unfolding Member
    face_of_chain r = member r

    -- ---- so the face identifier is the orbit's least

    face_low : {x : ℕ} → Reach rows face d x → (forward rows [] d).low ≤ x
    face_low {x} r =
        ⊎_elim
        (λ c. (chain_low c).0)
        (λ q.
        ⊎_elim
        (λ z. absurd (reach_real rows face real r (sym q.2 ∙ z)))
        (λ h. le_trans h (le_of_eq q.2))
        (chain_low q.1).1)
        (face_of_chain r)

    pub face_least : face_id rows d ≡ ident rows face d
    unfolding face_id
    face_least =
        let f = walk_facts rows m d in
        le_antisymm
        (le_trans f.1 (face_low (ident_reached rows face m.below d lt)))
        (ident_least rows face m.below d lt f.0)
