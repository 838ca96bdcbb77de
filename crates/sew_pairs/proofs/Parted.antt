-- The pairs of a 3-unsew are exactly those that its 3-unlink has parted: each dart of ld's face chain, with its former beta 3 image.
--   InPairs p ps       p is one of the pairs
--   at_pairs, of_pairs   the pairs of a leg that ends after m: the t-th for each t below m, and no others
--   parted             a pair is listed exactly where its left dart is of the chain of ld and its right dart was that dart's image
-- Assumes nothing.
use Rattle.std.specs.Prelude.{◌≡◌, ℕ, zero, suc, ◌<◌, ◌≤◌, true, false, eqb, ◌≢◌, ◌↔◌, List, [], ◌∷◌, ◌++◌, length, is_ok}
use native.Mathlib.Omega.{arith}
use native.Mathlib.Decide.{ℕ_discrete}
use mathlib.Core.Path.{refl, sym, ap, ◌∙◌, subst}
use mathlib.Core.Logic.{inl, inr, ⊎_elim, by_cases}
use mathlib.Core.List.Memᴰ
use mathlib.Core.List.{Memᴰ}
use borrow.Author.Tests.{eq-eqb, ne_eqb}
use Rattle.map_betas.specs.Betas.{beta, darts}
use Rattle.map_betas.specs.Maps.{WellFormed}
use Rattle.map_betas.specs.Chains.{far, Chain, first}
use Rattle.map_betas.proofs.Chains.{Ends, far_zero, far_suc, far_last, far_alike, chain_far, chain_round, chain_line}
use Rattle.link_walk.specs.Three.{three_unlink_on}
use Rattle.link_glue.specs.Matching.{ClosedChain}
use Rattle.sew_pairs.specs.Pairs.{Pairs, pairs_from}
use Rattle.sew_pairs.specs.Three.{first_pairs, first_end, back_pairs, pairs_of}
use Rattle.sew_pairs.proofs.Relink.{did}
use Rattle.sew_pairs.proofs.LegLaws.{leg_stops, one_pair}
use Rattle.sew_pairs.proofs.Ends.{over, not_over, leg_far, first_ends, first_end_lem, back_ends}
use Rattle.sew_pairs.proofs.SplitLaws.{back_none, back_some}

abbrev pub InPairs : ℕ × ℕ → Pairs → Type 0
InPairs p ps = Memᴰ p ps

-- ---- the pairs of a leg, one by one

module _ (rows : List ℕ) (i j stop : ℕ) where
  at_pairs : (m f l r : ℕ) → m ≤ f → Ends rows i stop l m → (t : ℕ) → t < m → InPairs (far rows i t l, far rows j t r) (pairs_from f rows i j stop l r)
  unfolding far
  at_pairs zero f l r h v t q = absurd (omega arith)
  at_pairs (suc m) zero l r h v t q = absurd (omega arith)
  at_pairs (suc m) (suc f) l r h v t q =
      let n = v.run 0 (omega arith) in
      rw (one_pair rows i j stop l r false (not_over l stop n.0 n.1) refl f)
      (go
      (at_pairs m f (beta rows i l) (beta rows j r) (omega arith) (record { run = λ x y. v.run (suc x) (omega arith); over = v.over }))
      t q)
    where
      go : ((u : ℕ) → u < m →
          InPairs (far rows i u (beta rows i l), far rows j u (beta rows j r)) (pairs_from f rows i j stop (beta rows i l) (beta rows j r))) →
          (u : ℕ) → u < suc m → InPairs (far rows i u l, far rows j u r) ((l, r) ∷ pairs_from f rows i j stop (beta rows i l) (beta rows j r))
      go next zero k = Memᴰ.head refl
      go next (suc u) k = Memᴰ.tail (next u (omega arith))

  of_pairs : (m f l r : ℕ) → m ≤ f → Ends rows i stop l m → (p : ℕ × ℕ) → InPairs p (pairs_from f rows i j stop l r) →
      (t : ℕ) × (t < m) × (p ≡ (far rows i t l, far rows j t r))
  unfolding far
  of_pairs zero f l r h v p n =
      absurd (Memᴰ.not-nil (subst (InPairs p) (leg_stops rows i j stop l r true (over l stop v.over) refl f).0 n))
  of_pairs (suc m) zero l r h v p n = absurd (omega arith)
  of_pairs (suc m) (suc f) l r h v p n =
      let a = v.run 0 (omega arith) in
      ⊎_elim
      (λ e. (0, omega arith, e))
      (λ q.
      let w = of_pairs m f (beta rows i l) (beta rows j r) (omega arith) (record { run = λ x y. v.run (suc x) (omega arith); over = v.over }) p q in
      let lt = w.1 in
      (suc w.0, omega arith, w.2))
      (Memᴰ.cases_cons (subst (InPairs p) (one_pair rows i j stop l r false (not_over l stop a.0 a.1) refl f) n))

-- ---- the pairs of a 3-unsew

module _ (rows : List ℕ) (ld : ℕ) (s : WellFormed rows) (nl : ld ≢ 0) (hl : ld < darts rows) (t : is_ok (three_unlink_on rows ld).answer ≡ true) where
  abbrev cut : List ℕ
  cut = (three_unlink_on rows ld).rows

  abbrev rd : ℕ
  rd = beta rows 3 ld

  -- a 3-unlink changes beta 3 alone
  low : (i : ℕ) → i < 3 → (x d : ℕ) → far cut i x d ≡ far rows i x d
  low i h = far_alike cut rows i (λ d. (did rows ld s nl hl t).1.lower i d h)

  -- m pairs follow that of ld and rd
  ahead : (m : ℕ) × (m < darts rows) × Ends rows 1 ld (beta rows 1 ld) m
  ahead = first_ends rows s ld hl

  abbrev m : ℕ
  m = ahead.0

  -- the dart that is u steps on, and its image
  fore : (u : ℕ) → u ≤ m → Chain rows ld (far rows 1 u ld)
  fore u h = chain_far rows s ld 1 (omega arith) u (real u h)
    where
      real : (x : ℕ) → x ≤ m → far rows 1 x ld ≢ 0
      real zero q z = nl (sym (far_zero rows 1 ld) ∙ z)
      real (suc x) q z = (ahead.2.run x (omega arith)).0 (sym (far_suc rows 1 x ld) ∙ z)

  fore_image : (u : ℕ) → u ≤ m → far rows 0 u rd ≡ beta rows 3 (far rows 1 u ld)
  fore_image zero h = far_zero rows 0 rd ∙ ap (beta rows 3) (sym (far_zero rows 1 ld))
  fore_image (suc u) h =
      let c = fore u (omega arith) in
      let n = ahead.2.run u (omega arith) in
      let e : beta rows 1 (far rows 1 u ld) ≡ far rows 1 u (beta rows 1 ld) = sym (far_last rows 1 u ld) ∙ far_suc rows 1 u ld in
      far_last rows 0 u rd
      ∙ ap (beta rows 0) (fore_image u (omega arith))
      ∙ (did rows ld s nl hl t).0.facing.steps (far rows 1 u ld) c (λ z. n.0 (sym e ∙ z)) (λ o z. n.1 (sym e ∙ z))
      ∙ ap (beta rows 3) (sym (far_last rows 1 u ld))

  -- of an open face
  module _ (z : far rows 1 m (beta rows 1 ld) ≡ 0) where
    open_end : beta rows 1 (far rows 1 m ld) ≡ 0
    open_end = sym (far_last rows 1 m ld) ∙ far_suc rows 1 m ld ∙ z

    not_closed : ClosedChain rows ld → ⊥
    not_closed c = c.never_null (far rows 1 m ld) (fore m (omega arith)) open_end

    module _ (k : ℕ) (v : Ends rows 0 0 (beta rows 0 ld) k) where
      rear : (u : ℕ) → u ≤ k → Chain rows ld (far rows 0 u ld)
      rear u h = chain_far rows s ld 0 (omega arith) u (real u h)
        where
          real : (x : ℕ) → x ≤ k → far rows 0 x ld ≢ 0
          real zero q y = nl (sym (far_zero rows 0 ld) ∙ y)
          real (suc x) q y = (v.run x (omega arith)).0 (sym (far_suc rows 0 x ld) ∙ y)

      rear_image : (u : ℕ) → u ≤ k → far rows 1 u rd ≡ beta rows 3 (far rows 0 u ld)
      rear_image zero h = far_zero rows 1 rd ∙ ap (beta rows 3) (sym (far_zero rows 0 ld))
      rear_image (suc u) h =
          let x : ℕ = far rows 0 u ld in
          let y : ℕ = far rows 0 (suc u) ld in
          let ny : y ≢ 0 = λ q. (v.run u (omega arith)).0 (sym (far_suc rows 0 u ld) ∙ q) in
          let b : beta rows 1 y ≡ x = ap (beta rows 1) (far_last rows 0 u ld) ∙ s.back 0 x (omega arith) (λ q. ny (far_last rows 0 u ld ∙ q)) in
          let nx : x ≢ 0 = λ q. ny (far_last rows 0 u ld ∙ ap (beta rows 0) q ∙ s.null 0 (omega arith)) in
          let f : beta rows 0 (beta rows 3 y) ≡ beta rows 3 x =
          (did rows ld s nl hl t).0.facing.steps y (rear (suc u) h) (λ q. nx (sym b ∙ q)) (λ c. absurd (not_closed c)) ∙ ap (beta rows 3) b in
          let r : beta rows 0 (beta rows 3 y) ≢ 0 = λ q. (did rows ld s nl hl t).0.real x (rear u (omega arith)) (sym f ∙ q) in
          far_last rows 1 u rd
          ∙ ap (beta rows 1) (rear_image u (omega arith) ∙ sym f)
          ∙ s.back 0 (beta rows 3 y) (omega arith) r

  -- ---- the same in the rows after the 3-unlink

  long : length cut ≡ length rows
  long = (did rows ld s nl hl t).1.long

  few : (n : ℕ) → n < darts rows → n ≤ length cut
  few n h = omega (arith, long, s.sized.whole)

  carry : (i stop n d e : ℕ) → i < 3 → e ≡ d → Ends rows i stop d n → Ends cut i stop e n
  carry i stop n d e h q v =
      let at : (u : ℕ) → far cut i u e ≡ far rows i u d = λ u. low i h u e ∙ ap (far rows i u) q in
      record {
        run = λ u k. ((λ z. (v.run u k).0 (sym (at u) ∙ z)), (λ z. (v.run u k).1 (sym (at u) ∙ z)));
        over = ⊎_elim (λ z. inl (at n ∙ z)) (λ z. inr (at n ∙ z)) v.over;
      }

  -- the pair of the dart that is u + 1 steps on by beta i, in the rows before and after
  pair_at : (i j : ℕ) → i < 3 → j < 3 → (u : ℕ) → far rows j (suc u) rd ≡ beta rows 3 (far rows i (suc u) ld) →
      ◌≡◌ {A = ℕ × ℕ} (far cut i u (beta cut i ld), far cut j u (beta cut j rd)) (far rows i (suc u) ld, beta rows 3 (far rows i (suc u) ld))
  pair_at i j hi hj u e =
      let a : far cut i u (beta cut i ld) ≡ far rows i (suc u) ld =
      low i hi u (beta cut i ld) ∙ ap (far rows i u) ((did rows ld s nl hl t).1.lower i ld hi) ∙ sym (far_suc rows i u ld) in
      let b : far cut j u (beta cut j rd) ≡ beta rows 3 (far rows i (suc u) ld) =
      low j hj u (beta cut j rd) ∙ ap (far rows j u) ((did rows ld s nl hl t).1.lower j rd hj) ∙ sym (far_suc rows j u rd) ∙ e in
      λ x. (a x, b x)

  first_legs : Ends cut 1 ld (beta cut 1 ld) m
  first_legs = carry 1 ld m (beta rows 1 ld) (beta cut 1 ld) (omega arith) ((did rows ld s nl hl t).1.lower 1 ld (omega arith)) ahead.2

  in_first : (u : ℕ) → u < m → InPairs (far rows 1 (suc u) ld, beta rows 3 (far rows 1 (suc u) ld)) (first_pairs cut ld rd)
  unfolding first_pairs
  in_first u h =
      Memᴰ.cast (sym (pair_at 1 0 (omega arith) (omega arith) u (fore_image (suc u) (omega arith))))
      (at_pairs cut 1 0 ld m (length cut) (beta cut 1 ld) (beta cut 0 rd) (few m ahead.1) first_legs u h)

  of_first : (p : ℕ × ℕ) → InPairs p (first_pairs cut ld rd) → (u : ℕ) × (u < m) × (p ≡ (far rows 1 (suc u) ld, beta rows 3 (far rows 1 (suc u) ld)))
  unfolding first_pairs
  of_first p n =
      let w = of_pairs cut 1 0 ld m (length cut) (beta cut 1 ld) (beta cut 0 rd) (few m ahead.1) first_legs p n in
      let h = w.1 in
      (w.0, h, w.2 ∙ pair_at 1 0 (omega arith) (omega arith) w.0 (fore_image (suc w.0) (omega arith)))

  cut_end : first_end cut ld ≡ far rows 1 m (beta rows 1 ld)
  unfolding first_end
  cut_end =
      leg_far cut 1 ld m (length cut) (beta cut 1 ld) (few m ahead.1) first_legs
      ∙ low 1 (omega arith) m (beta cut 1 ld)
      ∙ ap (far rows 1 m) ((did rows ld s nl hl t).1.lower 1 ld (omega arith))

  module _ (l r : ℕ) where
    abbrev Pair : Type 0
    Pair = Chain rows ld l × (r ≡ beta rows 3 l)

    is_pair : (d : ℕ) → Chain rows ld d → ◌≡◌ {A = ℕ × ℕ} (l, r) (d, beta rows 3 d) → Pair
    is_pair d c e =
        let a : l ≡ d = ap (λ (p : ℕ × ℕ). p.0) e in
        (subst (Chain rows ld) (sym a) c, ap (λ (p : ℕ × ℕ). p.1) e ∙ ap (beta rows 3) (sym a))

    is_listed : (ps : Pairs) (d : ℕ) → r ≡ beta rows 3 l → l ≡ d → InPairs (d, beta rows 3 d) ps → InPairs (l, r) ps
    is_listed ps d q a n =
        let b : r ≡ beta rows 3 d = q ∙ ap (beta rows 3) a in
        Memᴰ.cast (λ x. (a x, b x)) n

    -- a dart ahead of ld, or ld itself
    ahead_listed : (qs : Pairs) (u : ℕ) → u < suc m → InPairs (far rows 1 u ld, beta rows 3 (far rows 1 u ld)) ((ld, rd) ∷ (first_pairs cut ld rd ++ qs))
    ahead_listed qs zero h = Memᴰ.head (λ x. (far_zero rows 1 ld x, beta rows 3 (far_zero rows 1 ld x)))
    ahead_listed qs (suc u) h = Memᴰ.tail (Memᴰ.append_left qs (in_first u (omega arith)))

    first_part : (qs : Pairs) → (InPairs (l, r) qs → Pair) → InPairs (l, r) ((ld, rd) ∷ (first_pairs cut ld rd ++ qs)) → Pair
    first_part qs rest n =
        ⊎_elim
        (λ e. is_pair ld first e)
        (λ o.
        ⊎_elim
        (λ p. let w = of_first (l, r) p in let h = w.1 in is_pair (far rows 1 (suc w.0) ld) (fore (suc w.0) (omega arith)) w.2)
        rest
        (Memᴰ.append_cases (first_pairs cut ld rd) o))
        (Memᴰ.cases_cons n)

    -- a closed face
    round_pairs : far rows 1 m (beta rows 1 ld) ≢ 0 → InPairs (l, r) (pairs_of cut ld rd) ↔ Pair
    unfolding pairs_of
    round_pairs n =
        let none : back_pairs cut ld rd ≡ [] = back_none cut ld rd (eqb (first_end cut ld) 0) refl (ne_eqb (first_end cut ld) 0 (λ z. n (sym cut_end ∙ z))) in
        let e : far rows 1 (suc m) ld ≡ ld = far_suc rows 1 m ld ∙ ⊎_elim (λ z. absurd (n z)) (λ q. q) ahead.2.over in (
          first_part (back_pairs cut ld rd) (λ p. absurd (Memᴰ.not-nil (subst (InPairs (l, r)) none p))),
          λ p.
              let w = chain_round rows s ld nl m e p.0 in
              is_listed _ (far rows 1 w.0 ld) p.1 w.2 (ahead_listed (back_pairs cut ld rd) w.0 w.1),
        )

    -- an open one
    line_pairs : far rows 1 m (beta rows 1 ld) ≡ 0 → InPairs (l, r) (pairs_of cut ld rd) ↔ Pair
    unfolding pairs_of ahead
    line_pairs z =
        let b = back_ends rows s ld hl (first_end_lem rows s ld hl ∙ z) in
        let k : ℕ = b.0 in
        let v : Ends cut 0 0 (beta cut 0 ld) k =
        carry 0 0 k (beta rows 0 ld) (beta cut 0 ld) (omega arith) ((did rows ld s nl hl t).1.lower 0 ld (omega arith)) b.2 in
        let qs : Pairs = pairs_from (length cut) cut 0 1 0 (beta cut 0 ld) (beta cut 1 rd) in
        let is : qs ≡ back_pairs cut ld rd =
        back_some cut ld rd (eqb (first_end cut ld) 0) refl (beta cut 0 ld) (beta cut 1 rd) (eq-eqb (first_end cut ld) 0 (cut_end ∙ z)) refl refl in
        let end : far rows 0 (suc k) ld ≡ 0 = far_suc rows 0 k ld ∙ ⊎_elim (λ q. q) (λ q. q) b.2.over in
        let image : (u : ℕ) → u < k → far rows 1 (suc u) rd ≡ beta rows 3 (far rows 0 (suc u) ld) = λ u h. rear_image z k b.2 (suc u) (omega arith) in (
          first_part (back_pairs cut ld rd)
              (λ p.
              let w = of_pairs cut 0 1 0 k (length cut) (beta cut 0 ld) (beta cut 1 rd) (few k b.1) v (l, r) (subst (InPairs (l, r)) (sym is) p) in
              is_pair (far rows 0 (suc w.0) ld) (rear z k b.2 (suc w.0) (omega (arith, w.1)))
              (w.2 ∙ pair_at 0 1 (omega arith) (omega arith) w.0 (image w.0 w.1))),
          λ p.
              ⊎_elim
              (λ w. is_listed _ (far rows 1 w.0 ld) p.1 w.2 (ahead_listed (back_pairs cut ld rd) w.0 w.1))
              (λ w.
              is_listed _ (far rows 0 (suc w.0) ld) p.1 w.2
              (Memᴰ.tail (Memᴰ.append_right (first_pairs cut ld rd)
              (subst (InPairs _) is
              (Memᴰ.cast (sym (pair_at 0 1 (omega arith) (omega arith) w.0 (image w.0 w.1)))
              (at_pairs cut 0 1 0 k (length cut) (beta cut 0 ld) (beta cut 1 rd) (few k b.1) v w.0 w.1))))))
              (chain_line rows s ld nl (suc m) k (far_suc rows 1 m ld ∙ z) end p.0),
        )

    -- a pair is listed exactly where its left dart is of the chain of ld and its right dart was that dart's image
    pub parted : InPairs (l, r) (pairs_of cut ld rd) ↔ (Chain rows ld l × (r ≡ beta rows 3 l))
    parted = by_cases (ℕ_discrete (far rows 1 m (beta rows 1 ld)) 0) line_pairs round_pairs
