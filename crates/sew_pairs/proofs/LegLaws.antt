-- The legs of a 3-unsew, turn by turn, with the values as the code has them.
--   over_at                  whether a leg is over
--   leg_stops                where it is over it has no pair
--   one_pair, one_on, leg_next   else its first pair is that of l and r, and the rest is the leg from the next pair on
--   pairs_few                a leg has no more pairs than it may have
--   entries_append           the splits of pairs and then of others
--   entries_turn, leg_ends   a turn of the loop that writes, and its end
-- Assumes nothing.
use Rattle.std.specs.Prelude.{◌≡◌, ℕ, zero, suc, ◌+◌, ◌≤◌, Bool, true, false, cond, eqb, ◌≢◌, List, [], ◌∷◌, ◌++◌, length}
use native.Mathlib.Omega.{arith}
use mathlib.Core.Path.{refl, sym, ap, ◌∙◌}
use mathlib.Core.Bool.{true≢false}
use mathlib.Core.List.{append_assoc}
use lib.ListN.{length-append}
use borrow.Author.Tests.{ne_eqb}
use Rattle.map_betas.specs.Betas.{beta}
use Rattle.sew_plan.specs.declared.Entry.{Entry}
use Rattle.sew_ground.specs.Entries.{written_all}
use Rattle.sew_ground.proofs.EntryLaws.{written_both}
use Rattle.sew_pairs.specs.Pairs.{Pairs, pair_entries, entries_of, leg_over, pairs_from, end_from, leg_pairs, leg_end, Over}

module _ (l stop : ℕ) where
  pub over_at : l ≢ 0 → eqb l stop ≡ leg_over l stop
  unfolding leg_over
  over_at n = simp (ne_eqb l 0 n)

module _ (rows : List ℕ) (i j stop : ℕ) where
  pub pairs_few : (f l r : ℕ) → length (pairs_from f rows i j stop l r) ≤ f
  unfolding pairs_from
  pairs_few zero l r = omega arith
  pairs_few (suc f) l r = go (leg_over l stop) (pairs_few f (beta rows i l) (beta rows j r))
    where
      go : (b : Bool) → length (pairs_from f rows i j stop (beta rows i l) (beta rows j r)) ≤ f →
          length (cond b [] ((l, r) ∷ pairs_from f rows i j stop (beta rows i l) (beta rows j r))) ≤ suc f
      go true h = omega arith
      go false h = omega arith

  -- more turns than a leg needs change nothing
  leg_stable : (f l r : ℕ) → leg_over (end_from f rows i stop l) stop ≡ true →
      (pairs_from (suc f) rows i j stop l r ≡ pairs_from f rows i j stop l r) × (end_from (suc f) rows i stop l ≡ end_from f rows i stop l)
  unfolding pairs_from end_from
  leg_stable zero l r e = (simp e, simp e)
  leg_stable (suc f) l r e = go (leg_over l stop) (leg_stable f (beta rows i l) (beta rows j r)) e
    where
      go : (b : Bool) →
          (leg_over (end_from f rows i stop (beta rows i l)) stop ≡ true →
          (pairs_from (suc f) rows i j stop (beta rows i l) (beta rows j r) ≡ pairs_from f rows i j stop (beta rows i l) (beta rows j r))
          × (end_from (suc f) rows i stop (beta rows i l) ≡ end_from f rows i stop (beta rows i l))) →
          leg_over (cond b l (end_from f rows i stop (beta rows i l))) stop ≡ true →
          (cond b [] ((l, r) ∷ pairs_from (suc f) rows i j stop (beta rows i l) (beta rows j r))
          ≡ cond b [] ((l, r) ∷ pairs_from f rows i j stop (beta rows i l) (beta rows j r)))
          × (cond b l (end_from (suc f) rows i stop (beta rows i l)) ≡ cond b l (end_from f rows i stop (beta rows i l)))
      go true next o = (refl, refl)
      go false next o =
          let s = next o in
          (ap (λ (ps : Pairs). (l, r) ∷ ps) s.0, s.1)

  module _ (l r : ℕ) (b : Bool) (e : b ≡ leg_over l stop) where
    pub leg_stops : b ≡ true → (f : ℕ) → (pairs_from f rows i j stop l r ≡ []) × (end_from f rows i stop l ≡ l)
    unfolding pairs_from end_from
    leg_stops h zero = (refl, refl)
    leg_stops h (suc f) = (simp (sym e ∙ h), simp (sym e ∙ h))

    module _ (h : b ≡ false) where
      pub one_pair : (f : ℕ) → pairs_from (suc f) rows i j stop l r ≡ (l, r) ∷ pairs_from f rows i j stop (beta rows i l) (beta rows j r)
      unfolding pairs_from
      one_pair f = simp (sym e ∙ h)

      pub one_on : (f : ℕ) → end_from (suc f) rows i stop l ≡ end_from f rows i stop (beta rows i l)
      unfolding end_from
      one_on f = simp (sym e ∙ h)

      none_over : leg_over (end_from 0 rows i stop l) stop ≡ true → ⊥
      unfolding end_from
      none_over o = true≢false (sym o ∙ sym e ∙ h)

      pub leg_next : Over rows i stop l → (x y : ℕ) → x ≡ beta rows i l → y ≡ beta rows j r →
          (leg_pairs rows i j stop l r ≡ (l, r) ∷ leg_pairs rows i j stop x y)
          × (leg_end rows i stop l ≡ leg_end rows i stop x) × Over rows i stop x
      leg_next o x y ex ey = rw (ex, ey) (go (length rows) o)
        where
          go : (f : ℕ) → leg_over (end_from f rows i stop l) stop ≡ true →
              (pairs_from f rows i j stop l r ≡ (l, r) ∷ pairs_from f rows i j stop (beta rows i l) (beta rows j r))
              × (end_from f rows i stop l ≡ end_from f rows i stop (beta rows i l)) × (leg_over (end_from f rows i stop (beta rows i l)) stop ≡ true)
          go zero q = absurd (none_over q)
          go (suc f) q =
              let q' : leg_over (end_from f rows i stop (beta rows i l)) stop ≡ true = ap (λ (d : ℕ). leg_over d stop) (sym (one_on f)) ∙ q in
              let s = leg_stable f (beta rows i l) (beta rows j r) q' in (
                one_pair f ∙ ap (λ (ps : Pairs). (l, r) ∷ ps) (sym s.0),
                one_on f ∙ sym s.1,
                ap (λ (d : ℕ). leg_over d stop) s.1 ∙ q',
              )

-- the splits of pairs and then of others
pub entries_append : (rows : List ℕ) (ps qs : Pairs) → entries_of rows (ps ++ qs) ≡ entries_of rows ps ++ entries_of rows qs
unfolding entries_of
entries_append rows [] qs = refl
entries_append rows (p ∷ ps) qs =
    ap (λ (es : List Entry). pair_entries rows p.0 p.1 ++ es) (entries_append rows ps qs)
    ∙ sym (append_assoc (pair_entries rows p.0 p.1) (entries_of rows ps) (entries_of rows qs))

-- the loop that writes: the pair of l and r, and the pairs ps behind it
module _ (rows : List ℕ) (l r : ℕ) (ps qs : Pairs) (e : qs ≡ (l, r) ∷ ps) where
  parts : entries_of rows qs ≡ pair_entries rows l r ++ entries_of rows ps
  unfolding entries_of
  parts = ap (entries_of rows) e

  pub pair_fits : length (pair_entries rows l r) ≤ length (entries_of rows qs)
  pair_fits = omega (arith, ap (λ (es : List Entry). length es) parts, length-append (pair_entries rows l r) (entries_of rows ps))

  pub entries_turn : (plan plan₁ : List ℕ) (k k₁ : ℕ) → plan₁ ≡ written_all plan k (pair_entries rows l r) → k₁ ≡ k + length (pair_entries rows l r) →
      (k₁ + length (entries_of rows ps) ≡ k + length (entries_of rows qs)) × (written_all plan₁ k₁ (entries_of rows ps) ≡ written_all plan k (entries_of rows qs))
  entries_turn plan plan₁ k k₁ p q =
      let es : List Entry = pair_entries rows l r in
      let fs : List Entry = entries_of rows ps in (
        omega (arith, q, ap (λ (x : List Entry). length x) parts, length-append es fs),
        ap (λ (x : List ℕ). written_all x k₁ fs) p ∙ ap (λ (x : ℕ). written_all (written_all plan k es) x fs) q ∙ written_both plan k es fs
            ∙ ap (written_all plan k) (sym parts),
      )

pub leg_ends : (rows plan : List ℕ) (k : ℕ) (ps : Pairs) (x : ℕ) (y : List ℕ) → ps ≡ [] → k + length (entries_of rows ps) ≡ x →
    written_all plan k (entries_of rows ps) ≡ y → (k ≡ x) × (plan ≡ y)
unfolding written_all entries_of
leg_ends rows plan k ps x y e p q = (
  omega (arith, ap (λ (z : Pairs). length (entries_of rows z)) e, p),
  ap (λ (z : Pairs). written_all plan k (entries_of rows z)) (sym e) ∙ q,
)
