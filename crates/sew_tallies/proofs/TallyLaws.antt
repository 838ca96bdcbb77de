-- A tally pair by pair, with the values as the code has them, and what it says of the entries of a 3-unsew.
--   pair_splits, pair_one      what a pair counts for
--   noted, stands, next_below   a tally with one pair more, and the dart at which it stands
--   tally_over, tally_next     a turn of the loop that tallies
--   first_tally                the tally of the first leg
--   closed_tally, open_tally   the tally of a closed face, and of an open one
--   pairs_count, pairs_some    a tally of pairs counts them, and they are few
--   entries_are                the entries, with the least darts and the number of pairs from a tally
--   entries_most               they are the face split and at most three for each pair
--   entries_count              and a tally of splits counts them
-- Assumes nothing.
use Prim.Native.Nat.{ℕ, ◌+◌, ◌*◌, ◌≤◌, ◌<◌, min}
use native.Mathlib.Nat.{le_refl, min-eq_left}
use native.Mathlib.Omega.{arith}
use mathlib.Core.Path.{◌≡◌, refl, sym, ap, ◌∙◌}
use mathlib.Core.Logic.{◌≢◌, ⊎_elim}
use mathlib.Core.Bool.{Bool, true, false, false≢true}
use mathlib.Core.List.{List, [], ◌∷◌, ◌++◌, append-nil}
use lib.Dec.{eqb}
use lib.ListN.{length, length-append}
use borrow.Author.Tests.{eq-eqb, ne_eqb, eqb-true}
use Rattle.map_betas.specs.Betas.{beta, darts}
use Rattle.map_betas.specs.Maps.{WellFormed}
use Rattle.cell_steps.specs.Idents.{least_from, least}
use Rattle.cell_steps.proofs.Lists.{bool}
use Rattle.sew_plan.specs.declared.Entry.{Entry}
use Rattle.sew_pairs.specs.Pairs.{Pairs, lefts, rights, pair_entries, entries_of, leg_over, leg_pairs, leg_end, Over}
use Rattle.sew_pairs.specs.Three.{first_pairs, first_end, back_pairs, pairs_of, splits_of, three_entries}
use Rattle.sew_pairs.proofs.FewLaws.{pairs_most, unsew_most}
use Rattle.sew_pairs.proofs.LegLaws.{leg_stops, leg_next}
use Rattle.sew_pairs.proofs.SplitLaws.{first_is, back_none, back_some}
use Rattle.sew_tallies.specs.declared.tallies.Tally.{Tally}
use Rattle.sew_tallies.specs.Tallies.{pair_count, count_of, tallied, tally_of}

-- what a pair counts for
module _ (splits : Bool) (rows : List ℕ) (l r : ℕ) where
  pub pair_splits : (k : ℕ) (es : List Entry) → splits ≡ true → k ≡ length es → es ≡ pair_entries rows l r → k ≡ pair_count splits rows l r
  unfolding pair_count
  pair_splits k es h e q = rw h (e ∙ ap (λ (x : List Entry). length x) q)

  pub pair_one : splits ≡ false → 1 ≡ pair_count splits rows l r
  unfolding pair_count
  pair_one h = rw h

-- a leg that goes on to null ends there
null_end : (d : ℕ) → leg_over d 0 ≡ true → d ≡ 0
unfolding leg_over
null_end d h = ⊎_elim (λ t. eqb-true d 0 t) (λ (t : eqb d 0 ≡ false). absurd (false≢true (simp t at h))) (bool (eqb d 0))

-- ---- pair by pair

module _ (splits : Bool) (rows : List ℕ) where
  pub noted : (t : Tally) (r a b k x y : ℕ) → a ≡ min t.left t.l → b ≡ min t.right r → k ≡ pair_count splits rows t.l r →
      x ≡ y → record { left = a; right = b; count = t.count + k; l = x } ≡ tallied splits rows t ((t.l, r) ∷ []) y
  unfolding tallied lefts rights count_of least_from
  noted t r a b k x y ea eb ek ex =
      let n : t.count + k ≡ t.count + (pair_count splits rows t.l r + 0) = omega (arith, ek) in
      λ s. record { left = ea s; right = eb s; count = n s; l = ex s }

  none_more : (t : Tally) → tallied splits rows t [] t.l ≡ t
  unfolding tallied lefts rights count_of least_from
  none_more t =
      let n : t.count + 0 ≡ t.count = omega arith in
      λ s. record { left = t.left; right = t.right; count = n s; l = t.l }

  -- first one pair, and then others
  one_more : (t : Tally) (p : ℕ × ℕ) (ps : Pairs) (x y : ℕ) → tallied splits rows (tallied splits rows t (p ∷ []) x) ps y ≡ tallied splits rows t (p ∷ ps) y
  unfolding tallied lefts rights count_of least_from
  one_more t p ps x y =
      let k : ℕ = pair_count splits rows p.0 p.1 in
      let n : (t.count + (k + 0)) + count_of splits rows ps ≡ t.count + (k + count_of splits rows ps) = omega arith in
      λ s. record {
        left = least_from (min t.left p.0) (lefts ps);
        right = least_from (min t.right p.1) (rights ps);
        count = n s;
        l = y;
      }

  least_append : (x : ℕ) (ps qs : Pairs) → least_from x (lefts (ps ++ qs)) ≡ least_from (least_from x (lefts ps)) (lefts qs)
  unfolding lefts least_from
  least_append x [] qs = refl
  least_append x (p ∷ ps) qs = least_append (min x p.0) ps qs

  least_append_right : (x : ℕ) (ps qs : Pairs) → least_from x (rights (ps ++ qs)) ≡ least_from (least_from x (rights ps)) (rights qs)
  unfolding rights least_from
  least_append_right x [] qs = refl
  least_append_right x (p ∷ ps) qs = least_append_right (min x p.1) ps qs

  count_append : (ps qs : Pairs) → count_of splits rows (ps ++ qs) ≡ count_of splits rows ps + count_of splits rows qs
  unfolding count_of
  count_append [] qs = omega arith
  count_append (p ∷ ps) qs = let h = count_append ps qs in omega arith

  -- first some pairs, and then others; where the tally stands is of no matter
  more_and_more : (t u : Tally) (ps qs : Pairs) (x y z : ℕ) → u ≡ tallied splits rows t ps x →
      tallied splits rows (record { left = u.left; right = u.right; count = u.count; l = z }) qs y ≡ tallied splits rows t (ps ++ qs) y
  unfolding tallied
  more_and_more t u ps qs x y z e =
      let n : u.count + count_of splits rows qs ≡ t.count + count_of splits rows (ps ++ qs) =
      omega (arith, ap (λ (v : Tally). v.count) e, count_append ps qs) in
      let a : least_from u.left (lefts qs) ≡ least_from t.left (lefts (ps ++ qs)) =
      ap (λ (v : Tally). least_from v.left (lefts qs)) e ∙ sym (least_append t.left ps qs) in
      let b : least_from u.right (rights qs) ≡ least_from t.right (rights (ps ++ qs)) =
      ap (λ (v : Tally). least_from v.right (rights qs)) e ∙ sym (least_append_right t.right ps qs) in
      λ s. record { left = a s; right = b s; count = n s; l = y }

  pub stands : (t : Tally) (ps : Pairs) (x : ℕ) (u : Tally) → u ≡ tallied splits rows t ps x → u.l ≡ x
  unfolding tallied
  stands t ps x u e = ap (λ (v : Tally). v.l) e

  pub next_below : (t u : Tally) (p : ℕ × ℕ) (i d : ℕ) → WellFormed rows → u ≡ tallied splits rows t (p ∷ []) (beta rows i d) → u.l < darts rows
  next_below t u p i d w e = rw (stands t (p ∷ []) (beta rows i d) u e) (w.below i d)

  -- ---- a leg

  abbrev pub Leg : ℕ → ℕ → ℕ → Tally → ℕ → Tally
  Leg i j stop t r = tallied splits rows t (leg_pairs rows i j stop t.l r) (leg_end rows i stop t.l)

  module _ (i j stop : ℕ) (t : Tally) (r : ℕ) (b : Bool) (e : b ≡ leg_over t.l stop) where
    pub tally_over : b ≡ true → t ≡ Leg i j stop t r
    tally_over h =
        let s = leg_stops rows i j stop t.l r b e h (length rows) in
        sym (ap (λ (ps : Pairs). tallied splits rows t ps (leg_end rows i stop t.l)) s.0 ∙ ap (tallied splits rows t []) s.1
        ∙ none_more t)

    module _ (h : b ≡ false) (o : Over rows i stop t.l) (u : Tally) (eu : u ≡ tallied splits rows t ((t.l, r) ∷ []) (beta rows i t.l)) (y : ℕ)
        (ey : y ≡ beta rows j r) where
      after : (leg_pairs rows i j stop t.l r ≡ (t.l, r) ∷ leg_pairs rows i j stop u.l y)
          × (leg_end rows i stop t.l ≡ leg_end rows i stop u.l) × Over rows i stop u.l
      after = leg_next rows i j stop t.l r b e h o u.l y (stands t ((t.l, r) ∷ []) (beta rows i t.l) u eu) ey

      pub tally_next : (length (leg_pairs rows i j stop t.l r) ≡ 1 + length (leg_pairs rows i j stop u.l y))
          × Over rows i stop u.l × (Leg i j stop u y ≡ Leg i j stop t r)
      tally_next =
          let ps : Pairs = leg_pairs rows i j stop u.l y in
          let d : ℕ = leg_end rows i stop u.l in (
            ap (λ (x : Pairs). length x) after.0 ∙ omega arith,
            after.2,
            ap (λ (v : Tally). tallied splits rows v ps d) eu
                ∙ one_more t (t.l, r) ps (beta rows i t.l) d
                ∙ ap (λ (x : Pairs). tallied splits rows t x d) (sym after.0)
                ∙ ap (tallied splits rows t (leg_pairs rows i j stop t.l r)) (sym after.1),
          )

  -- ---- the whole

  module _ (ld rd : ℕ) where
    abbrev pub start : Tally
    start = record { left = ld; right = rd; count = 0; l = ld }

    pub first_tally : (t u : Tally) (y : ℕ) → t ≡ tallied splits rows start ((ld, rd) ∷ []) (beta rows 1 ld) → y ≡ beta rows 0 rd → u ≡ Leg 1 0 ld t y →
        u ≡ tallied splits rows start ((ld, rd) ∷ first_pairs rows ld rd) (first_end rows ld)
    unfolding first_end
    first_tally t u y et ey eu =
        let el : t.l ≡ beta rows 1 ld = stands start ((ld, rd) ∷ []) (beta rows 1 ld) t et in
        let ps : Pairs = leg_pairs rows 1 0 ld t.l y in
        let d : ℕ = leg_end rows 1 ld t.l in
        eu ∙ ap (λ (v : Tally). tallied splits rows v ps d) et ∙ one_more start (ld, rd) ps (beta rows 1 ld) d
        ∙ ap (λ (x : Pairs). tallied splits rows start ((ld, rd) ∷ x) d) (first_is rows ld rd t.l y el ey)
        ∙ ap (λ (x : ℕ). tallied splits rows start ((ld, rd) ∷ first_pairs rows ld rd) (leg_end rows 1 ld x)) el

    module _ (u : Tally) (e : u ≡ tallied splits rows start ((ld, rd) ∷ first_pairs rows ld rd) (first_end rows ld)) where
      at_end : u.l ≡ first_end rows ld
      at_end = stands start ((ld, rd) ∷ first_pairs rows ld rd) (first_end rows ld) u e

      pub open_end : u.l ≡ 0 → first_end rows ld ≡ 0
      open_end z = sym at_end ∙ z

      pub closed_tally : u.l ≢ 0 → u ≡ tally_of splits rows ld rd
      unfolding tally_of pairs_of
      closed_tally n =
          let none = back_none rows ld rd (eqb (first_end rows ld) 0) refl (ne_eqb (first_end rows ld) 0 (λ z. n (at_end ∙ z))) in
          e ∙ ap (λ (ps : Pairs). tallied splits rows start ((ld, rd) ∷ ps) (first_end rows ld))
          (sym (append-nil (first_pairs rows ld rd)) ∙ ap (λ (ps : Pairs). first_pairs rows ld rd ++ ps) (sym none))

      pub open_tally : (v : Tally) (x y : ℕ) → u.l ≡ 0 → Over rows 0 0 x → x ≡ beta rows 0 ld → y ≡ beta rows 1 rd →
          v ≡ Leg 0 1 0 (record { left = u.left; right = u.right; count = u.count; l = x }) y → v ≡ tally_of splits rows ld rd
      unfolding tally_of pairs_of
      open_tally v x y z o ex ey ev =
          let ps : Pairs = (ld, rd) ∷ first_pairs rows ld rd in
          let qs = back_some rows ld rd (eqb (first_end rows ld) 0) refl x y (eq-eqb (first_end rows ld) 0 (open_end z)) ex ey in
          let d : leg_end rows 0 0 x ≡ first_end rows ld = null_end (leg_end rows 0 0 x) o ∙ sym (open_end z) in
          ev ∙ more_and_more start u ps (leg_pairs rows 0 1 0 x y) (first_end rows ld) (leg_end rows 0 0 x) x e
          ∙ (λ s. tallied splits rows start (ps ++ qs s) (d s))

-- ---- what a tally says of the entries

count_pairs : (rows : List ℕ) (ps : Pairs) → count_of false rows ps ≡ length ps
unfolding count_of pair_count
count_pairs rows [] = refl
count_pairs rows (p ∷ ps) = omega (arith, count_pairs rows ps)

count_splits : (rows : List ℕ) (ps : Pairs) → count_of true rows ps ≡ length (entries_of rows ps)
unfolding count_of pair_count entries_of
count_splits rows [] = refl
count_splits rows (p ∷ ps) = omega (arith, count_splits rows ps, length-append (pair_entries rows p.0 p.1) (entries_of rows ps))

lefts_long : (ps : Pairs) → length (lefts ps) ≡ length ps
unfolding lefts
lefts_long [] = refl
lefts_long (p ∷ ps) = omega (arith, lefts_long ps)

rights_long : (ps : Pairs) → length (rights ps) ≡ length ps
unfolding rights
rights_long [] = refl
rights_long (p ∷ ps) = omega (arith, rights_long ps)

many : (rows : List ℕ) (ld rd : ℕ) → length (three_entries rows ld rd) ≡ 1 + length (entries_of rows (pairs_of rows ld rd))
unfolding three_entries splits_of
many rows ld rd = omega arith

module _ (splits : Bool) (rows : List ℕ) (ld rd : ℕ) (u : Tally) (e : u ≡ tally_of splits rows ld rd) where
  least_left : u.left ≡ least (lefts (pairs_of rows ld rd))
  unfolding tally_of tallied pairs_of least lefts least_from
  least_left = ap (λ (v : Tally). v.left) e ∙ ap (λ (x : ℕ). least_from x (lefts (first_pairs rows ld rd ++ back_pairs rows ld rd))) (min-eq_left (le_refl ld))

  least_right : u.right ≡ least (rights (pairs_of rows ld rd))
  unfolding tally_of tallied pairs_of least rights least_from
  least_right =
      ap (λ (v : Tally). v.right) e ∙ ap (λ (x : ℕ). least_from x (rights (first_pairs rows ld rd ++ back_pairs rows ld rd))) (min-eq_left (le_refl rd))

  counted : u.count ≡ count_of splits rows (pairs_of rows ld rd)
  unfolding tally_of tallied
  counted = let c : u.count ≡ 0 + count_of splits rows (pairs_of rows ld rd) = ap (λ (v : Tally). v.count) e in omega arith

  pub end_tells : u.l ≡ first_end rows ld
  unfolding tally_of tallied
  end_tells = ap (λ (v : Tally). v.l) e

  -- a tally of pairs
  module _ (h : splits ≡ false) where
    pub pairs_count : u.count ≡ length (pairs_of rows ld rd)
    pairs_count = counted ∙ ap (λ (b : Bool). count_of b rows (pairs_of rows ld rd)) h ∙ count_pairs rows (pairs_of rows ld rd)

    pub pairs_some : u.count ≤ 1 + 2 * length rows
    pairs_some = omega (arith, pairs_count, pairs_most rows ld rd)

    pub entries_are : splits_of rows (record { least = u.left; count = u.count }) (record { least = u.right; count = u.count }) (pairs_of rows ld rd)
        ≡ three_entries rows ld rd
    unfolding three_entries
    entries_are =
        let m = pairs_count ∙ sym (lefts_long (pairs_of rows ld rd)) in
        let n = pairs_count ∙ sym (rights_long (pairs_of rows ld rd)) in
        λ s. splits_of rows (record { least = least_left s; count = m s }) (record { least = least_right s; count = n s }) (pairs_of rows ld rd)

    pub entries_most : length (three_entries rows ld rd) ≤ 1 + 3 * u.count
    entries_most = omega (arith, unsew_most rows ld rd, pairs_count)

  -- a tally of splits
  pub entries_count : splits ≡ true → 1 + u.count ≡ length (three_entries rows ld rd)
  entries_count h =
      let c = counted ∙ ap (λ (b : Bool). count_of b rows (pairs_of rows ld rd)) h ∙ count_splits rows (pairs_of rows ld rd) in
      omega (arith, c, many rows ld rd)
