-- A pair of stores: l and r linked by beta i, or unlinked where `parting` holds.
--   paired parting rows i l r            the rows after it: `put`, or `cut` where parting holds
--   PairChanged parting rows i l r rows' l and r were free (or linked to each other, where parting holds) and might be linked, and rows' are the rows after it
--   pair_l, pair_r, pair_others     which images stand there: exactly two have changed
--   pair_length, pair_formed        they are as long, and well formed if the rows were
--   pair_back                       stored the other way round, they are the rows again
--   places_below                    every place of a map holds a dart
--   below_set                       a store of a dart keeps every image a dart
-- Assumes nothing.
use Prim.Native.Nat.{ℕ, zero, suc, ◌+◌, ◌*◌, ◌/◌, ◌%◌, ◌<◌, ◌≤◌}
use native.Mathlib.Omega.{arith}
use native.Mathlib.Decide.{dec_lt, ℕ_discrete}
use mathlib.Core.Path.{◌≡◌, refl, sym, ap, ◌∙◌}
use mathlib.Core.Logic.{◌≢◌, by_cases}
use mathlib.Core.List.{List}
use mathlib.Core.Bool.{Bool, true, false, cond}
use lib.ListN.{length, get_or, set, length-set}
use lib.Seq.{get_or-set_same, get_or-set_other, set_out, set-set, set-get_or, set_comm}
use Rattle.map_betas.specs.Betas.{place, beta, darts, opp}
use Rattle.map_betas.specs.Maps.{WellFormed}
use Rattle.map_betas.proofs.BetaLaws.{opp_lt, opp_opp, opp_high}

abbrev pub paired : Bool → List ℕ → ℕ → ℕ → ℕ → List ℕ
paired parting rows i l r = set (set rows (place i l) (cond parting 0 r)) (place (opp i) r) (cond parting 0 l)

pub record PairChanged (parting : Bool) (rows : List ℕ) (i l r : ℕ) (rows' : List ℕ) : Type 0 where
  pub was_l : beta rows i l ≡ cond parting r 0
  pub was_r : beta rows (opp i) r ≡ cond parting l 0
  pub apart : 2 ≤ i → l ≢ r
  pub real : r ≢ 0
  pub put : rows' ≡ paired parting rows i l r

-- a store of a dart keeps every image a dart
pub below_set : (n : ℕ) (rows : List ℕ) (a v : ℕ) → ((k : ℕ) → get_or rows k 0 < n) → v < n → (k : ℕ) → get_or (set rows a v) k 0 < n
below_set n rows a v s h k =
    by_cases (ℕ_discrete k a)
    (λ (e : k ≡ a). by_cases (dec_lt a (length rows))
    (λ (l : a < length rows). rw (e, get_or-set_same rows a v 0 l) h)
    (λ (l : a < length rows → ⊥). rw (set_out rows a v (omega arith)) (s k)))
    (λ (e : k ≢ a). rw (get_or-set_other rows a k v 0 e) (s k))

-- a store of what stood there
set_back : (xs : List ℕ) (a v z : ℕ) → get_or xs a 0 ≡ z → set (set xs a v) a z ≡ xs
set_back xs a v z e = set-set xs a v z ∙ ap (λ (y : ℕ). set xs a y) (sym e) ∙ set-get_or xs a 0

-- two stores and what stood there before
set_back_two : (xs : List ℕ) (a b x y v z : ℕ) → a ≢ b → get_or xs a 0 ≡ v → get_or xs b 0 ≡ z → set (set (set (set xs a x) b y) a v) b z ≡ xs
set_back_two xs a b x y v z n ea eb =
    set_comm (set (set xs a x) b y) a b v z n
    ∙ ap (λ (s : List ℕ). set s a v) (set_back (set xs a x) b y z (get_or-set_other xs a b x 0 (λ e. n (sym e)) ∙ eb))
    ∙ set_back xs a x v ea

-- every place of a map holds a dart
pub places_below : (rows : List ℕ) → WellFormed rows → (k : ℕ) → get_or rows k 0 < darts rows
places_below rows w k =
    let q : 4 * (k / 4) + k % 4 ≡ k = omega arith in
    rw q at (w.below (k % 4) (k / 4))

-- what a number that is stored, or stood there, can be
stored : (parting : Bool) (a b : ℕ) → cond parting 0 a ≢ 0 → (cond parting 0 a ≡ a) × (cond parting 0 b ≡ b)
stored true a b n = absurd (n refl)
stored false a b n = (refl, refl)

stood : (parting : Bool) (a : ℕ) → cond parting a 0 ≢ 0 → cond parting a 0 ≡ a
stood true a n = refl
stood false a n = absurd (n refl)

-- a beta that is its own way back is 2 or 3
own_back : (i : ℕ) → 1 ≤ i → i ≡ opp i → 2 ≤ i
own_back zero h e = absurd (omega arith)
own_back (suc zero) h e = absurd (omega arith)
own_back (suc (suc i)) h e = omega arith

module _ (parting : Bool) (rows : List ℕ) (i l r : ℕ) (rows' : List ℕ) (h : PairChanged parting rows i l r rows') where
  pub pair_length : length rows' ≡ length rows
  pair_length = ap length h.put ∙ simp length-set

  pub pair_others : (k d : ℕ) → place k d ≢ place i l → place k d ≢ place (opp i) r → beta rows' k d ≡ beta rows k d
  pair_others k d a b =
      rw h.put
      (get_or-set_other (set rows (place i l) (cond parting 0 r)) (place (opp i) r) (place k d) (cond parting 0 l) 0 b
      ∙ get_or-set_other rows (place i l) (place k d) (cond parting 0 r) 0 a)

  module _ (first : 1 ≤ i) (last : i < 4) where
    back_i : opp i < 4
    back_i = opp_lt i last

    cells_apart : place i l ≢ place (opp i) r
    cells_apart e =
        let q : i ≡ opp i = omega (arith, back_i) in
        h.apart (own_back i first q) (omega (arith, q))

    pub pair_back : set (set rows' (place i l) (cond parting r 0)) (place (opp i) r) (cond parting l 0) ≡ rows
    pair_back =
        rw h.put
        (set_back_two rows (place i l) (place (opp i) r) (cond parting 0 r) (cond parting 0 l) (cond parting r 0) (cond parting l 0) cells_apart
        h.was_l h.was_r)

    pub pair_l : place i l < length rows → beta rows' i l ≡ cond parting 0 r
    pair_l inside =
        rw h.put
        (get_or-set_other (set rows (place i l) (cond parting 0 r)) (place (opp i) r) (place i l) (cond parting 0 l) 0 cells_apart
        ∙ get_or-set_same rows (place i l) (cond parting 0 r) 0 inside)

    pub pair_r : place (opp i) r < length rows → beta rows' (opp i) r ≡ cond parting 0 l
    pair_r inside =
        rw h.put
        (get_or-set_same (set rows (place i l) (cond parting 0 r)) (place (opp i) r) (cond parting 0 l) 0
        (rw (length-set rows (place i l) (cond parting 0 r)) inside))

    module _ (w : WellFormed rows) (hl : l < darts rows) (hr : r < darts rows) (nl : l ≢ 0) where
      inside_l : place i l < length rows
      inside_l = omega (arith, w.sized.whole)

      inside_r : place (opp i) r < length rows
      inside_r = omega (arith, w.sized.whole, back_i)

      same_darts : darts rows' ≡ darts rows
      same_darts = ap (λ (k : ℕ). k / 4) pair_length

      some_below : (a : ℕ) → a < darts rows → cond parting 0 a < darts rows
      some_below a lt = go parting
        where
          go : (b : Bool) → cond b 0 a < darts rows
          go true = omega (arith, w.sized.some)
          go false = lt

      new_below : (k d : ℕ) → beta rows' k d < darts rows
      new_below k d =
          rw h.put
          (below_set (darts rows) (set rows (place i l) (cond parting 0 r)) (place (opp i) r) (cond parting 0 l)
          (below_set (darts rows) rows (place i l) (cond parting 0 r) (places_below rows w) (some_below r hr)) (some_below l hl) (place k d))

      new_null : (k : ℕ) → k < 4 → beta rows' k 0 ≡ 0
      new_null k lt =
          pair_others k 0
          (λ e. nl (omega arith))
          (λ e. h.real (omega (arith, back_i)))
          ∙ w.null k lt

      -- the old image of another dart leads back by a place that was not stored to
      far_l : (k d : ℕ) → k < 4 → beta rows k d ≢ 0 → place k d ≢ place (opp i) r → place (opp k) (beta rows k d) ≢ place i l
      far_l k d lt n b e =
          let hk = opp_lt k lt in
          let q : opp k ≡ i = omega arith in
          let z : beta rows k d ≡ l = omega (arith, q) in
          let back : beta rows i l ≡ d = ap (λ (x : ℕ). get_or rows x 0) (sym e) ∙ w.back k d lt n in
          let real : d ≢ 0 = λ y. n (ap (λ (x : ℕ). beta rows k x) y ∙ w.null k lt) in
          let c : d ≡ r = sym back ∙ h.was_l ∙ stood parting r (λ y. real (sym back ∙ h.was_l ∙ y)) in
          let o : k ≡ opp i = sym (opp_opp k) ∙ ap opp q in
          b (omega (arith, c, o))

      far_r : (k d : ℕ) → k < 4 → beta rows k d ≢ 0 → place k d ≢ place i l → place (opp k) (beta rows k d) ≢ place (opp i) r
      far_r k d lt n a e =
          let hk = opp_lt k lt in
          let q : opp k ≡ opp i = omega (arith, back_i) in
          let back : beta rows (opp i) r ≡ d = ap (λ (x : ℕ). get_or rows x 0) (sym e) ∙ w.back k d lt n in
          let real : d ≢ 0 = λ y. n (ap (λ (x : ℕ). beta rows k x) y ∙ w.null k lt) in
          let c : d ≡ l = sym back ∙ h.was_r ∙ stood parting l (λ y. real (sym back ∙ h.was_r ∙ y)) in
          let o : k ≡ i = sym (opp_opp k) ∙ ap opp q ∙ opp_opp i in
          a (omega (arith, c, o))

      new_back : (k d : ℕ) → k < 4 → beta rows' k d ≢ 0 →
          beta rows' (opp k) (beta rows' k d) ≡ d
      new_back k d lt n =
          by_cases (ℕ_discrete (place k d) (place i l))
          (λ (e : place k d ≡ place i l).
          let ek : k ≡ i = omega arith in
          let ed : d ≡ l = omega (arith, ek) in
          let x : beta rows' k d ≡ cond parting 0 r = ap (λ (c : ℕ). get_or rows' c 0) e ∙ pair_l inside_l in
          let t = stored parting r l (λ z. n (x ∙ z)) in
          rw (x ∙ t.0, ek) (pair_r inside_r ∙ t.1 ∙ sym ed))
          (λ (a : place k d ≢ place i l). by_cases (ℕ_discrete (place k d) (place (opp i) r))
          (λ (e : place k d ≡ place (opp i) r).
          let ek : k ≡ opp i = omega (arith, back_i) in
          let ed : d ≡ r = omega (arith, ek) in
          let x : beta rows' k d ≡ cond parting 0 l = ap (λ (c : ℕ). get_or rows' c 0) e ∙ pair_r inside_r in
          let t = stored parting l r (λ z. n (x ∙ z)) in
          let o : opp k ≡ i = ap opp ek ∙ opp_opp i in
          rw (x ∙ t.0, o) (pair_l inside_l ∙ t.1 ∙ sym ed))
          (λ (b : place k d ≢ place (opp i) r).
          let x = pair_others k d a b in
          let m : beta rows k d ≢ 0 = λ z. n (x ∙ z) in
          rw x (pair_others (opp k) (beta rows k d) (far_l k d lt m b) (far_r k d lt m a) ∙ w.back k d lt m)))

      new_moved : (k d : ℕ) → 2 ≤ k → k < 4 → beta rows' k d ≢ 0 → beta rows' k d ≢ d
      new_moved k d h₂ lt n m =
          by_cases (ℕ_discrete (place k d) (place i l))
          (λ (e : place k d ≡ place i l).
          let ek : k ≡ i = omega arith in
          let ed : d ≡ l = omega (arith, ek) in
          let x : beta rows' k d ≡ cond parting 0 r = ap (λ (c : ℕ). get_or rows' c 0) e ∙ pair_l inside_l in
          h.apart (omega arith) (sym ed ∙ sym m ∙ x ∙ (stored parting r l (λ z. n (x ∙ z))).0))
          (λ (a : place k d ≢ place i l). by_cases (ℕ_discrete (place k d) (place (opp i) r))
          (λ (e : place k d ≡ place (opp i) r).
          let ek : k ≡ opp i = omega (arith, back_i) in
          let ed : d ≡ r = omega (arith, ek) in
          let x : beta rows' k d ≡ cond parting 0 l = ap (λ (c : ℕ). get_or rows' c 0) e ∙ pair_r inside_r in
          let i₂ : 2 ≤ i = omega (arith, ek, opp_opp i, sym (ap opp ek) ∙ opp_high k h₂) in
          h.apart i₂ (sym (stored parting l r (λ z. n (x ∙ z))).0 ∙ sym x ∙ m ∙ ed))
          (λ (b : place k d ≢ place (opp i) r).
          let x = pair_others k d a b in
          w.moved k d h₂ lt (λ z. n (x ∙ z)) (sym x ∙ m)))

      pub pair_formed : WellFormed rows'
      pair_formed =
          let q = pair_length in
          let s = w.sized.whole in
          record {
            sized = record { whole = omega arith; some = omega (arith, w.sized.some); few = omega (arith, w.sized.few) };
            below = λ k d. rw same_darts (new_below k d);
            null = new_null;
            back = new_back;
            moved = new_moved;
          }
