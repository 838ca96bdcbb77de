-- The slots that hold points, as a list that ascends. Assumes nothing.
--   find           whether one of some numbers is a given one, and which
--   at_points      each is a real slot that holds a point
--   points_ascend  they ascend
--   points_named   each such slot is there
--   points_listed  so that they are any list that ascends and names exactly these slots
use Prim.Native.Nat.{ℕ, zero, suc, ◌+◌, ◌-◌, ◌<◌, ◌≤◌}
use native.Mathlib.Omega.{arith}
use native.Mathlib.Decide.{ℕ_discrete, dec_lt}
use mathlib.Core.Path.{◌≡◌, refl, sym, ap, ◌∙◌, subst}
use mathlib.Core.Logic.{◌≢◌, ◌⊎◌, inl, inr, ⊎_elim, by_cases}
use mathlib.Core.List.{List, [], ◌∷◌, ◌++◌, append-nil}
use lib.ListN.{length, get_or, length-append, get_or-append}
use lib.Seq.{get_or_at}
use borrow.Author.Tests.{eq-eqb, ne_eqb}
use Rattle.image_words.specs.Lists.{listed}
use Rattle.image_blocks.specs.Image.{points}

-- whether one of v numbers is e, and which
pub find : (f : ℕ → ℕ) (v e : ℕ) → ((j : ℕ) × (j < v) × (f j ≡ e)) ⊎ ((j : ℕ) → j < v → f j ≢ e)
find f zero e = inr (λ j h. absurd (omega arith))
find f (suc v) e =
    by_cases (ℕ_discrete (f v) e) (λ (q : f v ≡ e). inl (v, omega arith, q))
    (λ (q : f v ≢ e).
    ⊎_elim (λ r. inl (r.0, (let h = r.1 in omega arith), r.2))
    (λ none. inr (λ j h. by_cases (ℕ_discrete j v) (λ (s : j ≡ v). λ t. q (ap f (sym s) ∙ t)) (λ (s : j ≢ v). none j (omega arith))))
    (find f v e))

module _ (marks : List ℕ) where
  skipped : (k : ℕ) → get_or marks (suc k) 0 ≡ 0 → points marks (suc k) ≡ points marks k
  unfolding points
  skipped k e = rw (eq-eqb (get_or marks (suc k) 0) 0 e) (append-nil (points marks k))

  joined : (k : ℕ) → get_or marks (suc k) 0 ≢ 0 → points marks (suc k) ≡ points marks k ++ (suc k ∷ [])
  unfolding points
  joined k e = rw (ne_eqb (get_or marks (suc k) 0) 0 e) refl

  joined_length : (k : ℕ) → get_or marks (suc k) 0 ≢ 0 → length (points marks (suc k)) ≡ length (points marks k) + 1
  joined_length k e = ap length (joined k e) ∙ length-append (points marks k) (suc k ∷ [])

  before : (k j : ℕ) → get_or marks (suc k) 0 ≢ 0 → j < length (points marks k) → get_or (points marks (suc k)) j 0 ≡ get_or (points marks k) j 0
  before k j e h = ap (λ (l : List ℕ). get_or l j 0) (joined k e) ∙ get_or-append (points marks k) (suc k ∷ []) 0 j h

  last : (k j : ℕ) → get_or marks (suc k) 0 ≢ 0 → j ≡ length (points marks k) → get_or (points marks (suc k)) j 0 ≡ suc k
  last k j e h = ap (λ (l : List ℕ). get_or l j 0) (joined k e) ∙ get_or_at (points marks k) (suc k) [] 0 j (sym h)

  abbrev Slot : ℕ → ℕ → Type 0
  Slot k d = (1 ≤ d) × (d ≤ k) × (get_or marks d 0 ≢ 0)

  -- each of these grows by one slot: what the next one adds
  abbrev Held : ℕ → Type 0
  Held k = (j : ℕ) → j < length (points marks k) → Slot k (get_or (points marks k) j 0)

  held_more : (k : ℕ) → Held k → Held (suc k)
  held_more k held j h = by_cases (ℕ_discrete (get_or marks (suc k) 0) 0) none some
    where
      wider : {d : ℕ} → Slot k d → Slot (suc k) d
      wider s = (s.0, (let q = s.1 in omega arith), s.2)

      none : get_or marks (suc k) 0 ≡ 0 → Slot (suc k) (get_or (points marks (suc k)) j 0)
      none e =
          let s = skipped k e in
          let l = ap length s in
          rw s (wider (held j (omega arith)))

      some : get_or marks (suc k) 0 ≢ 0 → Slot (suc k) (get_or (points marks (suc k)) j 0)
      some e =
          let l = joined_length k e in
          by_cases (dec_lt j (length (points marks k)))
          (λ (i : j < length (points marks k)). rw (before k j e i) (wider (held j i)))
          (λ (i : j < length (points marks k) → ⊥). rw (last k j e (omega arith)) (omega arith, omega arith, e))

  pub at_points : (k : ℕ) → Held k
  unfolding points
  at_points zero = λ j h. absurd (omega arith)
  at_points (suc k) = held_more k (at_points k)

  abbrev Ascends : ℕ → Type 0
  Ascends k = (i j : ℕ) → i < j → j < length (points marks k) → get_or (points marks k) i 0 < get_or (points marks k) j 0

  ascends_more : (k : ℕ) → Ascends k → Ascends (suc k)
  ascends_more k ascends i j a h = by_cases (ℕ_discrete (get_or marks (suc k) 0) 0) none some
    where
      none : get_or marks (suc k) 0 ≡ 0 → get_or (points marks (suc k)) i 0 < get_or (points marks (suc k)) j 0
      none e =
          let s = skipped k e in
          let l = ap length s in
          rw s (ascends i j a (omega arith))

      some : get_or marks (suc k) 0 ≢ 0 → get_or (points marks (suc k)) i 0 < get_or (points marks (suc k)) j 0
      some e =
          let l = joined_length k e in
          by_cases (dec_lt j (length (points marks k)))
          (λ (p : j < length (points marks k)).
          let x = before k i e (omega arith) in
          let y = before k j e p in
          let r = ascends i j a p in
          omega arith)
          (λ (p : j < length (points marks k) → ⊥).
          let x = before k i e (omega arith) in
          let y = last k j e (omega arith) in
          let r = (at_points k i (omega arith)).1 in
          omega arith)

  pub points_ascend : (k : ℕ) → Ascends k
  unfolding points
  points_ascend zero = λ i j a h. absurd (omega arith)
  points_ascend (suc k) = ascends_more k (points_ascend k)

  abbrev Found : ℕ → ℕ → Type 0
  Found k d = (j : ℕ) × (j < length (points marks k)) × (get_or (points marks k) j 0 ≡ d)

  found_more : (k d : ℕ) → (Slot k d → Found k d) → Slot (suc k) d → Found (suc k) d
  found_more k d found s = by_cases (ℕ_discrete d (suc k)) this that
    where
      this : d ≡ suc k → Found (suc k) d
      this q =
          let e : get_or marks (suc k) 0 ≢ 0 = subst (λ (x : ℕ). get_or marks x 0 ≢ 0) q s.2 in
          let l = joined_length k e in
          (length (points marks k), omega arith, last k (length (points marks k)) e refl ∙ sym q)

      that : d ≢ suc k → Found (suc k) d
      that q =
          let b = s.1 in
          let r = found (s.0, omega arith, s.2) in
          let h = r.1 in
          by_cases (ℕ_discrete (get_or marks (suc k) 0) 0)
          (λ (e : get_or marks (suc k) 0 ≡ 0). let t = skipped k e in (r.0, rw t h, rw t r.2))
          (λ (e : get_or marks (suc k) 0 ≢ 0).
          let l = joined_length k e in
          (r.0, omega arith, before k r.0 e h ∙ r.2))

  pub points_named : (k d : ℕ) → Slot k d → Found k d
  points_named zero d s = let a = s.0 in let b = s.1 in absurd (omega arith)
  points_named (suc k) d s = found_more k d (points_named k d) s

  -- f names exactly the slots below n that hold points, ascending
  module _ (f : ℕ → ℕ) (v n : ℕ) (some : 1 ≤ n) (real : (j : ℕ) → j < v → 1 ≤ f j) (ascend : (i j : ℕ) → i < j → j < v → f i < f j)
      (below : (j : ℕ) → j < v → f j < n) (named : (j : ℕ) → j < v → get_or marks (f j) 0 ≢ 0)
      (other : (d : ℕ) → d < n → ((j : ℕ) → j < v → f j ≢ d) → get_or marks d 0 ≡ 0) where
    -- the slots up to k are the first m of them
    abbrev Upto : ℕ → ℕ → Type 0
    Upto k m = (m ≤ v) × (points marks k ≡ listed f m) × ((j : ℕ) → j < m → f j ≤ k) × ((j : ℕ) → m ≤ j → j < v → k < f j)

    grown : (k m : ℕ) → suc k < n → Upto k m → m < v → f m ≡ suc k → Upto (suc k) (suc m)
    unfolding listed
    grown k m h u l e =
        let held : get_or marks (suc k) 0 ≢ 0 = subst (λ (x : ℕ). get_or marks x 0 ≢ 0) e (named m l) in (
          omega arith,
          joined k held ∙ ap (λ (p : List ℕ). p ++ (suc k ∷ [])) u.1 ∙ ap (λ (x : ℕ). listed f m ++ (x ∷ [])) (sym e),
          (λ j i. by_cases (ℕ_discrete j m)
              (λ (q : j ≡ m). let p = ap f q in omega arith)
              (λ (q : j ≢ m). let p = u.2 j (omega arith) in omega arith)),
          (λ j a b. let p = ascend m j (omega arith) b in omega arith),
        )

    same : (k m : ℕ) → suc k < n → Upto k m → (m < v → f m ≢ suc k) → Upto (suc k) m
    same k m h u q =
        let away : (j : ℕ) → m ≤ j → j < v → suc k < f j =
        λ j a b.
        let p = u.3 j a b in
        let r = q (omega arith) in
        by_cases (ℕ_discrete j m)
        (λ (s : j ≡ m). let t = ap f s in omega arith)
        (λ (s : j ≢ m). let t = ascend m j (omega arith) b in let g = u.3 m (omega arith) (omega arith) in omega arith) in
        let none : get_or marks (suc k) 0 ≡ 0 =
        other (suc k) h (λ j b e.
        by_cases (dec_lt j m)
        (λ (s : j < m). let p = u.2 j s in omega arith)
        (λ (s : j < m → ⊥). let p = away j (omega arith) b in omega arith)) in
        (u.0, skipped k none ∙ u.1, (λ j a. let p = u.2 j a in omega arith), away)

    upto : (k : ℕ) → k < n → (m : ℕ) × Upto k m
    unfolding points listed
    upto zero h = (0, (omega arith, refl, (λ j a. absurd (omega arith)), (λ j a b. real j b)))
    upto (suc k) h =
        let r = upto k (omega arith) in
        let m = r.0 in
        let u : Upto k m = r.1 in
        by_cases (dec_lt m v)
        (λ (l : m < v). by_cases (ℕ_discrete (f m) (suc k)) (λ e. (suc m, grown k m h u l e)) (λ e. (m, same k m h u (λ q. e))))
        (λ (l : m < v → ⊥). (m, same k m h u (λ q. absurd (l q))))

    pub points_listed : points marks (n - 1) ≡ listed f v
    points_listed =
        let r = upto (n - 1) (omega arith) in
        let m = r.0 in
        let u : Upto (n - 1) m = r.1 in
        let all : m ≡ v =
        by_cases (dec_lt m v)
        (λ (l : m < v). let a = u.3 m (omega arith) l in let b = below m l in absurd (omega arith))
        (λ (l : m < v → ⊥). let a = u.0 in omega arith) in
        u.1 ∙ ap (listed f) all
