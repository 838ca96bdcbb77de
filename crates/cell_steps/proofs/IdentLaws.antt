-- The identifier is the least dart of the orbit.
--   min_one, least_in, least_le   the least of a list is one of it, and no more than any
--   ident_reached, ident_least, ident_le   the identifier is reached, and least
--   reach_below, reach_real, reach_symm    what is reached is a dart; is not null; is reached back
--   ident_same, ident_one, ident_twice     darts have one identifier exactly where they are in one orbit
--   least_unique   what a list has, and is no more than any of it, is its least
-- Assumes nothing.
use mathlib.Core.Path.{◌≡◌, refl, sym, ap, ◌∙◌, subst}
use mathlib.Core.Logic.{◌⊎◌, inl, inr, ⊎_elim}
use mathlib.Core.List.Memᴰ
use mathlib.Core.List.{List, [], ◌∷◌}
use mathlib.Mathlib.Logic.Relation.ReflTransGenᴰ
use Prim.Native.Nat.{ℕ, ◌≤◌, ◌<◌, min}
use native.Mathlib.Nat.{le_trans, le_of_eq, le_of_lt, le_antisymm, min-le_left, min-le_right, min-eq_left, min-eq_right, not-suc-le-zero}
use lib.Dec.{leb}
use lib.ListN.{get_or}
use borrow.Author.Tests.{leb-true, leb-false}
use Rattle.map_betas.specs.Betas.{darts}
use Rattle.cell_steps.specs.Idents.{least_from, least, ident}
use Rattle.cell_steps.specs.Search.{In, Reach, Bounded, Symmetric}
use Rattle.cell_steps.proofs.Lists.{bool, in_at, at_in}
use Rattle.std.specs.List.{Contains, All}
use Rattle.std.proofs.lemmas.List.{get_or_default}
use Rattle.cell_steps.proofs.SearchLaws.{Ext}
use Rattle.cell_steps.proofs.OrbitLaws.{orbit_starts, orbit_sound, orbit_complete, orbit_below}

-- ---- the least of a list

least_bound : (x : ℕ) (l : List ℕ) (z : ℕ) → In z (x ∷ l) → least_from x l ≤ z
unfolding least_from
least_bound x [] z m = le_of_eq (sym (Memᴰ.eq_of_singleton m))
least_bound x (y ∷ l) z m =
    ⊎_elim
    (λ e. le_trans (least_bound (min x y) l (min x y) (Memᴰ.head refl)) (le_trans (min-le_left x y) (le_of_eq (sym e))))
    (λ t.
    ⊎_elim
    (λ e. le_trans (least_bound (min x y) l (min x y) (Memᴰ.head refl)) (le_trans (min-le_right x y) (le_of_eq (sym e))))
    (λ u. least_bound (min x y) l z (Memᴰ.tail u))
    (Memᴰ.cases_cons t))
    (Memᴰ.cases_cons m)

pub min_one : (x y : ℕ) → (min x y ≡ x) ⊎ (min x y ≡ y)
min_one x y = ⊎_elim (λ t. inl (min-eq_left (leb-true x y t))) (λ t. inr (min-eq_right (le_of_lt (leb-false x y t)))) (bool (leb x y))

least_member : (x : ℕ) (l : List ℕ) → In (least_from x l) (x ∷ l)
unfolding least_from
least_member x [] = Memᴰ.head refl
least_member x (y ∷ l) =
    ⊎_elim
    (λ e. ⊎_elim (λ f. Memᴰ.head (e ∙ f)) (λ f. Memᴰ.tail (Memᴰ.head (e ∙ f))) (min_one x y))
    (λ t. Memᴰ.tail (Memᴰ.tail t))
    (Memᴰ.cases_cons (least_member (min x y) l))

module _ {d : ℕ} {l : List ℕ} (e : Ext (d ∷ []) l) where
  least_is : least l ≡ least_from d e.rest
  unfolding least
  least_is = ap least e.is

  pub least_in : In (least l) l
  least_in = rw (least_is, e.is) (least_member d e.rest)

  pub least_le : (x : ℕ) → In x l → least l ≤ x
  least_le x m = let m' : In x (d ∷ e.rest) = rw e.is at m in rw least_is (least_bound d e.rest x m')

pub least_unique : (l : List ℕ) (m : ℕ) → Contains l m → All (λ x. m ≤ x) l → m ≡ least l
unfolding least
least_unique [] m c a = absurd (not-suc-le-zero c.1)
least_unique (x ∷ l) m c a =
    let q = at_in (least_member x l) in
    let e : get_or (x ∷ l) c.0 0 ≡ m = sym (get_or_default (x ∷ l) c.0 m 0 c.1) ∙ c.2 in
    le_antisymm
    (subst (λ (y : ℕ). m ≤ y) q.2 (a q.0 0 q.1))
    (least_bound x l m (subst (λ (y : ℕ). In y (x ∷ l)) e (in_at (x ∷ l) c.0 c.1)))

-- ---- the identifier

module _ (rows steps : List ℕ) (b : Bounded rows) (d : ℕ) (h : d < darts rows) where
  pub ident_reached : Reach rows steps d (ident rows steps d)
  unfolding ident
  ident_reached = orbit_sound rows steps b d h _ (least_in (orbit_starts rows steps b d h))

  pub ident_least : {x : ℕ} → Reach rows steps d x → ident rows steps d ≤ x
  unfolding ident
  ident_least {x} r = least_le (orbit_starts rows steps b d h) x (orbit_complete rows steps b d h r)

  pub ident_le : ident rows steps d ≤ d
  ident_le = ident_least ReflTransGenᴰ.refl

  pub reach_below : {x : ℕ} → Reach rows steps d x → x < darts rows
  reach_below {x} r = orbit_below rows steps b d h x (orbit_complete rows steps b d h r)

-- a dart that is not null reaches none that is
pub reach_real : (rows steps : List ℕ) {a x : ℕ} → (a ≡ 0 → ⊥) → Reach rows steps a x → x ≡ 0 → ⊥
reach_real rows steps h ReflTransGenᴰ.refl = h
reach_real rows steps h (ReflTransGenᴰ.tail r t) = t.real

pub reach_symm : (rows steps : List ℕ) → Symmetric rows steps → {a b : ℕ} → Reach rows steps a b → Reach rows steps b a
reach_symm rows steps y = ReflTransGenᴰ.symm (record { symm = y.back })

module _ (rows steps : List ℕ) (b : Bounded rows) (y : Symmetric rows steps) where
  -- darts of one orbit have one identifier
  pub ident_same : (d e : ℕ) → d < darts rows → Reach rows steps d e → ident rows steps d ≡ ident rows steps e
  ident_same d e h r =
      let h' = reach_below rows steps b d h r in
      le_antisymm
      (ident_least rows steps b d h (ReflTransGenᴰ.trans r (ident_reached rows steps b e h')))
      (ident_least rows steps b e h' (ReflTransGenᴰ.trans (reach_symm rows steps y r) (ident_reached rows steps b d h)))

  -- and only those
  pub ident_one : (d e : ℕ) → d < darts rows → e < darts rows → ident rows steps d ≡ ident rows steps e → Reach rows steps d e
  ident_one d e h h' q =
      ReflTransGenᴰ.trans
      (subst (λ (x : ℕ). Reach rows steps d x) q (ident_reached rows steps b d h))
      (reach_symm rows steps y (ident_reached rows steps b e h'))

  pub ident_twice : (d : ℕ) → d < darts rows → ident rows steps (ident rows steps d) ≡ ident rows steps d
  ident_twice d h = sym (ident_same d (ident rows steps d) h (ident_reached rows steps b d h))
