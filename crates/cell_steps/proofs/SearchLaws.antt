-- The laws of the search.
--   Ext, ext-..             a list goes on
--   Added, added, added-..  `add` by cases
--   Good, added_good        no repeats, and a property that the steps pass on
--   search_more, -none, -done   the step laws
--   visit_ext, -has, -good  what a visit does
--   search_inv              what holds at the start and after each visit holds at the end
-- Assumes nothing.
use mathlib.Core.Path.{◌≡◌, refl, sym, ap, ◌∙◌, subst}
use mathlib.Core.Bool.{Bool, true, false, cond, ◌||◌}
use mathlib.Core.Logic.{◌⊎◌, inl, inr, ⊎_elim}
use mathlib.Core.List.Memᴰ
use mathlib.Core.List.{List, [], ◌∷◌, ◌++◌, append_assoc, append-nil}
use Prim.Native.Nat.{ℕ, zero, suc, ◌+◌, ◌≤◌, ◌<◌}
use native.Mathlib.Omega.{arith}
use lib.Dec.{eqb, ltb}
use lib.ListN.{length, get_or, length-append, get_or-append}
use borrow.Author.Tests.{eqb-true, eqb-false, lt-ltb, le-ltb, ltb-true, ltb-false}
use Rattle.cell_steps.specs.Search.{In, NoRep, mem, add, visit, search}
use Rattle.cell_steps.specs.Steps.{image}
use Rattle.cell_steps.proofs.Lists.{bool, mem_in, not_mem, norep_snoc}

-- ---- a list goes on

pub record Ext (l m : List ℕ) : Type 0 where
  pub rest : List ℕ
  pub is : m ≡ l ++ rest

pub ext_refl : (l : List ℕ) → Ext l l
ext_refl l = record { rest = []; is = sym (append-nil l) }

pub ext_trans : {a b c : List ℕ} → Ext a b → Ext b c → Ext a c
ext_trans {a} {b} {c} p q =
    record { rest = p.rest ++ q.rest; is = q.is ∙ ap (λ (l : List ℕ). l ++ q.rest) p.is ∙ append_assoc a p.rest q.rest }

pub ext_in : {l m : List ℕ} {x : ℕ} → Ext l m → In x l → In x m
ext_in {l} {m} {x} p h = rw p.is (Memᴰ.append_left p.rest h)

pub ext_at : {l m : List ℕ} → Ext l m → (i : ℕ) → i < length l → get_or m i 0 ≡ get_or l i 0
ext_at {l} {m} p i h = ap (λ (k : List ℕ). get_or k i 0) p.is ∙ get_or-append l p.rest 0 i h

pub ext_length : {l m : List ℕ} → Ext l m → length l ≤ length m
ext_length {l} {m} p = omega (arith, ap length p.is, length-append l p.rest)

-- ---- `add` by cases

pub data Added (l : List ℕ) (x : ℕ) : List ℕ → Type 0 where
  null : x ≡ 0 → Added l x l
  old : In x l → Added l x l
  new : (x ≡ 0 → ⊥) → (In x l → ⊥) → Added l x (l ++ (x ∷ []))

pub added : (l : List ℕ) (x : ℕ) → Added l x (add l x)
unfolding add
added l x = go (eqb x 0) (mem x l) refl refl
  where
    go : (a b : Bool) → eqb x 0 ≡ a → mem x l ≡ b → Added l x (cond (a || b) l (l ++ (x ∷ [])))
    go true b e f = null (eqb-true x 0 e)
    go false true e f = old (mem_in x l f)
    go false false e f = new (eqb-false x 0 e) (not_mem x l f)

pub added_ext : {l m : List ℕ} {x : ℕ} → Added l x m → Ext l m
added_ext {l} (null e) = ext_refl l
added_ext {l} (old i) = ext_refl l
added_ext {l} {x = x} (new a b) = record { rest = x ∷ []; is = refl }

pub added_has : {l m : List ℕ} {x : ℕ} → Added l x m → (x ≡ 0) ⊎ In x m
added_has (null e) = inl e
added_has (old i) = inr i
added_has {l} (new a b) = inr (Memᴰ.append_right l (Memᴰ.head refl))

-- ---- what is kept: no repeats, and a property that the steps pass on

pub record Good (P : ℕ → Type 0) (l : List ℕ) : Type 0 where
  pub norep : NoRep l
  pub all : (x : ℕ) → In x l → P x

pub added_good : {P : ℕ → Type 0} {l m : List ℕ} {x : ℕ} → Added l x m → Good P l → ((x ≡ 0 → ⊥) → P x) → Good P m
added_good (null e) g p = g
added_good (old i) g p = g
added_good {P} {l} {x = x} (new a b) g p =
    record {
      norep = norep_snoc l x g.norep b;
      all = λ y m. ⊎_elim (g.all y) (λ m'. subst P (sym (Memᴰ.eq_of_singleton m')) (p a)) (Memᴰ.append_cases l m);
    }

-- ---- the step laws of `search`

module _ (rows steps : List ℕ) where
  pub search_more : (f k : ℕ) (l : List ℕ) → k < length l → search rows steps (suc f) k l ≡ search rows steps f (k + 1) (visit rows steps (get_or l k 0) l)
  unfolding search
  search_more f k l h = ap (λ (b : Bool). cond b (search rows steps f (k + 1) (visit rows steps (get_or l k 0) l)) l) (lt-ltb k (length l) h)

  pub search_none : (k : ℕ) (l : List ℕ) → search rows steps 0 k l ≡ l
  unfolding search
  search_none k l = refl

  pub search_done : (f k : ℕ) (l : List ℕ) → length l ≤ k → search rows steps f k l ≡ l
  unfolding search
  search_done zero k l h = refl
  search_done (suc f) k l h = ap (λ (b : Bool). cond b (search rows steps f (k + 1) (visit rows steps (get_or l k 0) l)) l) (le-ltb k (length l) h)

-- ---- what a visit does

module _ (rows : List ℕ) (d : ℕ) where
  pub visit_ext : (ss l : List ℕ) → Ext l (visit rows ss d l)
  unfolding visit
  visit_ext [] l = ext_refl l
  visit_ext (s ∷ ss) l = ext_trans (added_ext (added l (image rows s d))) (visit_ext ss (add l (image rows s d)))

  pub visit_has : (ss l : List ℕ) (s : ℕ) → In s ss → (image rows s d ≡ 0) ⊎ In (image rows s d) (visit rows ss d l)
  unfolding visit
  visit_has [] l s m = absurd (Memᴰ.not-nil m)
  visit_has (t ∷ ss) l s m =
      ⊎_elim
      (λ e. subst (λ (u : ℕ). (image rows u d ≡ 0) ⊎ In (image rows u d) (visit rows ss d (add l (image rows t d)))) (sym e)
      (⊎_elim inl (λ i. inr (ext_in (visit_ext ss (add l (image rows t d))) i)) (added_has (added l (image rows t d)))))
      (visit_has ss (add l (image rows t d)) s)
      (Memᴰ.cases_cons m)

  pub visit_good : (P : ℕ → Type 0) (ss l : List ℕ) → Good P l → ((s : ℕ) → In s ss → (image rows s d ≡ 0 → ⊥) → P (image rows s d)) →
      Good P (visit rows ss d l)
  unfolding visit
  visit_good P [] l g p = g
  visit_good P (s ∷ ss) l g p =
      visit_good P ss (add l (image rows s d)) (added_good (added l (image rows s d)) g (p s (Memᴰ.head refl)))
      (λ t m. p t (Memᴰ.tail m))

-- ---- what the search does

module _ (rows steps : List ℕ) where
  -- the steps pass P on
  abbrev pub Passes : (ℕ → Type 0) → Type 0
  Passes P = (d : ℕ) → P d → (s : ℕ) → In s steps → (image rows s d ≡ 0 → ⊥) → P (image rows s d)

  -- a search stops where its list ends, or where the bound on its visits is used up
  pub record Ended (I : ℕ → List ℕ → Type 0) (f k : ℕ) (m : List ℕ) : Type 0 where
    pub at : ℕ
    pub inv : I at m
    pub end : (length m ≤ at) ⊎ (at ≡ k + f)

  -- what holds at the start and after each visit holds at the end
  pub search_inv : (I : ℕ → List ℕ → Type 0) → ((k : ℕ) (l : List ℕ) → I k l → k < length l → I (k + 1) (visit rows steps (get_or l k 0) l)) →
      (f k : ℕ) (l : List ℕ) → I k l → Ended I f k (search rows steps f k l)
  search_inv I step zero k l h = subst (Ended I 0 k) (sym (search_none rows steps k l)) (record { at = k; inv = h; end = inr (omega arith) })
  search_inv I step (suc f) k l h =
      ⊎_elim
      (λ t.
      let t' = ltb-true k (length l) t in
      let r = search_inv I step f (k + 1) (visit rows steps (get_or l k 0) l) (step k l h t') in
      subst (Ended I (suc f) k) (sym (search_more rows steps f k l t'))
      (record { at = r.at; inv = r.inv; end = ⊎_elim inl (λ e. inr (omega arith)) r.end }))
      (λ t.
      let t' = ltb-false k (length l) t in
      subst (Ended I (suc f) k) (sym (search_done rows steps (suc f) k l t')) (record { at = k; inv = h; end = inl t' }))
      (bool (ltb k (length l)))
