-- What an orbit's list is, for every list of steps.
--   Has, closed_reach  a list that is closed under the steps has all that its members reach
--   finished           a search with as many visits as there are darts ends with a closed list
--   image_below        an image is a dart
--   orbit_norep, orbit_starts, orbit_below   no repeats, begins with d, darts only
--   orbit_sound, orbit_complete, orbit_exact   it holds exactly the darts that the steps reach
--   orbit_some               its length
-- Assumes nothing.
use mathlib.Core.Path.{◌≡◌, refl, sym, ◌∙◌, subst}
use mathlib.Core.Bool.{Bool, true, false, cond}
use mathlib.Core.Logic.{◌⊎◌, inl, inr, ⊎_elim, ◌↔◌}
use mathlib.Core.List.Memᴰ
use mathlib.Core.List.{List, [], ◌∷◌}
use mathlib.Mathlib.Logic.Relation.ReflTransGenᴰ
use Prim.Native.Nat.{ℕ, ◌+◌, ◌≤◌, ◌<◌, zero-le}
use native.Mathlib.Nat.{not-suc-le-zero, lt_of_lt_of_le}
use native.Mathlib.Omega.{arith}
use lib.Dec.{ltb}
use lib.ListN.{length, get_or}
use borrow.Author.Count.{below_more}
use Rattle.map_betas.specs.Betas.{darts}
use Rattle.cell_steps.specs.Search.{In, NoRep, visit, search, orbit, Reach, Bounded}
use Rattle.cell_steps.specs.Steps.{image}
use Rattle.cell_steps.proofs.Lists.{in_at, at_in, pigeonhole}
use Rattle.cell_steps.proofs.SearchLaws.{Ext, ext_refl, ext_trans, ext_in, ext_at, ext_length, Good}
use Rattle.cell_steps.proofs.SearchLaws.{Passes, Ended, search_inv, visit_ext, visit_has, visit_good}

-- the images of d are null or listed
abbrev pub Has : List ℕ → List ℕ → List ℕ → ℕ → Type 0
Has rows steps l d = (s : ℕ) → In s steps → (image rows s d ≡ 0) ⊎ In (image rows s d) l

-- the search that began with l₀ has visited the first k of l
pub record State (rows steps : List ℕ) (P : ℕ → Type 0) (l₀ : List ℕ) (k : ℕ) (l : List ℕ) : Type 0 where
  pub good : Good P l
  pub upto : k ≤ length l
  pub starts : Ext l₀ l
  pub closed : (i : ℕ) → i < k → Has rows steps l (get_or l i 0)

-- the search has visited all of l
pub record Finished (rows steps : List ℕ) (P : ℕ → Type 0) (l₀ l : List ℕ) : Type 0 where
  pub good : Good P l
  pub starts : Ext l₀ l
  pub closed : (x : ℕ) → In x l → Has rows steps l x

-- a closed list has all that its members reach
pub closed_reach : (rows steps l : List ℕ) → ((x : ℕ) → In x l → Has rows steps l x) → {a x : ℕ} → In a l → Reach rows steps a x → In x l
closed_reach rows steps l h m ReflTransGenᴰ.refl = m
closed_reach rows steps l h m (ReflTransGenᴰ.tail r t) =
    ⊎_elim (λ e. absurd (t.real (sym t.leads ∙ e))) (λ q. Memᴰ.cast (sym t.leads) q) (h _ (closed_reach rows steps l h m r) t.by t.listed)

module _ (rows steps : List ℕ) (P : ℕ → Type 0) (pass : Passes rows steps P) (l₀ : List ℕ) where
  state_step : (k : ℕ) (l : List ℕ) → State rows steps P l₀ k l → k < length l → State rows steps P l₀ (k + 1) (visit rows steps (get_or l k 0) l)
  state_step k l h t =
      let e : ℕ = get_or l k 0 in
      let x : Ext l (visit rows steps e l) = visit_ext rows e steps l in
      record {
        good = visit_good rows e P steps l h.good (pass e (h.good.all e (in_at l k t)));
        upto = omega (arith, ext_length x);
        starts = ext_trans h.starts x;
        closed =
            below_more (λ (i : ℕ). Has rows steps (visit rows steps e l) (get_or (visit rows steps e l) i 0)) k
            (λ i i_lt s m.
            rw (ext_at x i (omega arith))
            (⊎_elim inl (λ q. inr (ext_in x q)) (h.closed i i_lt s m)))
            (λ s m. rw (ext_at x k t) (visit_has rows e steps l s m));
      }

  -- a search with visits enough ends with all of its list visited, since the list is no longer than n
  pub finished : (n : ℕ) → ((x : ℕ) → P x → x < n) → (f k : ℕ) (l : List ℕ) → n ≤ k + f → State rows steps P l₀ k l →
      Finished rows steps P l₀ (search rows steps f k l)
  finished n below f k l₁ w s =
      let l : List ℕ = search rows steps f k l₁ in
      let r : Ended rows steps (State rows steps P l₀) f k l = search_inv rows steps (State rows steps P l₀) state_step f k l₁ s in
      let room : length l ≤ n = pigeonhole n l r.inv.good.norep (λ x m. below x (r.inv.good.all x m)) in
      let all : length l ≤ r.at = ⊎_elim (λ h. h) (λ e. omega arith) r.end in
      record {
        good = r.inv.good;
        starts = r.inv.starts;
        closed = λ x m.
            let q = at_in m in
            subst (Has rows steps l) q.2 (r.inv.closed q.0 (lt_of_lt_of_le q.1 all));
      }

-- ---- the orbit is what the steps reach

cond_below : (t : Bool) {x y n : ℕ} → x < n → y < n → cond t x y < n
cond_below true p q = p
cond_below false p q = q

pub image_below : (rows : List ℕ) → Bounded rows → (s d : ℕ) → image rows s d < darts rows
unfolding image
image_below rows b s d = cond_below (ltb s 16) (b _ _) (b _ _)

module _ (rows steps : List ℕ) (b : Bounded rows) (d : ℕ) (h : d < darts rows) where
  abbrev Reached : ℕ → Type 0
  Reached x = Reach rows steps d x × (x < darts rows)

  pass : Passes rows steps Reached
  pass x p s m real =
      (ReflTransGenᴰ.tail p.0 (record { by = s; listed = m; leads = refl; real = real }), image_below rows b s x)

  start : State rows steps Reached (d ∷ []) 0 (d ∷ [])
  start =
      record {
        good = record { norep = (Memᴰ.not-nil, tt); all = λ x m. subst Reached (sym (Memᴰ.eq_of_singleton m)) (ReflTransGenᴰ.refl, h) };
        upto = zero-le;
        starts = ext_refl (d ∷ []);
        closed = λ i z. absurd (not-suc-le-zero z);
      }

  fin : Finished rows steps Reached (d ∷ []) (orbit rows steps d)
  unfolding orbit
  fin = finished rows steps Reached pass (d ∷ []) (darts rows) (λ x p. p.1) (darts rows) 0 (d ∷ []) (omega arith) start

  pub orbit_norep : NoRep (orbit rows steps d)
  orbit_norep = fin.good.norep

  pub orbit_starts : Ext (d ∷ []) (orbit rows steps d)
  orbit_starts = fin.starts

  pub orbit_below : (x : ℕ) → In x (orbit rows steps d) → x < darts rows
  orbit_below x m = (fin.good.all x m).1

  pub orbit_sound : (x : ℕ) → In x (orbit rows steps d) → Reach rows steps d x
  orbit_sound x m = (fin.good.all x m).0

  pub orbit_complete : {x : ℕ} → Reach rows steps d x → In x (orbit rows steps d)
  orbit_complete r = closed_reach rows steps (orbit rows steps d) fin.closed (ext_in orbit_starts (Memᴰ.head refl)) r

  pub orbit_exact : (x : ℕ) → In x (orbit rows steps d) ↔ Reach rows steps d x
  orbit_exact x = (orbit_sound x, orbit_complete)

  pub orbit_some : 0 < length (orbit rows steps d)
  orbit_some = ext_length orbit_starts
