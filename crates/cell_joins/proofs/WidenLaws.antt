-- A closed list of darts, widened by the search from one dart more.
--   Seeded           a list begins with l, has d, and else only what the steps reach from d
--   seeded_one       l and d
--   Spread, spread   the search goes on from such a list to one that is closed too
--   spread_joined    then the whole cell of d has joined l
-- Assumes nothing.
use Prim.Native.Nat.{ℕ, ◌-◌, ◌<◌}
use native.Mathlib.Omega.{arith}
use mathlib.Core.Path.{refl, sym, subst}
use mathlib.Core.Logic.{◌⊎◌, inl, inr, ⊎_elim}
use mathlib.Core.List.Memᴰ
use mathlib.Core.List.{List, [], ◌∷◌, ◌++◌}
use mathlib.Mathlib.Logic.Relation.ReflTransGenᴰ
use lib.ListN.{length, get_or}
use Rattle.map_betas.specs.Betas.{darts}
use Rattle.cell_steps.specs.Search.{In, NoRep, search, Reach, Bounded}
use Rattle.cell_steps.proofs.Lists.{in_at, norep_snoc}
use Rattle.cell_steps.proofs.SearchLaws.{Ext, ext_refl, ext_trans, ext_in, ext_at, ext_length, Passes}
use Rattle.cell_steps.proofs.OrbitLaws.{Has, State, Finished, finished, image_below, closed_reach}
use Rattle.cell_joins.specs.Joins.{Whole, Joined}

pub record Seeded (rows steps : List ℕ) (d : ℕ) (l m : List ℕ) : Type 0 where
  pub norep : NoRep m
  pub starts : Ext l m
  pub has : In d m
  pub all : (x : ℕ) → In x m → (In x l ⊎ Reach rows steps d x) × (x < darts rows)

pub record Spread (rows steps : List ℕ) (d : ℕ) (l m : List ℕ) : Type 0 where
  pub seeded : Seeded rows steps d l m
  pub closed : (x : ℕ) → In x m → Has rows steps m x

module _ (rows steps : List ℕ) (d : ℕ) (l : List ℕ) where
  pub seeded_one : d < darts rows → (In d l → ⊥) → NoRep l → ((x : ℕ) → In x l → x < darts rows) → Seeded rows steps d l (l ++ (d ∷ []))
  seeded_one h out norep lt =
      record {
        norep = norep_snoc l d norep out;
        starts = record { rest = d ∷ []; is = refl };
        has = Memᴰ.append_right l (Memᴰ.head refl);
        all = λ x m.
            ⊎_elim
            (λ q. (inl q, lt x q))
            (λ q.
            subst (λ (y : ℕ). (In y l ⊎ Reach rows steps d y) × (y < darts rows)) (sym (Memᴰ.eq_of_singleton q)) (inr ReflTransGenᴰ.refl, h))
            (Memᴰ.append_cases l m);
      }

  pub spread_joined : (m : List ℕ) → Spread rows steps d l m → Joined rows steps d l m
  spread_joined m s =
      record {
        only = λ x i. (s.seeded.all x i).0;
        old = λ x i. ext_in s.seeded.starts i;
        every = λ x r. closed_reach rows steps m s.closed s.seeded.has r;
      }

  module _ (b : Bounded rows) (c : Whole rows steps l) where
    -- what the search from d on may add
    P : ℕ → Type 0
    P x = (In x l ⊎ Reach rows steps d x) × (x < darts rows)

    passes : Passes rows steps P
    unfolding P
    passes x p s m z = (
      ⊎_elim
          (λ q. ⊎_elim (λ e. absurd (z e)) inl (c.image_in x q s m))
          (λ q. inr (ReflTransGenᴰ.tail q (record { by = s; listed = m; leads = refl; real = z })))
          p.0,
      image_below rows b s x,
    )

    pub spread : (m : List ℕ) → Seeded rows steps d l m → Spread rows steps d l (search rows steps (darts rows - length l) (length l) m)
    unfolding P
    spread m v =
        let start : State rows steps P m (length l) m =
        record {
          good = record { norep = v.norep; all = v.all };
          upto = ext_length v.starts;
          starts = ext_refl m;
          closed = λ i q s t.
              rw (ext_at v.starts i q)
              (⊎_elim inl (λ u. inr (ext_in v.starts u)) (c.image_in (get_or l i 0) (in_at l i q) s t));
        } in
        let f : Finished rows steps P m (search rows steps (darts rows - length l) (length l) m) =
        finished rows steps P passes m (darts rows) (λ x p. p.1) (darts rows - length l) (length l) m (omega arith) start in
        record {
          seeded =
              record {
                norep = f.good.norep;
                starts = ext_trans v.starts f.starts;
                has = ext_in f.starts v.has;
                all = f.good.all;
              };
          closed = f.closed;
        }
