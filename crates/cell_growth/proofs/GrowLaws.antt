-- What the queue of a list holds after a dart: a push, and then the dart's cell.
--   grew_same     the dart was there
--   grew_flood    it was not, and its cell has joined the queue by the search
--   edge_new, grew_edge   or, of an edge, by its walk
--   grew_forward, grew_again   or, of a volume, by beta 1 and beta 2 where no chain ends, and else by all its steps after these
-- Assumes nothing.
use Prim.Native.Nat.{ℕ, ◌-◌, ◌≤◌, ◌<◌}
use native.Mathlib.Nat.{le_refl, le_trans}
use native.Mathlib.Omega.{arith}
use mathlib.Core.Path.{◌≡◌, refl, sym, ap, ◌∙◌, subst}
use mathlib.Core.Logic.{⊎_elim}
use mathlib.Core.List.{List, [], ◌∷◌, ◌++◌, append_assoc}
use lib.ListN.{length, take}
use lib.Seq.{length-take-le}
use Rattle.map_betas.specs.Betas.{darts}
use Rattle.map_betas.specs.Maps.{WellFormed}
use Rattle.cell_steps.specs.Steps.{edge, volume, volume_linear}
use Rattle.cell_steps.specs.Search.{NoRep, add, search, Bounded}
use Rattle.cell_steps.specs.Loans.{Queue, Grown}
use Rattle.cell_steps.proofs.TurnLaws.{drop_more}
use Rattle.cell_joins.specs.Joins.{Whole, Joined, Grew, Onward}
use Rattle.cell_joins.proofs.PushLaws.{grown_both, Stays, Enters, pushed}
use Rattle.cell_joins.proofs.WidenLaws.{Seeded, Spread, seeded_one, spread, spread_joined}
use Rattle.cell_joins.proofs.VolumeLaws.{linear_closed, linear_seeded, linear_spread}
use Rattle.cell_joins.proofs.EdgeLaws.{edge_norep, edge_joined}
use Rattle.cell_edges.specs.Arms.{others, edge_walk}

module _ (rows steps : List ℕ) (d : ℕ) (some : 0 < d) (queue : List ℕ) (found : ℕ) (room : found ≤ length queue) (m₁ q₁ : List ℕ) (k : ℕ)
    (p : Grown queue found (add (take found queue) d) m₁ q₁ k) where
  pub grew_same : k ≡ found → Grew rows steps d queue found m₁ q₁ found
  grew_same e =
      ⊎_elim
      (λ (s : Stays queue found d q₁ k).
      let h = subst (λ (c : ℕ). Grown queue found (add (take found queue) d) m₁ q₁ c) e p in
      record {
        more = le_refl found;
        held = h.queue;
        back = h.back;
        same = λ m. (refl, ap (λ (c : ℕ). take c q₁) (sym e) ∙ s.same);
        new = λ o. absurd (⊎_elim (λ z. omega arith) o s.why);
      })
      (λ s. absurd (omega (arith, s.more)))
      (pushed queue found d m₁ q₁ k room p)

  module _ (n : k ≡ found → ⊥) where
    enters : Enters queue found d q₁ k
    enters = ⊎_elim (λ s. absurd (n s.none)) (λ s. s) (pushed queue found d m₁ q₁ k room p)

    grew_new : (t m₂ q₂ : List ℕ) (r : ℕ) → Grown q₁ k t m₂ q₂ r → Joined rows steps d (take found queue) t → Grew rows steps d queue found m₂ q₂ r
    grew_new t m₂ q₂ r g j =
        record {
          more = le_trans p.more g.more;
          held = g.queue;
          back = g.back ∙ drop_more q₁ queue k r g.more p.back;
          same = λ m. absurd (enters.out m);
          new = λ o. (omega (arith, enters.more, g.more), rw g.front j);
        }

    module _ (c : Whole rows steps (take found queue)) where
      abbrev l : List ℕ
      l = take found queue

      module _ (b : Bounded rows) (h : d < darts rows) (marks : List ℕ) (n-is : length marks ≡ darts rows) (q : Queue marks queue found) where
        -- the places of a search from found on
        from_found : (s t : List ℕ) → search rows s (darts rows - found) found t ≡ search rows s (darts rows - length l) (length l) t
        from_found s t = ap (λ (i : ℕ). search rows s (darts rows - i) i t) (sym (length-take-le found queue q.room))

        begins : (s : List ℕ) → Seeded rows s d l (take k q₁)
        begins s = rw enters.last (seeded_one rows s d l h enters.out q.norep (λ x m. subst (λ (i : ℕ). x < i) n-is (q.below x m)))

        pub grew_flood : (m₂ q₂ : List ℕ) (r : ℕ) → Grown q₁ k (search rows steps (darts rows - found) found (take k q₁)) m₂ q₂ r →
            Grew rows steps d queue found m₂ q₂ r
        grew_flood m₂ q₂ r g = grew_new _ m₂ q₂ r g (rw (from_found steps (take k q₁)) (spread_joined rows steps d l _
            (spread rows steps d l b c _ (begins steps))))

        module _ (w : WellFormed rows) (e : volume ≡ steps) (m₂ q₂ : List ℕ) (t : ℕ) (g : Grown q₁ k
            (search rows volume_linear (darts rows - found) found (take k q₁)) m₂ q₂ t) where
          of_volume : Whole rows volume l
          of_volume = subst (λ (s : List ℕ). Whole rows s l) (sym e) c

          linear : Spread rows volume_linear d l (take t q₂)
          linear =
              rw (g.front, from_found volume_linear (take k q₁)) (spread rows volume_linear d l b (linear_closed rows l of_volume) _ (begins volume_linear))

          pub grew_forward : Onward rows found (take t q₂) → Grew rows steps d queue found m₂ q₂ t
          grew_forward o =
              let o' : Onward rows (length l) (take t q₂) = subst (λ (i : ℕ). Onward rows i (take t q₂)) (sym (length-take-le found queue q.room)) o in
              let j : Joined rows volume d l (take t q₂) = spread_joined rows volume d l _ (linear_spread rows w d l _ linear of_volume o') in
              grew_new _ m₂ q₂ t (subst (λ (s : List ℕ). Grown q₁ k s m₂ q₂ t) (sym g.front) g) (subst (λ (s : List ℕ). Joined rows s d l (take t q₂)) e j)

          pub grew_again : (m₃ q₃ : List ℕ) (r : ℕ) → Grown q₂ t (search rows steps (darts rows - found) found (take t q₂)) m₃ q₃ r →
              Grew rows steps d queue found m₃ q₃ r
          grew_again m₃ q₃ r f =
              let v : Seeded rows steps d l (take t q₂) = subst (λ (s : List ℕ). Seeded rows s d l (take t q₂)) e (linear_seeded rows w d l _ linear) in
              grew_new _ m₃ q₃ r (grown_both _ _ _ _ _ _ _ _ _ _ g f) (rw (from_found steps (take t q₂))
              (spread_joined rows steps d l _ (spread rows steps d l b c _ v)))

      module _ (e : edge ≡ steps) (w : WellFormed rows) (h : d < darts rows) where
        of_edge : Whole rows edge l
        of_edge = subst (λ (s : List ℕ). Whole rows s l) (sym e) c

        -- d stands last, and the walk goes on from it
        walked : take k q₁ ++ others rows d ≡ l ++ edge_walk rows d
        walked = ap (λ (t : List ℕ). t ++ others rows d) enters.last ∙ append_assoc l (d ∷ []) (others rows d)

        pub edge_new : NoRep l → NoRep (take k q₁ ++ others rows d)
        edge_new u = rw walked (edge_norep rows w d h l of_edge u enters.out)

        pub grew_edge : (m₂ q₂ : List ℕ) (r : ℕ) → Grown q₁ k (take k q₁ ++ others rows d) m₂ q₂ r → Grew rows steps d queue found m₂ q₂ r
        grew_edge m₂ q₂ r g =
            grew_new _ m₂ q₂ r g (rw walked (subst (λ (s : List ℕ). Joined rows s d l (l ++ edge_walk rows d)) e (edge_joined rows w d h l of_edge)))
