-- A loop that follows an arm of an edge, whatever it does with what it meets.
--   Along rows i d seen by x   the darts `seen` of the arm of d by beta i are met, x is the last of them, and beta `by` leads on
--   along_starts, along_on, along_turn, along_ends   the loop, turn by turn
-- Assumes nothing.
use Prim.Native.Nat.{ℕ, zero, suc, ◌-◌, ◌≤◌, ◌<◌}
use native.Mathlib.Omega.{arith}
use mathlib.Core.Path.{◌≡◌, refl, sym, ap, ◌∙◌}
use mathlib.Core.Logic.{◌≢◌, inl, inr, ⊎_elim}
use mathlib.Core.List.{List, [], ◌∷◌, ◌++◌, append_assoc, append-nil}
use lib.ListN.{length, length-append}
use Rattle.map_betas.specs.Betas.{beta, darts}
use Rattle.map_betas.specs.Maps.{WellFormed}
use Rattle.cell_steps.specs.Steps.{edge}
use Rattle.cell_steps.specs.Search.{In}
use Rattle.cell_edges.specs.Arms.{arm, arm_end, arm_of, end_of}
use Rattle.cell_edges.proofs.ArmLaws.{other_edge, Over, arm_stops, end_stops, arm_on, end_on}
use Rattle.cell_edges.proofs.WalkLaws.{arm_over}

pub record Along (rows : List ℕ) (i d : ℕ) (seen : List ℕ) (by x : ℕ) : Type 0 where
  pub by_edge : In by edge
  pub below : x < darts rows
  pub upto : length seen ≤ darts rows
  pub rest : arm_of rows i d ≡ seen ++ arm (darts rows - length seen) rows d by x
  pub end_same : end_of rows i d ≡ arm_end (darts rows - length seen) rows d by x

module _ (rows : List ℕ) (w : WellFormed rows) (i d : ℕ) (lt : d < darts rows) (i-edge : In i edge) where
  pub along_starts : Along rows i d [] i d
  along_starts =
      let f : darts rows - 0 ≡ darts rows = omega arith in
      record {
        by_edge = i-edge;
        below = lt;
        upto = omega arith;
        rest = ap (λ (k : ℕ). arm k rows d i d) (sym f);
        end_same = ap (λ (k : ℕ). arm_end k rows d i d) (sym f);
      }

  module _ (seen : List ℕ) (by x y : ℕ) (v : Along rows i d seen by x) (y-is : y ≡ beta rows by x) where
    module _ (n : y ≢ 0) (o : y ≢ d) where
      -- the arm has not come to its end yet
      pub along_on : length seen < darts rows
      unfolding arm_end
      along_on = go (darts rows - length seen) refl v.end_same
        where
          go : (f : ℕ) → darts rows - length seen ≡ f → end_of rows i d ≡ arm_end f rows d by x → length seen < darts rows
          go zero e q =
              absurd (⊎_elim (λ z. n (y-is ∙ sym q ∙ z)) (λ z. o (y-is ∙ sym q ∙ z)) (arm_over rows w d lt i i-edge))
          go (suc f) e q = omega arith

      abbrev seen' : List ℕ
      seen' = seen ++ (y ∷ [])

      -- one dart fewer may still come
      fewer : darts rows - length seen ≡ suc (darts rows - length seen')
      fewer =
          let h = along_on in
          let s = length-append seen (y ∷ []) in
          omega arith

      abbrev left : ℕ
      left = darts rows - length seen'

      -- y is what the arm goes on with
      pub along_next : arm_of rows i d ≡ seen ++ (y ∷ arm left rows d (5 - by) y)
      along_next =
          v.rest
          ∙ ap (λ (k : ℕ). seen ++ arm k rows d by x) fewer
          ∙ ap (λ (l : List ℕ). seen ++ l) (arm_on rows d by x left (λ z. n (y-is ∙ z)) (λ z. o (y-is ∙ z)))
          ∙ ap (λ (z : ℕ). seen ++ (z ∷ arm left rows d (5 - by) z)) (sym y-is)

      pub along_turn : (by' : ℕ) → by' ≡ 5 - by → Along rows i d seen' by' y
      along_turn by' b =
          rw b
          (record {
            by_edge = other_edge v.by_edge;
            below = rw y-is (w.below by x);
            upto =
                let h = along_on in
                let s = length-append seen (y ∷ []) in
                omega arith;
            rest = along_next ∙ sym (append_assoc seen (y ∷ []) (arm left rows d (5 - by) y));
            end_same =
                v.end_same
                ∙ ap (λ (k : ℕ). arm_end k rows d by x) fewer
                ∙ end_on rows d by x left (λ z. n (y-is ∙ z)) (λ z. o (y-is ∙ z))
                ∙ ap (arm_end left rows d (5 - by)) (sym y-is);
          })

    pub along_ends : Over d y → (seen ≡ arm_of rows i d) × (y ≡ end_of rows i d)
    along_ends o =
        let f = darts rows - length seen in
        let o' : Over d (beta rows by x) = ⊎_elim (λ z. inl (sym y-is ∙ z)) (λ z. inr (sym y-is ∙ z)) o in (
          sym (append-nil seen) ∙ ap (λ (l : List ℕ). seen ++ l) (sym (arm_stops rows d by x f o')) ∙ sym v.rest,
          y-is ∙ sym (end_stops rows d by x f o') ∙ sym v.end_same,
        )
