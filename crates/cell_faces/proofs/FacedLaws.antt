-- The darts that the list of faces has done with, as it goes through the darts in order.
--   faced_starts   none at first
--   faced_old, faced_not   a dart that is among them is not its own identifier, and the next dart may be asked
--   apart_out      a dart that is not among them reaches none of them
--   faced_own, faced_more  a regular one is its own identifier, and its whole face joins them
--   faced_skip     one that is not regular leaves them as they are
-- Assumes nothing.
use Prim.Native.Nat.{ℕ, ◌+◌, ◌<◌}
use native.Mathlib.Nat.{eq-or-lt_of_le}
use native.Mathlib.Omega.{arith}
use mathlib.Core.Path.{◌≡◌, sym, ◌∙◌, subst}
use mathlib.Core.Logic.{◌⊎◌, ⊎_elim}
use mathlib.Core.List.Memᴰ
use mathlib.Core.List.{List, []}
use mathlib.Mathlib.Logic.Relation.ReflTransGenᴰ
use Rattle.map_betas.specs.Betas.{darts}
use Rattle.map_betas.specs.Maps.{WellFormed}
use Rattle.cell_steps.specs.Steps.{face}
use Rattle.cell_steps.specs.Search.{In, Reach, Symmetric}
use Rattle.cell_steps.specs.Cgal.{faceΦ}
use Rattle.cell_steps.specs.Idents.{ident}
use Rattle.cell_steps.proofs.CgalLaws.{symmetric, face_serves}
use Rattle.cell_steps.proofs.IdentLaws.{ident_reached, ident_le, ident_same, ident_one, reach_real, reach_below, reach_symm}
use Rattle.cell_joins.specs.Joins.{Joined}
use Rattle.cell_faces.specs.Faces.{face_id, Regular}
use Rattle.cell_faces.specs.FaceLists.{Faced, Apart}
use Rattle.cell_faces.proofs.RegularLaws.{regular_spread, face_id_least}

module _ (rows : List ℕ) (w : WellFormed rows) where
  turns : Symmetric rows face
  turns = symmetric rows w face faceΦ face_serves

  back : {a b : ℕ} → Reach rows face a b → Reach rows face b a
  back r = reach_symm rows face turns r

  pub faced_starts : Faced rows 1 []
  faced_starts =
      record {
        only = λ x m. absurd (Memᴰ.not-nil m);
        real = λ x m. absurd (Memᴰ.not-nil m);
        closed = λ x y m. absurd (Memᴰ.not-nil m);
        every = λ x lt r g q.
            let z : ident rows face x ≡ 0 = omega arith in
            absurd (reach_real rows face r (ident_reached rows face w.below x lt) z);
      }

  module _ (d : ℕ) (k : List ℕ) (h : d < darts rows) (some : 0 < d) (v : Faced rows d k) where
    d_real : d ≡ 0 → ⊥
    d_real e = omega arith

    -- a dart whose least is d, and one whose least is below
    split : (x : ℕ) → ident rows face x < d + 1 → (ident rows face x ≡ d) ⊎ (ident rows face x < d)
    split x q = eq-or-lt_of_le (omega arith)

    -- d is reached from a dart whose least it is
    to_d : (x : ℕ) → x < darts rows → ident rows face x ≡ d → Reach rows face x d
    to_d x lt e = subst (Reach rows face x) e (ident_reached rows face w.below x lt)

    pub faced_not : In d k → face_id rows d ≡ d → ⊥
    faced_not m e = omega (arith, v.only d m)

    pub faced_old : In d k → Faced rows (d + 1) k
    faced_old m =
        record {
          only = λ x i. omega (arith, v.only x i);
          real = v.real;
          closed = v.closed;
          every = λ x lt r g q. ⊎_elim (λ e. v.closed d x m (back (to_d x lt e))) (v.every x lt r g) (split x q);
        }

    module _ (out : In d k → ⊥) where
      pub apart_out : Apart rows d k
      apart_out = record { never = λ x i r. out (v.closed x d i (back r)) }

      pub faced_skip : (Regular rows d → ⊥) → Faced rows (d + 1) k
      faced_skip n =
          record {
            only = λ x i. omega (arith, v.only x i);
            real = v.real;
            closed = v.closed;
            every = λ x lt r g q.
                ⊎_elim (λ e. absurd (n (regular_spread rows w lt r g (to_d x lt e)))) (v.every x lt r g) (split x q);
          }

      module _ (g : Regular rows d) where
        least_d : ident rows face d ≡ d
        least_d = ⊎_elim (λ e. e) (λ t. absurd (out (v.every d h d_real g t))) (eq-or-lt_of_le (ident_le rows face w.below d h))

        pub faced_own : face_id rows d ≡ d
        faced_own = face_id_least rows w d h d_real g ∙ least_d

        -- a dart of d's face has d for its identifier
        same : (x : ℕ) → Reach rows face d x → face_id rows x ≡ d
        same x r =
            face_id_least rows w x (reach_below rows face w.below d h r) (reach_real rows face d_real r) (regular_spread rows w h d_real g r)
            ∙ sym (ident_same rows face w.below turns d x h r)
            ∙ least_d

        pub faced_more : (wide : List ℕ) → Joined rows face d k wide → Faced rows (d + 1) wide
        faced_more wide j =
            record {
              only = λ x m. ⊎_elim (λ i. omega (arith, v.only x i)) (λ r. omega (arith, same x r)) (j.only x m);
              real = λ x m. ⊎_elim (v.real x) (reach_real rows face d_real) (j.only x m);
              closed = λ x y m r. ⊎_elim (λ i. j.old y (v.closed x y i r)) (λ q. j.every y (ReflTransGenᴰ.trans q r)) (j.only x m);
              every = λ x x_lt r q t.
                  ⊎_elim
                  (λ e. j.every x (ident_one rows face w.below turns d x h x_lt (least_d ∙ sym e)))
                  (λ u. j.old x (v.every x x_lt r q u))
                  (split x t);
            }
