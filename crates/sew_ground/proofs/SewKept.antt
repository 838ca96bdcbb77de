-- What a sew or an unsew of real darts leaves, whatever it answers: rows that are well formed and as many, and no dart linked that was free and is none
-- of its own.
--   sewn_kept   a work that does so does so with any room
--   one_sew_kept, one_unsew_kept, two_sew_kept, two_unsew_kept   each work
-- Assumes nothing.
use Rattle.std.specs.Prelude.{ℕ, Bool, true, false, cond, List, [], Err, is_ok}
use native.Mathlib.Omega.{arith}
use lib.Ieee.{Float}
use Rattle.map_betas.specs.declared.error.Refusal.TheVariants.{BadGeometry}
use Rattle.map_betas.specs.Betas.{darts}
use Rattle.map_betas.specs.Guards.{Dart}
use Rattle.map_betas.specs.Maps.{WellFormed, Keeps}
use Rattle.map_betas.proofs.Spared.{keeps_same, link_keeps_all, unlink_keeps_all}
use Rattle.sew_ground.specs.Sewn.{Work, work, leaves, dart_of, Settled, settled, after_plan, sewn}
use Rattle.sew_ground.specs.One.{one_sew_on, one_unsew_on}
use Rattle.sew_ground.specs.Two.{side_of, bad_sides, linked_sides, two_sew_on, two_unsew_on}
use Rattle.sew_ground.proofs.OneBack.{links_formed, unlinks_formed}

-- the rows of a sew are those of its work, or as they were
module _ (a b : ℕ) (rows plan : List ℕ) (w : WellFormed rows) where
  either : (c : Bool) (rows₁ : List ℕ) → Keeps a b rows rows₁ → Keeps a b rows (cond c rows₁ rows)
  either true rows₁ k = k
  either false rows₁ k = keeps_same a b rows w

  pub sewn_kept : (x : Work) → Keeps a b rows x.rows → Keeps a b rows (sewn rows plan x).rows
  unfolding sewn
  sewn_kept x k = go (is_ok x.answer)
    where
      s : Settled
      s = settled plan (dart_of x.answer) x.entries

      go : (c : Bool) → Keeps a b rows (cond c (after_plan rows x.rows s) (leaves x.answer rows plan)).rows
      go true = either (is_ok s.answer) x.rows k
      go false = keeps_same a b rows w

module _ (rows : List ℕ) (ld : ℕ) (w : WellFormed rows) where
  pub one_sew_kept : (rd : ℕ) → Dart (darts rows) 1 ld → Dart (darts rows) 1 rd → Keeps ld rd rows (one_sew_on rows ld rd).rows
  unfolding one_sew_on
  one_sew_kept rd dl dr = links_formed rows ld rd w dl dr

  pub one_unsew_kept : Keeps ld ld rows (one_unsew_on rows ld).rows
  unfolding one_unsew_on
  one_unsew_kept = unlinks_formed rows ld w

  pub two_unsew_kept : Keeps ld ld rows (two_unsew_on rows ld).rows
  unfolding two_unsew_on
  two_unsew_kept = unlink_keeps_all rows 2 ld w (omega arith) (omega arith)

  pub two_sew_kept : (vertices : List ℕ) (coordinates : List Float) (rd : ℕ) → Dart (darts rows) 1 ld → Dart (darts rows) 1 rd →
      Keeps ld rd rows (two_sew_on vertices coordinates rows ld rd).rows
  unfolding two_sew_on linked_sides
  two_sew_kept vertices coordinates rd dl dr = go (bad_sides vertices coordinates (side_of rows ld) (side_of rows rd))
    where
      go : (c : Bool) →
          Keeps ld rd rows (cond c (work (Err (BadGeometry 2 ld rd)) rows []) (linked_sides rows ld rd (side_of rows ld) (side_of rows rd))).rows
      go true = keeps_same ld rd rows w
      go false = link_keeps_all rows 2 ld w (omega arith) (omega arith) rd dl dr
