-- The splits of one pair, from what the code has read.
--   far_is, far_below     the far end of a dart, which is a dart
--   open_none             the split at the near end of l, where it is not asked for
--   pair_is               the three together
--   pair_few              they are three at most
-- Assumes nothing.
use Rattle.std.specs.Prelude.{max, ◌≡◌, ℕ, ◌<◌, ◌≤◌, true, eqb, ◌≢◌, List, [], ◌∷◌, ◌++◌, length, Option}
use native.Mathlib.Omega.{arith}
use mathlib.Core.Path.{ap, ◌∙◌}
use lib.ListN.{length-append}
use borrow.Author.Tests.{ne_eqb}
use Rattle.map_betas.specs.Betas.{beta, darts}
use Rattle.map_betas.specs.Maps.{WellFormed}
use Rattle.cell_steps.specs.declared.cells.Cell.{Cell}
use Rattle.cell_steps.specs.declared.cells.Class.TheVariants.{Vertex, Edge}
use Rattle.cell_steps.specs.Idents.{cell_of}
use Rattle.sew_plan.specs.declared.Kind.TheVariants.{Split}
use Rattle.sew_plan.specs.declared.Entry.{Entry}
use Rattle.sew_ground.specs.Entries.{entries_if, listed, all_of}
use Rattle.sew_ground.proofs.EntryLaws.{none_asked, if_few, three_items}
use Rattle.sew_pairs.specs.Pairs.{three_far, pair_entries}

module _ (rows : List ℕ) (d : ℕ) where
  pub far_is : (b₁ b₂ far : ℕ) → b₁ ≡ beta rows 1 d → b₂ ≡ beta rows 2 d → far ≡ max b₁ b₂ → far ≡ three_far rows d
  unfolding three_far
  far_is b₁ b₂ far p₁ p₂ q = q ∙ ap (λ (x : ℕ). max x b₂) p₁ ∙ ap (λ (x : ℕ). max (beta rows 1 d) x) p₂

  pub far_below : WellFormed rows → three_far rows d < darts rows
  unfolding three_far
  far_below w = omega (arith, w.below 1 d, w.below 2 d)

module _ (rows : List ℕ) (l b₀ : ℕ) (e : b₀ ≡ beta rows 0 l) where
  pub open_none : (x y : Cell) → b₀ ≢ 0 → [] ≡ entries_if (eqb (beta rows 0 l) 0) Vertex Split x y
  open_none x y n = none_asked (eqb (beta rows 0 l) 0) Vertex Split x y (ne_eqb (beta rows 0 l) 0 (λ z. n (e ∙ z)))

pub pair_is : (rows : List ℕ) (l r far : ℕ) (a b d : Option Entry) →
    listed a ≡ entries_if true Edge Split (cell_of Edge rows l) (cell_of Edge rows r) → far ≡ three_far rows l →
    listed b ≡ entries_if true Vertex Split (cell_of Vertex rows far) (cell_of Vertex rows r) →
    listed d ≡ entries_if (eqb (beta rows 0 l) 0) Vertex Split (cell_of Vertex rows l) (cell_of Vertex rows (three_far rows r)) →
    all_of (a ∷ b ∷ d ∷ []) ≡ pair_entries rows l r
unfolding pair_entries
pair_is rows l r far a b d p f q s =
    three_items a b d _ _ _ p (q ∙ ap (λ (x : ℕ). entries_if true Vertex Split (cell_of Vertex rows x) (cell_of Vertex rows r)) f) s

pub pair_few : (rows : List ℕ) (l r : ℕ) → length (pair_entries rows l r) ≤ 3
unfolding pair_entries
pair_few rows l r =
    let es : List Entry = entries_if true Edge Split (cell_of Edge rows l) (cell_of Edge rows r) in
    let fs : List Entry = entries_if true Vertex Split (cell_of Vertex rows (three_far rows l)) (cell_of Vertex rows r) in
    let gs : List Entry = entries_if (eqb (beta rows 0 l) 0) Vertex Split (cell_of Vertex rows l) (cell_of Vertex rows (three_far rows r)) in
    omega (
      arith,
      length-append es (fs ++ gs),
      length-append fs gs,
      if_few true Edge Split (cell_of Edge rows l) (cell_of Edge rows r),
      if_few true Vertex Split (cell_of Vertex rows (three_far rows l)) (cell_of Vertex rows r),
      if_few (eqb (beta rows 0 l) 0) Vertex Split (cell_of Vertex rows l) (cell_of Vertex rows (three_far rows r)),
    )
