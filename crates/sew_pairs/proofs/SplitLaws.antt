-- The plan of a 3-unsew, part by part, with the values as the code has them.
--   first_is, back_none, back_some, open_null   the pairs of the two legs
--   pair_length, first_written          the splits of a pair, and of others behind it
--   pairs_same                          the splits of pairs that are the same
--   splits_length, splits_written       the whole plan
--   written_done                        the plan written where the entries fit
-- Assumes nothing.
use Rattle.std.specs.Prelude.{◌≡◌, ℕ, ◌+◌, ◌≤◌, Bool, true, false, cond, eqb, List, [], ◌∷◌, ◌++◌, length}
use native.Mathlib.Omega.{arith}
use mathlib.Core.Path.{refl, sym, ap, ◌∙◌}
use lib.ListN.{length-append}
use borrow.Author.Tests.{eqb-true}
use Rattle.map_betas.specs.Betas.{beta}
use Rattle.cell_steps.specs.declared.cells.Cell.{Cell}
use Rattle.cell_steps.specs.declared.cells.Class.TheVariants.{Face}
use Rattle.sew_plan.specs.declared.Entry.{Entry}
use Rattle.sew_plan.specs.Plan.{split_of, written, room_of}
use Rattle.sew_ground.specs.Entries.{written_all}
use Rattle.sew_ground.specs.Sewn.{settles, settled}
use Rattle.sew_ground.proofs.EntryLaws.{written_both, written_put}
use Rattle.sew_ground.proofs.SewnLaws.{settles_done}
use Rattle.sew_pairs.specs.Pairs.{Pairs, pair_entries, entries_of, leg_pairs}
use Rattle.sew_pairs.specs.Three.{first_pairs, first_end, back_pairs, pairs_of, splits_of}
use Rattle.sew_pairs.proofs.LegLaws.{entries_append, entries_turn}
use Rattle.map_betas.specs.Answers.{done}

-- the pairs of the two legs
module _ (rows : List ℕ) (ld rd : ℕ) where
  pub first_is : (x y : ℕ) → x ≡ beta rows 1 ld → y ≡ beta rows 0 rd → leg_pairs rows 1 0 ld x y ≡ first_pairs rows ld rd
  unfolding first_pairs
  first_is x y ex ey = λ s. leg_pairs rows 1 0 ld (ex s) (ey s)

  module _ (opened : Bool) (e : opened ≡ eqb (first_end rows ld) 0) where
    pub back_none : opened ≡ false → back_pairs rows ld rd ≡ []
    unfolding back_pairs
    back_none h = simp (sym e ∙ h)

    pub back_some : (x y : ℕ) → opened ≡ true → x ≡ beta rows 0 ld → y ≡ beta rows 1 rd → leg_pairs rows 0 1 0 x y ≡ back_pairs rows ld rd
    unfolding back_pairs
    back_some x y h ex ey =
        (λ s. leg_pairs rows 0 1 0 (ex s) (ey s))
        ∙ sym (ap (λ (b : Bool). cond b (leg_pairs rows 0 1 0 (beta rows 0 ld) (beta rows 1 rd)) []) (sym e ∙ h))

    pub open_null : opened ≡ true → first_end rows ld ≡ 0
    open_null h = eqb-true (first_end rows ld) 0 (sym e ∙ h)

-- the splits of a pair, and of others behind it
module _ (rows : List ℕ) (l r : ℕ) where
  pub pair_length : (ps : Pairs) → length (entries_of rows ((l, r) ∷ ps)) ≡ length (pair_entries rows l r) + length (entries_of rows ps)
  unfolding entries_of
  pair_length ps = length-append (pair_entries rows l r) (entries_of rows ps)

  pub first_written : (plan p₁ p₂ : List ℕ) (k k₁ k₂ : ℕ) (ps qs : Pairs) → p₁ ≡ written_all plan k (pair_entries rows l r) →
      k₁ ≡ k + length (pair_entries rows l r) → p₂ ≡ written_all p₁ k₁ (entries_of rows ps) → k₂ ≡ k₁ + length (entries_of rows ps) → ps ≡ qs →
      (k₂ ≡ k + length (entries_of rows ((l, r) ∷ qs))) × (p₂ ≡ written_all plan k (entries_of rows ((l, r) ∷ qs)))
  first_written plan p₁ p₂ k k₁ k₂ ps qs e₁ q₁ e₂ q₂ s =
      let t = entries_turn rows l r ps ((l, r) ∷ ps) refl plan p₁ k k₁ e₁ q₁ in (
        q₂ ∙ t.0 ∙ ap (λ (x : Pairs). k + length (entries_of rows ((l, r) ∷ x))) s,
        e₂ ∙ t.1 ∙ ap (λ (x : Pairs). written_all plan k (entries_of rows ((l, r) ∷ x))) s,
      )

-- the splits of pairs that are the same
pub pairs_same : (rows plan plan₁ : List ℕ) (k n : ℕ) (ps qs : Pairs) → ps ≡ qs → n ≡ k + length (entries_of rows ps) →
    plan₁ ≡ written_all plan k (entries_of rows ps) → (n ≡ k + length (entries_of rows qs)) × (plan₁ ≡ written_all plan k (entries_of rows qs))
pairs_same rows plan plan₁ k n ps qs s en p = (
  en ∙ ap (λ (x : Pairs). k + length (entries_of rows x)) s,
  p ∙ ap (λ (x : Pairs). written_all plan k (entries_of rows x)) s,
)

-- the whole plan
module _ (rows : List ℕ) (ld rd : ℕ) (left right : Cell) where
  abbrev ahead : Pairs
  ahead = (ld, rd) ∷ first_pairs rows ld rd

  both : entries_of rows (pairs_of rows ld rd) ≡ entries_of rows ahead ++ entries_of rows (back_pairs rows ld rd)
  unfolding pairs_of
  both = entries_append rows ahead (back_pairs rows ld rd)

  pub splits_length : length (splits_of rows left right (pairs_of rows ld rd))
      ≡ 1 + length (entries_of rows ahead) + length (entries_of rows (back_pairs rows ld rd))
  unfolding splits_of
  splits_length =
      omega (arith, ap (λ (es : List Entry). length es) both, length-append (entries_of rows ahead) (entries_of rows (back_pairs rows ld rd)))

  pub splits_written : (plan p₁ p₂ p₃ : List ℕ) (e : Entry) (k n : ℕ) → e ≡ split_of Face left right → p₁ ≡ written plan 0 e →
      p₂ ≡ written_all p₁ 1 (entries_of rows ahead) → k ≡ 1 + length (entries_of rows ahead) →
      p₃ ≡ written_all p₂ k (entries_of rows (back_pairs rows ld rd)) → n ≡ k + length (entries_of rows (back_pairs rows ld rd)) →
      (n ≡ length (splits_of rows left right (pairs_of rows ld rd))) × (p₃ ≡ written_all plan 0 (splits_of rows left right (pairs_of rows ld rd)))
  unfolding splits_of written_all
  splits_written plan p₁ p₂ p₃ e k n ee e₁ e₂ ek e₃ en =
      let es : List Entry = entries_of rows ahead in
      let gs : List Entry = entries_of rows (back_pairs rows ld rd) in (
        omega (arith, ek, en, splits_length),
        e₃ ∙ ap (λ (p : List ℕ). written_all p k gs) e₂ ∙ ap (λ (m : ℕ). written_all (written_all p₁ 1 es) m gs) ek ∙ written_both p₁ 1 es gs
            ∙ ap (written_all p₁ 1) (sym both)
            ∙ ap (λ (p : List ℕ). written_all p 1 (entries_of rows (pairs_of rows ld rd))) (e₁ ∙ ap (written plan 0) ee),
      )

-- the entries fit, and are written
pub written_done : (plan plan₁ : List ℕ) (d n k : ℕ) (es fs : List Entry) → es ≡ fs → n ≡ length es → plan₁ ≡ written_all plan 0 es → length fs ≤ k →
    k ≤ room_of plan →
    settles (done d n) plan₁ ≡ settled plan d fs
written_done plan plan₁ d n k es fs e en p h g =
    let m : n ≡ length fs = en ∙ ap (λ (x : List Entry). length x) e in
    settles_done plan d fs n m plan₁ (omega (arith, m, h, g)) (p ∙ ap (written_all plan 0) e ∙ written_put plan fs)
