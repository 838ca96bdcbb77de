-- A matching is unique: a 3-link gives each dart of the chain the partner that any matching says (`partner_is`), so that two matchings agree
-- (`unique`), and exactly the pairs of a matching become linked (`linked_by`). Assumes nothing.
use Prim.Native.Nat.{ℕ, suc, ◌<◌}
use native.Mathlib.Omega.{arith}
use mathlib.Core.Path.{◌≡◌, sym, ap, ◌∙◌}
use mathlib.Core.Logic.{◌≢◌, ⊎_elim}
use mathlib.Core.List.{List}
use mathlib.Core.Bool.{true, false}
use Rattle.map_betas.specs.Betas.{beta, darts}
use Rattle.map_betas.specs.Answers.{Out}
use Rattle.map_betas.specs.Maps.{WellFormed}
use Rattle.map_betas.specs.Chains.{far}
use Rattle.map_betas.proofs.Chains.{far_zero}
use Rattle.link_walk.specs.Walk.{LegOut}
use Rattle.link_walk.specs.Three.{three_link_on}
use Rattle.link_glue.specs.Matching.{Chain, Matching, Linked}
use Rattle.link_glue.proofs.Trace.{Trace}
use Rattle.link_glue.proofs.Success.{Success, closed, opened, link_success}
use Rattle.link_glue.proofs.Covers.{Seen, seen, to}
use Rattle.link_glue.proofs.OpenCover.{Front, Rear, met, to_front, to_rear}
use Rattle.link_glue.proofs.Found.{trace₁, trace₂, link_found}
use Rattle.link_glue.proofs.Asked.{Partners, nr, along, chain₂, link_partners, link_asked}
use Rattle.std.specs.Prelude.{is_ok}

module _ (rows : List ℕ) (ld rd : ℕ) (p : ℕ → ℕ) (s : WellFormed rows) (nl : ld ≢ 0) (hl : ld < darts rows)
    (hr : rd < darts rows) (q : Matching rows ld rd p) where
  f : Partners rows ld rd p
  f = link_partners rows ld rd p q

  real_rd : rd ≢ 0
  real_rd = nr false rows ld rd p s nl hl hr f q.free

  -- along a face whose darts are all different
  partner : (m stop : ℕ) (xs : List ℕ) (w : LegOut) → Trace false rows 1 0 stop xs ld rd m w → (t : ℕ) → t < m → p (far rows 1 t ld) ≡ far rows 0 t rd
  partner m stop xs w v t h =
      along false rows ld rd p s nl hl hr f q.free t
      (λ u k. (v.real_l (suc u) (omega arith), λ c z. v.distinct 0 (suc u) (omega arith) (omega arith) (far_zero rows 1 ld ∙ sym z)))

  same : (o : Out) → Success false 0 rows ld rd o → (d : ℕ) → Chain rows ld d → beta o.rows 3 d ≡ p d
  same o (closed rows₁ h w e t z r) d c =
      let v = trace₁ false rows ld rd s hl nl hr rows₁ h w e t in
      let y : w.leg.pair.l ≡ ld = ⊎_elim (λ a. absurd (z a)) (λ a. a) v.1.ended in
      let x : Seen false rows ld rd s nl v.0 w v.1 y d = seen false rows ld rd s nl v.0 w v.1 y d c in
      ap (λ (a : Out). beta a.rows 3 d) r
      ∙ to false rows ld rd s nl v.0 w v.1 y d x
      ∙ sym (partner (suc v.0) ld rows w v.1 x.0 x.1)
      ∙ ap p (sym x.2)
  same o (opened rows₁ h w e t zl zr u e₂ t₂ r) d c =
      let v = trace₁ false rows ld rd s hl nl hr rows₁ h w e t in
      let x = trace₂ false rows ld rd s hl nl hr rows₁ h w e u e₂ t₂ in
      ap (λ (a : Out). beta a.rows 3 d) r
      ∙ ⊎_elim
      (λ (y : Front false rows ld rd s nl v.0 w v.1 zl zr x.0 u x.1 d).
      to_front false rows ld rd s nl v.0 w v.1 zl zr x.0 u x.1 d y
      ∙ sym (partner (suc v.0) ld rows w v.1 y.0 y.1) ∙ ap p (sym y.2))
      (λ (y : Rear false rows ld rd s nl v.0 w v.1 zl zr x.0 u x.1 d).
      to_rear false rows ld rd s nl v.0 w v.1 zl zr x.0 u x.1 d y
      ∙ sym (chain₂ false rows ld rd p s nl hl hr f q.free w v.0 v.1 zl y.0
      (λ a k. let b : a < x.0 = let g = y.1 in omega arith in (x.1.real_l a b, x.1.real_l a b))).1
      ∙ ap p (sym y.2))
      (met false rows ld rd s nl v.0 w v.1 zl zr x.0 u x.1 d c)

  done : is_ok (three_link_on rows ld rd).answer ≡ true
  done = link_asked rows ld rd s nl hl p hr q

  pub partner_is : (d : ℕ) → Chain rows ld d → beta (three_link_on rows ld rd).rows 3 d ≡ p d
  partner_is = same (three_link_on rows ld rd) (link_success rows ld rd s nl real_rd done)

  pub linked_by : Linked rows ld p (three_link_on rows ld rd).rows
  linked_by =
      let g = (link_found rows ld rd s hl nl hr real_rd done).1 in
      record {
        left = partner_is;
        right = λ d c. ap (λ (y : ℕ). beta (three_link_on rows ld rd).rows 3 y) (sym (partner_is d c)) ∙ g.right d c;
        others = λ e a b. g.others e a (λ d c z. b d c (z ∙ partner_is d c));
        lower = g.lower;
        long = g.long;
      }

pub unique : (rows : List ℕ) (ld rd : ℕ) → WellFormed rows → ld ≢ 0 → ld < darts rows → rd < darts rows → (p q : ℕ → ℕ) → Matching rows ld rd p →
    Matching rows ld rd q →
    (d : ℕ) → Chain rows ld d → p d ≡ q d
unique rows ld rd s nl hl hr p q a b d c = sym (partner_is rows ld rd p s nl hl hr a d c) ∙ partner_is rows ld rd q s nl hl hr b d c
