-- The darts that a 3-link or a 3-unlink which is done went through are the face chain of ld. `tab` is the rows in which the pairs are linked,
-- `clr` those in which they are free: of a link the last rows and the first, of an unlink the first and the last.
--   Cover           each dart of the chain has its partner in `tab`, and every other image is the same in both
--   matching, linked, unlinkable, unlinked   what a cover says in the words of `specs/Matching.antt`
--   Table, table    the pairs of a leg in `tab` and in `clr`
--   Seen, seen, to  the darts of a closed face that were gone through, which are all of the chain, and their partners
--   cover_closed    the cover of a closed face
-- Assumes nothing.
use Prim.Native.Nat.{ℕ, suc, ◌<◌}
use native.Mathlib.Omega.{arith}
use native.Mathlib.Decide.{dec_lt}
use mathlib.Core.Path.{◌≡◌, refl, sym, ap, subst, ◌∙◌}
use mathlib.Core.Logic.{◌≢◌, by_cases}
use mathlib.Core.List.{List}
use mathlib.Core.Bool.{Bool, true, false, cond}
use lib.ListN.{length}
use Rattle.map_betas.specs.Betas.{beta}
use Rattle.map_betas.specs.Maps.{WellFormed}
use Rattle.map_betas.specs.Chains.{far}
use Rattle.map_betas.proofs.Chains.{far_zero, far_last, round_real, chain_far, chain_round}
use Rattle.link_walk.specs.Walk.{LegOut}
use Rattle.link_glue.specs.Matching.{Chain, ClosedChain, Facing, Matching, Linked, Unlinkable, Unlinked}
use Rattle.link_glue.proofs.Trace.{Trace}

pub record Cover (rows : List ℕ) (ld rd : ℕ) (tab clr : List ℕ) : Type 0 where
  pub starts : beta tab 3 ld ≡ rd
  pub facing : Facing rows ld (λ d. beta tab 3 d)
  pub real : (d : ℕ) → Chain rows ld d → beta tab 3 d ≢ 0
  pub linked : (d : ℕ) → Chain rows ld d → beta tab 3 (beta tab 3 d) ≡ d
  pub outside : (d : ℕ) → Chain rows ld d → Chain rows ld (beta tab 3 d) → ⊥
  pub free : (d : ℕ) → Chain rows ld d → (beta clr 3 d ≡ 0) × (beta clr 3 (beta tab 3 d) ≡ 0)
  pub others : (e : ℕ) → (Chain rows ld e → ⊥) → ((d : ℕ) → Chain rows ld d → e ≢ beta tab 3 d) → beta tab 3 e ≡ beta clr 3 e

-- of a link
module _ (rows : List ℕ) (ld rd : ℕ) (tab : List ℕ) (c : Cover rows ld rd tab rows) where
  pub matching : WellFormed tab → length tab ≡ length rows → Matching rows ld rd (λ d. beta tab 3 d)
  matching s q =
      record {
        starts = c.starts;
        facing = c.facing;
        real = λ d h. (c.real d h, let b = s.below 3 d in omega arith);
        outside = c.outside;
        different = λ d e h g z. sym (c.linked d h) ∙ ap (λ (x : ℕ). beta tab 3 x) z ∙ c.linked e g;
        free = c.free;
      }

  pub linked : ((i d : ℕ) → i < 3 → beta tab i d ≡ beta rows i d) → length tab ≡ length rows → Linked rows ld (λ d. beta tab 3 d) tab
  linked low q = record { left = λ d h. refl; right = c.linked; others = c.others; lower = low; long = q }

-- of an unlink
module _ (rows : List ℕ) (ld rd : ℕ) (clr : List ℕ) (c : Cover rows ld rd rows clr) where
  pub unlinkable : Unlinkable rows ld
  unlinkable = record { real = c.real; outside = c.outside; facing = c.facing }

  pub unlinked : ((i d : ℕ) → i < 3 → beta clr i d ≡ beta rows i d) → length clr ≡ length rows → Unlinked rows ld clr
  unlinked low q =
      record { left = λ d h. (c.free d h).0; right = λ d h. (c.free d h).1; others = λ e a b. sym (c.others e a b); lower = low; long = q }

-- the pairs of a leg
pub record Table (tab clr base : List ℕ) (i j l r m : ℕ) : Type 0 where
  pub tab_l : (t : ℕ) → t < m → beta tab 3 (far base i t l) ≡ far base j t r
  pub tab_r : (t : ℕ) → t < m → beta tab 3 (far base j t r) ≡ far base i t l
  pub clr_l : (t : ℕ) → t < m → beta clr 3 (far base i t l) ≡ 0
  pub clr_r : (t : ℕ) → t < m → beta clr 3 (far base j t r) ≡ 0

pub table : (parting : Bool) (was last base : List ℕ) (i j l r m : ℕ) →
    ((t : ℕ) → t < m → beta was 3 (far base i t l) ≡ cond parting (far base j t r) 0) →
    ((t : ℕ) → t < m → beta was 3 (far base j t r) ≡ cond parting (far base i t l) 0) →
    ((t : ℕ) → t < m → beta last 3 (far base i t l) ≡ cond parting 0 (far base j t r)) →
    ((t : ℕ) → t < m → beta last 3 (far base j t r) ≡ cond parting 0 (far base i t l)) →
    Table (cond parting was last) (cond parting last was) base i j l r m
table true was last base i j l r m wl wr nl nr = record { tab_l = wl; tab_r = wr; clr_l = nl; clr_r = nr }
table false was last base i j l r m wl wr nl nr = record { tab_l = nl; tab_r = nr; clr_l = wl; clr_r = wr }

pub both_ways : (parting : Bool) (was last : List ℕ) (e : ℕ) → beta last 3 e ≡ beta was 3 e →
    beta (cond parting was last) 3 e ≡ beta (cond parting last was) 3 e
both_ways true was last e q = sym q
both_ways false was last e q = q

-- the closed face
module _ (parting : Bool) (rows : List ℕ) (ld rd : ℕ) (s : WellFormed rows) (nl : ld ≢ 0) (m : ℕ) (w : LegOut)
    (v : Trace parting rows 1 0 ld rows ld rd (suc m) w) (z : w.leg.pair.l ≡ ld) where
  abbrev L : ℕ → ℕ
  L t = far rows 1 t ld

  abbrev R : ℕ → ℕ
  R t = far rows 0 t rd

  abbrev tab : List ℕ
  tab = cond parting rows w.rows

  abbrev clr : List ℕ
  clr = cond parting w.rows rows

  abbrev pub Seen : ℕ → Type 0
  Seen d = (t : ℕ) × (t < suc m) × (d ≡ L t)

  pairs : Table tab clr rows 1 0 ld rd (suc m)
  pairs = table parting rows w.rows rows 1 0 ld rd (suc m) v.was_l v.was_r v.now_l v.now_r

  loop : L (suc m) ≡ ld
  loop = sym v.end_l ∙ z

  next : (t : ℕ) → beta rows 1 (L t) ≢ 0
  next t e = round_real rows s 1 (omega arith) m ld nl loop (suc t) (far_last rows 1 t ld ∙ e)

  pub to : (d : ℕ) (x : Seen d) → beta tab 3 d ≡ R x.0
  to d x = ap (λ (y : ℕ). beta tab 3 y) x.2 ∙ pairs.tab_l x.0 x.1

  pub seen : (d : ℕ) → Chain rows ld d → Seen d
  seen d c = chain_round rows s ld nl m loop c

  in_chain : (t : ℕ) → t < suc m → Chain rows ld (L t)
  in_chain t h = chain_far rows s ld 1 (omega arith) t (v.real_l t h)

  is_closed : ClosedChain rows ld
  is_closed = record { never_null = λ d c. let x = seen d c in λ e. next x.0 (ap (λ (y : ℕ). beta rows 1 y) (sym x.2) ∙ e) }

  step : (d : ℕ) → Seen d → (ClosedChain rows ld → beta rows 1 d ≢ ld) → beta rows 0 (beta tab 3 d) ≡ beta tab 3 (beta rows 1 d)
  step d x o =
      by_cases (dec_lt (suc x.0) (suc m))
      (λ (a : suc x.0 < suc m).
      ap (λ (y : ℕ). beta rows 0 y) (to d x)
      ∙ sym (far_last rows 0 x.0 rd)
      ∙ sym (to (beta rows 1 d) (suc x.0, a, ap (λ (y : ℕ). beta rows 1 y) x.2 ∙ sym (far_last rows 1 x.0 ld))))
      (λ (a : suc x.0 < suc m → ⊥).
      let h = x.1 in
      let q : x.0 ≡ m = omega arith in
      absurd (o is_closed (ap (λ (y : ℕ). beta rows 1 y) (x.2 ∙ ap L q) ∙ sym (far_last rows 1 m ld) ∙ loop)))

  pub cover_closed : Cover rows ld rd tab clr
  cover_closed =
      record {
        starts = to ld (0, omega arith, sym (far_zero rows 1 ld)) ∙ far_zero rows 0 rd;
        facing = record { steps = λ d c n. step d (seen d c); ends = λ d c e. absurd (is_closed.never_null d c e) };
        real = λ d c e. let x = seen d c in v.real_r x.0 x.1 (sym (to d x) ∙ e);
        linked = λ d c. let x = seen d c in ap (λ (y : ℕ). beta tab 3 y) (to d x) ∙ pairs.tab_r x.0 x.1 ∙ sym x.2;
        outside = λ d c g. let x = seen d c in let y = seen _ g in v.apart y.0 x.0 y.1 x.1 (sym y.2 ∙ to d x);
        free = λ d c.
            let x = seen d c in
            (ap (λ (y : ℕ). beta clr 3 y) x.2 ∙ pairs.clr_l x.0 x.1, ap (λ (y : ℕ). beta clr 3 y) (to d x) ∙ pairs.clr_r x.0 x.1);
        others = λ e a b.
            both_ways parting rows w.rows e
            (v.other e
            (λ t h. (
              λ y. a (subst (λ (x : ℕ). Chain rows ld x) (sym y) (in_chain t h)),
              λ y. b (L t) (in_chain t h) (y ∙ sym (pairs.tab_l t h)),
            )));
      }
