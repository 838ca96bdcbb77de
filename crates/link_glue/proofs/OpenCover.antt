-- The cover of an open face (`cover_open`): the first leg went to the end of the chain, the second back from ld to its beginning. `Front` are the
-- darts of the first, `Rear` those of the second: all of the chain (`met`), with their partners (`to_front`, `to_rear`). Assumes nothing.
use Prim.Native.Nat.{ℕ, zero, suc, ◌<◌}
use native.Mathlib.Omega.{arith}
use native.Mathlib.Decide.{dec_lt}
use mathlib.Core.Path.{◌≡◌, sym, ap, subst, ◌∙◌}
use mathlib.Core.Logic.{◌≢◌, ◌⊎◌, inl, inr, ⊎_elim, by_cases}
use mathlib.Core.List.{List}
use mathlib.Core.Bool.{Bool, cond}
use Rattle.map_betas.specs.Betas.{beta}
use Rattle.map_betas.specs.Maps.{WellFormed}
use Rattle.map_betas.specs.Chains.{Chain, far}
use Rattle.map_betas.proofs.Chains.{far_zero, far_suc, far_last, far_real, step_back, chain_far, chain_line}
use Rattle.link_walk.specs.Walk.{LegOut}
use Rattle.link_glue.proofs.Trace.{clash, Trace}
use Rattle.link_glue.proofs.Covers.{Cover, Table, table, both_ways}

-- w after the first leg, u after the second
module _ (parting : Bool) (rows : List ℕ) (ld rd : ℕ) (s : WellFormed rows) (nl : ld ≢ 0) (m : ℕ) (w : LegOut)
    (v : Trace parting rows 1 0 ld rows ld rd (suc m) w) (zl : w.leg.pair.l ≡ 0) (zr : w.leg.pair.r ≡ 0)
    (k : ℕ) (u : LegOut) (x₂ : Trace parting rows 0 1 0 w.rows (beta rows 0 ld) (beta rows 1 rd) k u) where
  abbrev F : ℕ → ℕ
  F t = far rows 1 t ld

  abbrev G : ℕ → ℕ
  G t = far rows 0 t rd

  abbrev B : ℕ → ℕ
  B t = far rows 0 t (beta rows 0 ld)

  abbrev C : ℕ → ℕ
  C t = far rows 1 t (beta rows 1 rd)

  abbrev tab : List ℕ
  tab = cond parting rows u.rows

  abbrev clr : List ℕ
  clr = cond parting u.rows rows

  abbrev pub Front : ℕ → Type 0
  Front d = (t : ℕ) × (t < suc m) × (d ≡ F t)

  abbrev pub Rear : ℕ → Type 0
  Rear d = (t : ℕ) × (t < k) × (d ≡ B t)

  abbrev pub Met : ℕ → Type 0
  Met d = Front d ⊎ Rear d

  end_front : F (suc m) ≡ 0
  end_front = sym v.end_l ∙ zl

  end_partner : G (suc m) ≡ 0
  end_partner = sym v.end_r ∙ zr

  end_rear : B k ≡ 0
  end_rear = sym x₂.end_l ∙ ⊎_elim (λ e. e) (λ e. e) x₂.ended

  abbrev at_ld : Front ld
  at_ld = (0, omega arith, sym (far_zero rows 1 ld))

  -- between the legs the first leg's pairs have changed, and the second's have not
  module _ (t q : ℕ) (h : t < suc m) (g : q < k) where
    front_rear : F t ≢ B q
    front_rear e = clash parting _ _ (sym (x₂.was_l q g) ∙ ap (λ (y : ℕ). beta w.rows 3 y) (sym e) ∙ v.now_l t h) (x₂.real_r q g) (v.real_r t h)

    front_image : F t ≢ C q
    front_image e = clash parting _ _ (sym (x₂.was_r q g) ∙ ap (λ (y : ℕ). beta w.rows 3 y) (sym e) ∙ v.now_l t h) (x₂.real_l q g) (v.real_r t h)

    partner_rear : G t ≢ B q
    partner_rear e = clash parting _ _ (sym (x₂.was_l q g) ∙ ap (λ (y : ℕ). beta w.rows 3 y) (sym e) ∙ v.now_r t h) (x₂.real_r q g) (v.real_l t h)

    partner_image : G t ≢ C q
    partner_image e = clash parting _ _ (sym (x₂.was_r q g) ∙ ap (λ (y : ℕ). beta w.rows 3 y) (sym e) ∙ v.now_r t h) (x₂.real_l q g) (v.real_l t h)

  -- so the first leg's pairs in the end, and the second's at first
  front : Table tab clr rows 1 0 ld rd (suc m)
  front =
      table parting rows u.rows rows 1 0 ld rd (suc m) v.was_l v.was_r
      (λ t h. x₂.other (F t) (λ q g. (front_rear t q h g, front_image t q h g)) ∙ v.now_l t h)
      (λ t h. x₂.other (G t) (λ q g. (partner_rear t q h g, partner_image t q h g)) ∙ v.now_r t h)

  rear : Table tab clr rows 0 1 (beta rows 0 ld) (beta rows 1 rd) k
  rear =
      table parting rows u.rows rows 0 1 (beta rows 0 ld) (beta rows 1 rd) k
      (λ q g. sym (v.other (B q) (λ t h. ((λ e. front_rear t q h g (sym e)), (λ e. partner_rear t q h g (sym e))))) ∙ x₂.was_l q g)
      (λ q g. sym (v.other (C q) (λ t h. ((λ e. front_image t q h g (sym e)), (λ e. partner_image t q h g (sym e))))) ∙ x₂.was_r q g)
      x₂.now_l x₂.now_r

  pub to_front : (d : ℕ) (x : Front d) → beta tab 3 d ≡ G x.0
  to_front d x = ap (λ (y : ℕ). beta tab 3 y) x.2 ∙ front.tab_l x.0 x.1

  pub to_rear : (d : ℕ) (x : Rear d) → beta tab 3 d ≡ C x.0
  to_rear d x = ap (λ (y : ℕ). beta tab 3 y) x.2 ∙ rear.tab_l x.0 x.1

  front_last : (d : ℕ) (x : Front d) → beta rows 1 d ≡ F (suc x.0)
  front_last d x = ap (λ (y : ℕ). beta rows 1 y) x.2 ∙ sym (far_last rows 1 x.0 ld)

  front_more : (d : ℕ) (x : Front d) → beta rows 1 d ≢ 0 → suc x.0 < suc m
  front_more d x n =
      by_cases (dec_lt (suc x.0) (suc m)) (λ a. a)
      (λ (a : suc x.0 < suc m → ⊥).
      let h = x.1 in
      let q : suc x.0 ≡ suc m = omega arith in
      absurd (n (front_last d x ∙ ap F q ∙ end_front)))

  -- a step forward from the rear, and back between the partners
  up : (t : ℕ) → t < k → (beta rows 1 (B t) ≡ far rows 0 t ld) × (beta rows 0 (C t) ≡ beta tab 3 (far rows 0 t ld))
  up t h =
      let nb : far rows 0 (suc t) ld ≢ 0 = λ e. x₂.real_l t h (sym (far_suc rows 0 t ld) ∙ e) in
      let nc : far rows 1 (suc t) rd ≢ 0 = λ e. x₂.real_r t h (sym (far_suc rows 1 t rd) ∙ e) in (
        ap (λ (y : ℕ). beta rows 1 y) (sym (far_suc rows 0 t ld)) ∙ step_back rows s ld 0 (omega arith) t nb,
        ap (λ (y : ℕ). beta rows 0 y) (sym (far_suc rows 1 t rd)) ∙ step_back rows s rd 1 (omega arith) t nc ∙ to_partner t h,
      )
    where
      to_partner : (t : ℕ) → t < k → far rows 1 t rd ≡ beta tab 3 (far rows 0 t ld)
      to_partner zero h = rw (far_zero rows 1 rd, far_zero rows 0 ld) (sym (to_front ld at_ld ∙ far_zero rows 0 rd))
      to_partner (suc t) h = rw (far_suc rows 1 t rd, far_suc rows 0 t ld) (sym (rear.tab_l t (omega arith)))

  up_real : (t : ℕ) → (h : t < k) → beta rows 1 (B t) ≢ 0
  up_real t h e =
      far_real rows s 0 (omega arith) t (suc t) ld (omega arith) (λ z. x₂.real_l t h (sym (far_suc rows 0 t ld) ∙ z)) (sym (up t h).0 ∙ e)

  pub met : (d : ℕ) → Chain rows ld d → Met d
  met d c =
      ⊎_elim inl (λ x. inr (x.0, x.1, x.2 ∙ far_suc rows 0 x.0 ld))
      (chain_line rows s ld nl (suc m) k end_front (far_suc rows 0 k ld ∙ end_rear) c)

  step_open : (d : ℕ) → Met d → beta rows 1 d ≢ 0 → beta rows 0 (beta tab 3 d) ≡ beta tab 3 (beta rows 1 d)
  step_open d (inl x) n =
      ap (λ (y : ℕ). beta rows 0 y) (to_front d x)
      ∙ sym (far_last rows 0 x.0 rd)
      ∙ sym (to_front (beta rows 1 d) (suc x.0, front_more d x n, front_last d x))
  step_open d (inr x) n =
      ap (λ (y : ℕ). beta rows 0 y) (to_rear d x)
      ∙ (up x.0 x.1).1
      ∙ ap (λ (y : ℕ). beta tab 3 y) (sym (ap (λ (y : ℕ). beta rows 1 y) x.2 ∙ (up x.0 x.1).0))

  end_open : (d : ℕ) → Met d → beta rows 1 d ≡ 0 → beta rows 0 (beta tab 3 d) ≡ 0
  end_open d (inl x) e =
      by_cases (dec_lt (suc x.0) (suc m))
      (λ (a : suc x.0 < suc m). absurd (v.real_l (suc x.0) a (sym (front_last d x) ∙ e)))
      (λ (a : suc x.0 < suc m → ⊥).
      let h = x.1 in
      let q : suc x.0 ≡ suc m = omega arith in
      ap (λ (y : ℕ). beta rows 0 y) (to_front d x) ∙ sym (far_last rows 0 x.0 rd) ∙ ap G q ∙ end_partner)
  end_open d (inr x) e = absurd (up_real x.0 x.1 (ap (λ (y : ℕ). beta rows 1 y) (sym x.2) ∙ e))

  real_open : (d : ℕ) → Met d → beta tab 3 d ≢ 0
  real_open d (inl x) e = v.real_r x.0 x.1 (sym (to_front d x) ∙ e)
  real_open d (inr x) e = x₂.real_r x.0 x.1 (sym (to_rear d x) ∙ e)

  linked_open : (d : ℕ) → Met d → beta tab 3 (beta tab 3 d) ≡ d
  linked_open d (inl x) = ap (λ (y : ℕ). beta tab 3 y) (to_front d x) ∙ front.tab_r x.0 x.1 ∙ sym x.2
  linked_open d (inr x) = ap (λ (y : ℕ). beta tab 3 y) (to_rear d x) ∙ rear.tab_r x.0 x.1 ∙ sym x.2

  outside_open : (d : ℕ) → Met d → Met (beta tab 3 d) → ⊥
  outside_open d (inl x) (inl y) = v.apart y.0 x.0 y.1 x.1 (sym y.2 ∙ to_front d x)
  outside_open d (inl x) (inr y) = partner_rear x.0 y.0 x.1 y.1 (sym (to_front d x) ∙ y.2)
  outside_open d (inr x) (inl y) = front_image y.0 x.0 y.1 x.1 (sym y.2 ∙ to_rear d x)
  outside_open d (inr x) (inr y) = x₂.apart y.0 x.0 y.1 x.1 (sym y.2 ∙ to_rear d x)

  free_open : (d : ℕ) → Met d → (beta clr 3 d ≡ 0) × (beta clr 3 (beta tab 3 d) ≡ 0)
  free_open d (inl x) =
      (ap (λ (y : ℕ). beta clr 3 y) x.2 ∙ front.clr_l x.0 x.1, ap (λ (y : ℕ). beta clr 3 y) (to_front d x) ∙ front.clr_r x.0 x.1)
  free_open d (inr x) =
      (ap (λ (y : ℕ). beta clr 3 y) x.2 ∙ rear.clr_l x.0 x.1, ap (λ (y : ℕ). beta clr 3 y) (to_rear d x) ∙ rear.clr_r x.0 x.1)

  in_front : (t : ℕ) → t < suc m → Chain rows ld (F t)
  in_front t h = chain_far rows s ld 1 (omega arith) t (v.real_l t h)

  in_rear : (t : ℕ) → t < k → Chain rows ld (B t)
  in_rear t h = rw (far_suc rows 0 t ld) at (chain_far rows s ld 0 (omega arith) (suc t) (λ z. x₂.real_l t h (sym (far_suc rows 0 t ld) ∙ z)))

  pub cover_open : Cover rows ld rd tab clr
  cover_open =
      record {
        starts = to_front ld at_ld ∙ far_zero rows 0 rd;
        facing = record { steps = λ d c n o. step_open d (met d c) n; ends = λ d c. end_open d (met d c) };
        real = λ d c. real_open d (met d c);
        linked = λ d c. linked_open d (met d c);
        outside = λ d c g. outside_open d (met d c) (met _ g);
        free = λ d c. free_open d (met d c);
        others = λ e a b.
            both_ways parting rows u.rows e
            (x₂.other e
            (λ t h. (λ y. a (subst (λ (x : ℕ). Chain rows ld x) (sym y) (in_rear t h)), λ y. b (B t) (in_rear t h) (y ∙ sym (rear.tab_l t h))))
            ∙ v.other e
            (λ t h. (λ y. a (subst (λ (x : ℕ). Chain rows ld x) (sym y) (in_front t h)), λ y. b (F t) (in_front t h) (y ∙ sym (front.tab_l t h)))));
      }
