-- Going on from a dart by one beta, until null or round.
--   Run rows i stop l m    the first m darts from l on by beta i are real and not at the dart `stop`
--   Ends rows i stop l m   and the next is null or at the stop
--   far_zero, far_suc, far_last, far_plus   steps one by one, and in two parts
--   far_alike              other betas do not matter
--   far_null, far_real     after null comes null
--   far_undo, far_again, step_back   steps are undone by the beta that leads back; a dart that is met twice leads round
--   round_real             what leads round never meets null
--   chain_real, chain_trans, chain_far   the darts of a chain; steps keep to it
--   chain_alike               beta 2 and beta 3 do not matter
--   chain_round, round_before, chain_line   the darts of a chain that is round, and of one that ends in null both ways
--   ends_on                one step on towards the end
-- Assumes nothing.
use Prim.Native.Nat.{ℕ, zero, suc, ◌+◌, ◌-◌, ◌<◌, ◌≤◌}
use native.Mathlib.Omega.{arith}
use native.Mathlib.Decide.{dec_lt}
use mathlib.Core.Path.{◌≡◌, refl, sym, ap, ◌∙◌}
use mathlib.Core.Logic.{◌≢◌, ◌⊎◌, inl, inr, ⊎_elim, by_cases}
use mathlib.Core.List.{List}
use Rattle.map_betas.specs.Betas.{beta, opp}
use Rattle.map_betas.specs.Chains.{far, Chain, first, on, back}
use Rattle.map_betas.specs.Maps.{WellFormed}

-- the first m darts from l on by beta i are real and not at the stop
abbrev pub Run : List ℕ → ℕ → ℕ → ℕ → ℕ → Type 0
Run rows i stop l m = (t : ℕ) → t < m → (far rows i t l ≢ 0) × (far rows i t l ≢ stop)

pub record Ends (rows : List ℕ) (i stop l m : ℕ) : Type 0 where
  pub run : Run rows i stop l m
  pub over : (far rows i m l ≡ 0) ⊎ (far rows i m l ≡ stop)

-- ---- steps

module _ (rows : List ℕ) (i : ℕ) where
  pub far_zero : (d : ℕ) → far rows i 0 d ≡ d
  unfolding far
  far_zero d = refl

  pub far_suc : (t d : ℕ) → far rows i (suc t) d ≡ far rows i t (beta rows i d)
  unfolding far
  far_suc t d = refl

  -- one step more at the far end
  pub far_last : (t d : ℕ) → far rows i (suc t) d ≡ beta rows i (far rows i t d)
  unfolding far
  far_last zero d = refl
  far_last (suc t) d = far_last t (beta rows i d)

  pub far_plus : (t x d : ℕ) → far rows i (t + x) d ≡ far rows i x (far rows i t d)
  far_plus zero x d =
      let q : 0 + x ≡ x = omega arith in
      rw (q, far_zero d)
  far_plus (suc t) x d =
      let q : suc t + x ≡ suc (t + x) = omega arith in
      rw (q, far_suc (t + x) d, far_suc t d) (far_plus t x (beta rows i d))

-- rows with the same images by beta i have the same steps
pub far_alike : (xs ys : List ℕ) (i : ℕ) → ((d : ℕ) → beta xs i d ≡ beta ys i d) → (t d : ℕ) → far xs i t d ≡ far ys i t d
far_alike xs ys i same zero d = far_zero xs i d ∙ sym (far_zero ys i d)
far_alike xs ys i same (suc t) d =
    far_last xs i t d ∙ same (far xs i t d) ∙ ap (beta ys i) (far_alike xs ys i same t d) ∙ sym (far_last ys i t d)

module _ (rows : List ℕ) (w : WellFormed rows) (i : ℕ) (hi : i < 4) where
  pub far_null : (t : ℕ) → far rows i t 0 ≡ 0
  far_null zero = far_zero rows i 0
  far_null (suc t) = far_last rows i t 0 ∙ ap (beta rows i) (far_null t) ∙ w.null i hi

  pub far_real : (t u d : ℕ) → t ≤ u → far rows i u d ≢ 0 → far rows i t d ≢ 0
  far_real t u d h n z =
      let q : t + (u - t) ≡ u = omega arith in
      n (ap (λ (k : ℕ). far rows i k d) (sym q) ∙ far_plus rows i t (u - t) d ∙ ap (far rows i (u - t)) z ∙ far_null (u - t))

  pub far_undo : (t d : ℕ) → far rows i t d ≢ 0 → far rows (opp i) t (far rows i t d) ≡ d
  far_undo zero d n = far_zero rows (opp i) (far rows i 0 d) ∙ far_zero rows i d
  far_undo (suc t) d n =
      let m : beta rows i d ≢ 0 = λ z. far_real 1 (suc t) d (omega arith) n (far_suc rows i 0 d ∙ far_zero rows i (beta rows i d) ∙ z) in
      ap (far rows (opp i) (suc t)) (far_suc rows i t d)
      ∙ far_last rows (opp i) t (far rows i t (beta rows i d))
      ∙ ap (beta rows (opp i)) (far_undo t (beta rows i d) (λ z. n (far_suc rows i t d ∙ z)))
      ∙ w.back i d hi m

  pub far_again : (t u d : ℕ) → t ≤ u → far rows i u d ≢ 0 → far rows i t d ≡ far rows i u d → far rows i (u - t) d ≡ d
  far_again t u d h n e =
      let q : (u - t) + t ≡ u = omega arith in
      let f : far rows i u d ≡ far rows i t (far rows i (u - t) d) = ap (λ (k : ℕ). far rows i k d) (sym q) ∙ far_plus rows i (u - t) t d in
      sym (far_undo t (far rows i (u - t) d) (λ z. n (f ∙ z)))
      ∙ ap (far rows (opp i) t) (sym f ∙ sym e)
      ∙ far_undo t d (λ z. n (sym e ∙ z))

  -- what leads round never meets null
  module _ (m d : ℕ) (real : d ≢ 0) (e : far rows i (suc m) d ≡ d) where
    within : (t : ℕ) → t ≤ suc m → far rows i t d ≢ 0
    within t h = far_real t (suc m) d h (λ z. real (sym e ∙ z))

    below : (f t : ℕ) → t < f → far rows i t d ≢ 0
    below zero t h = absurd (omega arith)
    below (suc f) t h =
        by_cases (dec_lt t (suc m))
        (λ (l : t < suc m). within t (omega arith))
        (λ (l : t < suc m → ⊥).
        let q : suc m + (t - suc m) ≡ t = omega arith in
        λ z. below f (t - suc m) (omega arith)
        (sym (ap (far rows i (t - suc m)) e) ∙ sym (far_plus rows i (suc m) (t - suc m) d) ∙ ap (λ (k : ℕ). far rows i k d) q ∙ z))

    pub round_real : (t : ℕ) → far rows i t d ≢ 0
    round_real t = below (suc t) t (omega arith)

-- ---- the darts of a chain

module _ (rows : List ℕ) (d : ℕ) where
  chain_real : d ≢ 0 → {x : ℕ} → Chain rows d x → x ≢ 0
  chain_real n first = n
  chain_real n (on c r) = r
  chain_real n (back c r) = r

pub chain_trans : {rows : List ℕ} {a b x : ℕ} → Chain rows a b → Chain rows b x → Chain rows a x
chain_trans r first = r
chain_trans r (on c n) = on (chain_trans r c) n
chain_trans r (back c n) = back (chain_trans r c) n

-- rows with the same images by beta 0 and beta 1 have the same chains
pub chain_alike : (d : ℕ) (xs ys : List ℕ) → ((i x : ℕ) → i < 2 → beta xs i x ≡ beta ys i x) → {x : ℕ} → Chain xs d x → Chain ys d x
chain_alike d xs ys same first = first
chain_alike d xs ys same (on {d = x} c n) = rw (same 1 x (omega arith)) (on (chain_alike d xs ys same c) (λ z. n (same 1 x (omega arith) ∙ z)))
chain_alike d xs ys same (back {d = x} c n) = rw (same 0 x (omega arith)) (back (chain_alike d xs ys same c) (λ z. n (same 0 x (omega arith) ∙ z)))

module _ (rows : List ℕ) (w : WellFormed rows) (d : ℕ) where
  pub chain_far : (i : ℕ) → i < 2 → (t : ℕ) → far rows i t d ≢ 0 → Chain rows d (far rows i t d)
  chain_far i h zero n = rw (far_zero rows i d) first
  chain_far zero h (suc t) n =
      rw (far_last rows 0 t d) (back (chain_far 0 h t (far_real rows w 0 (omega arith) t (suc t) d (omega arith) n)) (λ z. n (far_last rows 0 t d ∙ z)))
  chain_far (suc zero) h (suc t) n =
      rw (far_last rows 1 t d) (on (chain_far 1 h t (far_real rows w 1 (omega arith) t (suc t) d (omega arith) n)) (λ z. n (far_last rows 1 t d ∙ z)))
  chain_far (suc (suc i)) h (suc t) n = absurd (omega arith)

  -- the last of some steps undone
  pub step_back : (i : ℕ) → i < 4 → (t : ℕ) → far rows i (suc t) d ≢ 0 → beta rows (opp i) (far rows i (suc t) d) ≡ far rows i t d
  step_back i hi t n = ap (beta rows (opp i)) (far_last rows i t d) ∙ w.back i (far rows i t d) hi (λ z. n (far_last rows i t d ∙ z))

  -- a chain that is round
  module _ (real : d ≢ 0) (m : ℕ) (e : far rows 1 (suc m) d ≡ d) where
    Seen : ℕ → Type 0
    Seen x = (t : ℕ) × (t < suc m) × (x ≡ far rows 1 t d)

    all : (t : ℕ) → far rows 1 t d ≢ 0
    all = round_real rows w 1 (omega arith) m d real e

    seen_on : (x t : ℕ) → t < suc m → x ≡ far rows 1 t d → Seen (beta rows 1 x)
    unfolding Seen
    seen_on x t h q =
        let f : beta rows 1 x ≡ far rows 1 (suc t) d = ap (beta rows 1) q ∙ sym (far_last rows 1 t d) in
        by_cases (dec_lt t m)
        (λ (l : t < m). (suc t, omega arith, f))
        (λ (l : t < m → ⊥).
        let k : suc t ≡ suc m = omega arith in
        (0, omega arith, f ∙ ap (λ (u : ℕ). far rows 1 u d) k ∙ e ∙ sym (far_zero rows 1 d)))

    seen_back : (x t : ℕ) → t < suc m → x ≡ far rows 1 t d → Seen (beta rows 0 x)
    unfolding Seen
    seen_back x zero h q = (m, omega arith, ap (beta rows 0) (q ∙ far_zero rows 1 d ∙ sym e) ∙ step_back 1 (omega arith) m (all (suc m)))
    seen_back x (suc t) h q = (t, omega arith, ap (beta rows 0) q ∙ step_back 1 (omega arith) t (all (suc t)))

    seen : {x : ℕ} → Chain rows d x → Seen x
    unfolding Seen
    seen first = (0, omega arith, sym (far_zero rows 1 d))
    seen (on {d = x} c n) = let s = seen c in seen_on x s.0 s.1 s.2
    seen (back {d = x} c n) = let s = seen c in seen_back x s.0 s.1 s.2

    pub chain_round : {x : ℕ} → Chain rows d x → (t : ℕ) × (t < suc m) × (x ≡ far rows 1 t d)
    unfolding Seen
    chain_round c = seen c

    -- it has no dart before which null stands
    pub round_before : {x : ℕ} → Chain rows d x → beta rows 0 x ≢ 0
    unfolding Seen
    round_before {x} c = let s = seen c in let b = seen_back x s.0 s.1 s.2 in λ z. all b.0 (sym b.2 ∙ z)

  -- a chain that ends in null both ways
  module _ (real : d ≢ 0) (m k : ℕ) (e : far rows 1 m d ≡ 0) (f : far rows 0 (suc k) d ≡ 0) where
    Met : ℕ → Type 0
    Met x = ((t : ℕ) × (t < m) × (x ≡ far rows 1 t d)) ⊎ ((t : ℕ) × (t < k) × (x ≡ far rows 0 (suc t) d))

    -- as long as a dart is real it is met before the end
    upto : (i t n : ℕ) → i < 4 → far rows i n d ≡ 0 → far rows i t d ≢ 0 → t < n
    upto i t n hi z r =
        by_cases (dec_lt t n) (λ l. l)
        (λ (l : t < n → ⊥). absurd (far_real rows w i hi n t d (omega arith) r z))

    at_d : Met d
    unfolding Met
    at_d = inl (0, upto 1 0 m (omega arith) e (λ z. real (sym (far_zero rows 1 d) ∙ z)), sym (far_zero rows 1 d))

    met_fore : (x t : ℕ) → x ≢ 0 → x ≡ far rows 1 t d → Met x
    unfolding Met
    met_fore x t n q = inl (t, upto 1 t m (omega arith) e (λ z. n (q ∙ z)), q)

    met_rear : (x t : ℕ) → x ≢ 0 → x ≡ far rows 0 (suc t) d → Met x
    unfolding Met
    met_rear x t n q =
        let h = upto 0 (suc t) (suc k) (omega arith) f (λ z. n (q ∙ z)) in
        inr (t, omega arith, q)

    met_on : (x : ℕ) → x ≢ 0 → Met x → beta rows 1 x ≢ 0 → Met (beta rows 1 x)
    unfolding Met
    met_on x r (inl s) n = met_fore (beta rows 1 x) (suc s.0) n (ap (beta rows 1) s.2 ∙ sym (far_last rows 1 s.0 d))
    met_on x r (inr s) n = go s.0 s.2
      where
        go : (t : ℕ) → x ≡ far rows 0 (suc t) d → Met (beta rows 1 x)
        go zero q = rw (ap (beta rows 1) q ∙ step_back 0 (omega arith) 0 (λ z. r (q ∙ z)) ∙ far_zero rows 0 d) at_d
        go (suc t) q = met_rear (beta rows 1 x) t n (ap (beta rows 1) q ∙ step_back 0 (omega arith) (suc t) (λ z. r (q ∙ z)))

    met_back : (x : ℕ) → x ≢ 0 → Met x → beta rows 0 x ≢ 0 → Met (beta rows 0 x)
    unfolding Met
    met_back x r (inr s) n = met_rear (beta rows 0 x) (suc s.0) n (ap (beta rows 0) s.2 ∙ sym (far_last rows 0 (suc s.0) d))
    met_back x r (inl s) n = go s.0 s.2
      where
        go : (t : ℕ) → x ≡ far rows 1 t d → Met (beta rows 0 x)
        go zero q =
            met_rear (beta rows 0 x) 0 n
            (ap (beta rows 0) (q ∙ far_zero rows 1 d) ∙ sym (far_suc rows 0 0 d ∙ far_zero rows 0 (beta rows 0 d)))
        go (suc t) q = met_fore (beta rows 0 x) t n (ap (beta rows 0) q ∙ step_back 1 (omega arith) t (λ z. r (q ∙ z)))

    met : {x : ℕ} → Chain rows d x → Met x
    met first = at_d
    met (on {d = x} c n) = met_on x (chain_real rows d real c) (met c) n
    met (back {d = x} c n) = met_back x (chain_real rows d real c) (met c) n

    pub chain_line : {x : ℕ} → Chain rows d x → ((t : ℕ) × (t < m) × (x ≡ far rows 1 t d)) ⊎ ((t : ℕ) × (t < k) × (x ≡ far rows 0 (suc t) d))
    unfolding Met
    chain_line c = met c

-- ---- one step on towards the end

pub ends_on : (rows : List ℕ) (i stop l m : ℕ) → Ends rows i stop l m → l ≢ 0 → l ≢ stop → (k : ℕ) × (m ≡ suc k) × Ends rows i stop (beta rows i l) k
unfolding far
ends_on rows i stop l zero v n o = absurd (⊎_elim n o v.over)
ends_on rows i stop l (suc m) v n o = (m, refl, record { run = λ t h. v.run (suc t) (omega arith); over = v.over })
