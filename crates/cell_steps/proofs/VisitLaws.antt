-- Visits whose steps are written out, and the lists of steps that have one.
--   asked        what a step asks for, where j steps of a visit are done
--   taken        a step more
--   inner_room, image_room   room for images that are read before they are put into the queue
--   by_list      a visit by the steps that a list is known to be
-- Assumes nothing.
use mathlib.Core.Path.{◌≡◌, refl, sym, ap, ◌∙◌, subst}
use mathlib.Core.List.{List}
use Prim.Native.Nat.{ℕ, ◌+◌, ◌*◌, ◌≤◌, ◌<◌}
use native.Mathlib.Omega.{arith}
use lib.ListN.{length, get_or, take}
use Rattle.map_betas.specs.Betas.{beta, darts}
use Rattle.map_betas.specs.Maps.{WellFormed}
use Rattle.cell_steps.specs.declared.policy.OrbitPolicy.{OrbitPolicy}
use Rattle.cell_steps.specs.Loans.{AreSteps, Scratch, Queue, Grown}
use Rattle.cell_steps.specs.Search.{add, visit}
use Rattle.cell_steps.specs.Steps.{image, IsStep, steps_by}
use Rattle.cell_steps.proofs.OrbitLaws.{image_below}
use Rattle.cell_steps.proofs.TurnLaws.{Visiting, visiting_turn}

module _ {rows steps : List ℕ} {d : ℕ} {marks₀ out₀ : List ℕ} {count : ℕ} {marks out : List ℕ} {k : ℕ} (j : ℕ)
    (v : Visiting rows steps d marks₀ out₀ count marks out k j) (h : j < length steps) where
  pub asked : Scratch rows marks₀ out₀ → AreSteps steps → d < darts rows → Scratch rows marks out × Queue marks out k × IsStep (get_or steps j 0)
      × (d < darts rows)
  asked s a b = (
    record { marks_n = v.marks_n ∙ s.marks_n; queue_n = omega (arith, s.queue_n, v.out_n) },
    v.queue,
    a.each j h,
    b,
  )

  pub taken : {marks' out' : List ℕ} {r : ℕ} → length marks' ≡ length marks → length out' ≡ length out →
      Grown out k (add (take k out) (image rows (get_or steps j 0) d)) marks' out' r → Visiting rows steps d marks₀ out₀ count marks' out' r (j + 1)
  taken m o g = visiting_turn rows steps d marks₀ out₀ count marks out k j _ _ _ _ v h refl m o g

-- ---- images that are read before they are put into the queue

-- the row of an image is there
pub inner_room : {rows : List ℕ} → WellFormed rows → (i : ℕ) → i < 4 → (j d x : ℕ) → x ≡ beta rows j d → 4 * x + i < length rows
inner_room {rows} w i h j d x e =
    let b : x < darts rows = rw e (w.below j d) in
    omega (arith, w.sized.whole)

-- an image has a mark, and the queue has room for every mark
pub image_room : {rows marks out : List ℕ} → WellFormed rows → Scratch rows marks out → (m o : ℕ) → m ≡ length marks → o ≡ length out → (c d x : ℕ) → x ≡ image rows c d →
    (x < m) × (m ≤ o)
image_room {rows} w s m o em eo c d x e =
    let b : x < darts rows = rw e (image_below rows w.below c d) in
    (omega (arith, s.marks_n), omega (arith, s.marks_n, s.queue_n))

-- ---- a visit by the steps that a list is known to be

pub by_list : (rows : List ℕ) (d : ℕ) (out : List ℕ) (count : ℕ) (steps : List ℕ) (w v : OrbitPolicy) {marks' out' : List ℕ} {r : ℕ} → w ≡ v →
    steps_by w steps ≡ steps → Grown out count (visit rows (steps_by v steps) d (take count out)) marks' out' r →
    Grown out count (visit rows steps d (take count out)) marks' out' r
by_list rows d out count steps w v {marks'} {out'} {r} t e g =
    subst (λ (s : List ℕ). Grown out count (visit rows s d (take count out)) marks' out' r) (sym (ap (λ (x : OrbitPolicy). steps_by x steps) t) ∙ e) g
