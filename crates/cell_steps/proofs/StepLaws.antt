-- The laws of steps.
--   Each, each_at, each_place   a property of each member of a written list, given member by member
--   steps_are, step_of          the steps of every policy are steps
--   policy_by                   a search by a policy over its own steps
--   class_steps                 the steps of the policy of a class
--   betas_are                   a list of betas is a list of steps
--   image_one, image_two        where a step by one beta leads, and by two
-- Assumes nothing.
use Prim.Native.Nat.{ℕ, ◌/◌, ◌%◌, ◌≤◌, ◌<◌}
use native.Mathlib.Nat.{not-suc-le-zero}
use native.Mathlib.Omega.{arith}
use mathlib.Core.Path.{◌≡◌, refl, sym, ap, ◌∙◌, subst}
use mathlib.Core.Logic.{⊎_elim}
use mathlib.Core.List.Memᴰ
use mathlib.Core.List.{List, [], ◌∷◌, Memᴰ}
use lib.ListN.{length, get_or}
use borrow.Author.Tests.{lt-ltb, le-ltb}
use Rattle.map_betas.specs.Betas.{beta}
use Rattle.cell_steps.specs.declared.policy.OrbitPolicy.{OrbitPolicy}
use Rattle.cell_steps.specs.declared.policy.OrbitPolicy.TheVariants.{Vertex, VertexLinear, Edge, Face, FaceLinear, Volume, VolumeLinear, Custom}
use Rattle.cell_steps.specs.declared.cells.Class.{Class}
use Rattle.cell_steps.specs.declared.cells.Class.TheVariants as class
use Rattle.cell_steps.specs.Steps.{image, IsStep, steps_of, steps_by, policy_of, cell_steps}
use Rattle.cell_steps.specs.Loans.{AreSteps}
use Rattle.cell_steps.specs.Search.{In}
use Rattle.cell_steps.proofs.Lists.{in_at, at_in}

abbrev pub Each : {A : Type 0} → (A → Type 0) → List A → Type 0
Each P [] = Unit {0}
Each P (x ∷ l) = P x × Each P l

pub each_at : {A : Type 0} (P : A → Type 0) (l : List A) → Each P l → (x : A) → Memᴰ x l → P x
each_at P [] h x m = absurd (Memᴰ.not-nil m)
each_at P (y ∷ l) h x m = ⊎_elim (λ e. subst P (sym e) h.0) (λ t. each_at P l h.1 x t) (Memᴰ.cases_cons m)

pub each_place : (P : ℕ → Type 0) (l : List ℕ) → Each P l → (j : ℕ) → j < length l → P (get_or l j 0)
each_place P l h j k = each_at P l h (get_or l j 0) (in_at l j k)

pub steps_are : (p : OrbitPolicy) → AreSteps (steps_of p)
steps_are Vertex = record { each = each_place IsStep (steps_of Vertex) (omega arith) }
steps_are VertexLinear = record { each = each_place IsStep (steps_of VertexLinear) (omega arith) }
steps_are Edge = record { each = each_place IsStep (steps_of Edge) (omega arith) }
steps_are Face = record { each = each_place IsStep (steps_of Face) (omega arith) }
steps_are FaceLinear = record { each = each_place IsStep (steps_of FaceLinear) (omega arith) }
steps_are Volume = record { each = each_place IsStep (steps_of Volume) (omega arith) }
steps_are VolumeLinear = record { each = each_place IsStep (steps_of VolumeLinear) (omega arith) }
steps_are Custom = record { each = λ j h. absurd (not-suc-le-zero h) }

pub step_of : (p : OrbitPolicy) (c : ℕ) → In c (steps_of p) → IsStep c
step_of p c m = let q = at_in m in subst IsStep q.2 ((steps_are p).each q.0 q.1)

-- a search by a class's policy, over the steps that the code has for it
module _ (c : Class) (p : OrbitPolicy) (e : p ≡ policy_of c) (steps : List ℕ) (s : steps ≡ steps_of p) where
  pub class_steps : steps ≡ cell_steps c
  class_steps = s ∙ ap steps_of e ∙ go c
    where
      go : (k : Class) → steps_of (policy_of k) ≡ cell_steps k
      go class.Vertex = refl
      go class.Edge = refl
      go class.Face = refl
      go class.Volume = refl

-- a search by a policy, over its own steps
pub policy_by : (p : OrbitPolicy) (steps : List ℕ) → steps ≡ steps_of p → steps_by p steps ≡ steps
policy_by Vertex steps e = sym e
policy_by VertexLinear steps e = sym e
policy_by Edge steps e = sym e
policy_by Face steps e = sym e
policy_by FaceLinear steps e = sym e
policy_by Volume steps e = sym e
policy_by VolumeLinear steps e = sym e
policy_by Custom steps e = refl

pub betas_are : (betas : List ℕ) → ((j : ℕ) → j < length betas → get_or betas j 0 < 4) → AreSteps betas
betas_are betas h = record { each = λ j l. let b = h j l in (omega arith, omega arith) }

module _ (rows : List ℕ) (c d : ℕ) where
  pub image_one : (x : ℕ) → c < 16 → x ≡ beta rows c d → x ≡ image rows c d
  unfolding image
  image_one x h e = simp (lt-ltb c 16 h) e

  pub image_two : (m x : ℕ) → 16 ≤ c → m ≡ beta rows (c % 16) d → x ≡ beta rows (c / 16) m → x ≡ image rows c d
  unfolding image
  image_two m x h e f = simp (le-ltb c 16 h) (f ∙ ap (beta rows (c / 16)) e)
