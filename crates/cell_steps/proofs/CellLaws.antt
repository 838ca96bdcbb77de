-- What orbits are, for a reader: each law for every well-formed map and every dart of it.
--   same_self, -back, -on   being in one cell of the CGAL manual is an equivalence (of any rows, for any permutations)
--   vertex_orbit .. volume_orbit   the list of the Vertex, Edge, Face or Volume orbit has exactly the darts of the manual's cell
--   one_ident               darts have one identifier exactly where they are in one cell
--   ident_in, ident_first   the identifier is a dart of the cell, and the least
--   orbit_alone, ident_alone   the orbit of a dart without an image is itself alone, and its identifier the dart
-- That a list has no repeats, begins with its dart and is closed is in `proofs/OrbitLaws.antt`, for every list of steps. Assumes nothing.
use Prim.Native.Nat.{ℕ, zero, suc, ◌+◌, ◌/◌, ◌%◌, ◌≤◌, ◌<◌}
use native.Mathlib.Omega.{arith}
use mathlib.Core.Path.{◌≡◌, refl, ap, ◌∙◌}
use mathlib.Core.Bool.{Bool, true, false, cond}
use mathlib.Core.Logic.{◌↔◌}
use mathlib.Core.List.Memᴰ
use mathlib.Core.List.{List, [], ◌∷◌}
use lib.Dec.{ltb}
use borrow.Author.Tests.{ltb-true}
use Rattle.map_betas.specs.Betas.{beta, darts}
use Rattle.map_betas.specs.Maps.{WellFormed, Free}
use Rattle.cell_steps.specs.Steps.{image, IsStep, vertex, edge, face, volume}
use Rattle.cell_steps.specs.Search.{In, visit, search, orbit}
use Rattle.cell_steps.specs.Cgal.{Orbit, self, forth, back, vertexΦ, edgeΦ, faceΦ, volumeΦ}
use Rattle.cell_steps.specs.Idents.{least_from, least, ident}
use Rattle.cell_steps.proofs.SearchLaws.{search_more, search_done}
use Rattle.cell_steps.proofs.OrbitLaws.{orbit_sound, orbit_complete}
use Rattle.cell_steps.proofs.CgalLaws.{Serves, reach_orbit, orbit_reach, symmetric, vertex_serves, edge_serves, face_serves, volume_serves}
use Rattle.cell_steps.proofs.IdentLaws.{ident_reached, ident_least, ident_same, ident_one}
use Rattle.cell_steps.proofs.QueueLaws.{add_null}

-- ---- one cell

module _ (rows : List ℕ) (Φ : List (List ℕ)) where
  pub same_self : (d : ℕ) → Orbit rows Φ d d
  same_self d = self

  pub same_on : {a b c : ℕ} → Orbit rows Φ a b → Orbit rows Φ b c → Orbit rows Φ a c
  same_on o self = o
  same_on o (forth q p m e r) = forth (same_on o q) p m e r
  same_on o (back q p m e r) = back (same_on o q) p m e r

  pub same_back : {a b : ℕ} → Orbit rows Φ a b → Orbit rows Φ b a
  same_back self = self
  same_back (forth o p m e r) = same_on (back self p m e r) (same_back o)
  same_back (back o p m e r) = same_on (forth self p m e r) (same_back o)

-- ---- the list is the cell

module _ (steps : List ℕ) (Φ : List (List ℕ)) (k : Serves steps Φ) (rows : List ℕ) (w : WellFormed rows) where
  pub cell_orbit : (d : ℕ) → d < darts rows → (x : ℕ) → In x (orbit rows steps d) ↔ Orbit rows Φ d x
  cell_orbit d h x = (
    λ m. reach_orbit rows w steps Φ k (orbit_sound rows steps w.below d h x m),
    λ o. orbit_complete rows steps w.below d h (orbit_reach rows w steps Φ k o),
  )

  pub one_ident : (d e : ℕ) → d < darts rows → e < darts rows → (ident rows steps d ≡ ident rows steps e) ↔ Orbit rows Φ d e
  one_ident d e h h' = (
    λ q. reach_orbit rows w steps Φ k (ident_one rows steps w.below (symmetric rows w steps Φ k) d e h h' q),
    λ o. ident_same rows steps w.below (symmetric rows w steps Φ k) d e h (orbit_reach rows w steps Φ k o),
  )

  pub ident_in : (d : ℕ) → d < darts rows → Orbit rows Φ d (ident rows steps d)
  ident_in d h = reach_orbit rows w steps Φ k (ident_reached rows steps w.below d h)

  pub ident_first : (d : ℕ) → d < darts rows → (x : ℕ) → Orbit rows Φ d x → ident rows steps d ≤ x
  ident_first d h x o = ident_least rows steps w.below d h (orbit_reach rows w steps Φ k o)

pub vertex_orbit : (rows : List ℕ) → WellFormed rows → (d : ℕ) → d < darts rows → (x : ℕ) → In x (orbit rows vertex d) ↔ Orbit rows vertexΦ d x
vertex_orbit = cell_orbit vertex vertexΦ vertex_serves

pub edge_orbit : (rows : List ℕ) → WellFormed rows → (d : ℕ) → d < darts rows → (x : ℕ) → In x (orbit rows edge d) ↔ Orbit rows edgeΦ d x
edge_orbit = cell_orbit edge edgeΦ edge_serves

pub face_orbit : (rows : List ℕ) → WellFormed rows → (d : ℕ) → d < darts rows → (x : ℕ) → In x (orbit rows face d) ↔ Orbit rows faceΦ d x
face_orbit = cell_orbit face faceΦ face_serves

pub volume_orbit : (rows : List ℕ) → WellFormed rows → (d : ℕ) → d < darts rows → (x : ℕ) → In x (orbit rows volume d) ↔ Orbit rows volumeΦ d x
volume_orbit = cell_orbit volume volumeΦ volume_serves

-- ---- a dart without an image, the null dart among them

module _ (rows : List ℕ) (w : WellFormed rows) (d : ℕ) (f : Free rows d) where
  image_alone : (c : ℕ) → IsStep c → image rows c d ≡ 0
  unfolding image
  image_alone c h = go (ltb c 16) refl
    where
      go : (t : Bool) → ltb c 16 ≡ t → cond t (beta rows c d) (beta rows (c / 16) (beta rows (c % 16) d)) ≡ 0
      go true e = let l = ltb-true c 16 e in f c (omega (arith, h.0, h.1))
      go false e = ap (beta rows (c / 16)) (f (c % 16) h.1) ∙ w.null (c / 16) (omega (arith, h.0))

  visit_alone : (steps : List ℕ) → ((c : ℕ) → In c steps → IsStep c) → visit rows steps d (d ∷ []) ≡ d ∷ []
  unfolding visit
  visit_alone [] h = refl
  visit_alone (s ∷ ss) h =
      ap (visit rows ss d) (add_null (d ∷ []) (image rows s d) (image_alone s (h s (Memᴰ.head refl))))
      ∙ visit_alone ss (λ c m. h c (Memᴰ.tail m))

  pub orbit_alone : (steps : List ℕ) → ((c : ℕ) → In c steps → IsStep c) → orbit rows steps d ≡ d ∷ []
  unfolding orbit
  orbit_alone steps h = go (darts rows)
    where
      go : (k : ℕ) → search rows steps k 0 (d ∷ []) ≡ d ∷ []
      go zero = search_done rows steps 0 1 (d ∷ []) (omega arith)
      go (suc k) =
          search_more rows steps k 0 (d ∷ []) (omega arith)
          ∙ ap (search rows steps k (0 + 1)) (visit_alone steps h)
          ∙ search_done rows steps k (0 + 1) (d ∷ []) (omega arith)

  pub ident_alone : (steps : List ℕ) → ((c : ℕ) → In c steps → IsStep c) → ident rows steps d ≡ d
  unfolding ident least least_from
  ident_alone steps h = ap least (orbit_alone steps h)
