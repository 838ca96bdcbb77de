-- What identifiers and lists are, for a reader: each law for every well-formed map and every dart of it.
--   Least                                   x is the least dart of d's cell
--   vertex_least, edge_least, volume_least  the identifier is the least dart of the CGAL manual's cell
--   vertex_size, edge_size, volume_size     the size of a real dart's cell is the number of darts of the manual's cell
--   vertex_same, edge_same, volume_same     darts have one identifier exactly where they are in one cell
--   face_least                              so it is for a regular face
--   free_ident, free_orbit, free_custom     a dart without an image is its own identifier, and its orbits are itself alone
--   free_size                               a dart without an image is alone in its cells
--   null_ident                              the identifier of the null dart is 0, with the size 0
--   listed_exactly, listed_ascending        what a list holds, and that it ascends
-- Assumes nothing.
use Rattle.std.specs.Prelude.{◌≡◌, ℕ, ◌<◌, ◌≤◌, true, cond, ◌≢◌, ◌↔◌, List, [], ◌∷◌, length, is_ok}
use mathlib.Core.Path.{refl, sym, ap, ◌∙◌, subst}
use Rattle.map_betas.specs.Betas.{darts}
use Rattle.map_betas.specs.Maps.{WellFormed, Free}
use Rattle.cell_steps.specs.declared.policy.OrbitPolicy.{OrbitPolicy}
use Rattle.cell_steps.specs.declared.policy.OrbitPolicy.TheVariants as policy
use Rattle.cell_steps.specs.Steps.{IsStep, vertex, edge, face, volume, steps_of}
use Rattle.cell_steps.specs.Search.{In, orbit}
use Rattle.cell_steps.specs.Cgal.{Orbit, vertexΦ, edgeΦ, faceΦ, volumeΦ}
use Rattle.cell_steps.specs.Idents.{ident}
use Rattle.cell_steps.specs.Calls.{custom_test}
use Rattle.cell_steps.proofs.Lists.{at_in}
use Rattle.cell_steps.proofs.StepLaws.{step_of, betas_are}
use Rattle.cell_steps.proofs.CallLaws.{custom_done}
use Rattle.cell_steps.proofs.CgalLaws.{Serves, vertex_serves, edge_serves, face_serves, volume_serves}
use Rattle.cell_steps.proofs.CellLaws.{ident_in, ident_first, one_ident, orbit_alone, ident_alone}
use Rattle.cell_steps.proofs.SizeLaws.{Counts, size_real, size_counts, cell_null}
use Rattle.cell_lists.specs.CellLists.{Ascending}
use Rattle.cell_lists.proofs.MemberLaws as members
use Rattle.cell_faces.specs.Faces.{face_id, Regular}
use Rattle.cell_faces.proofs.RegularLaws.{face_id_least, face_alone}
use Rattle.cell_steps.specs.declared.cells.Class.{Class}
use Rattle.cell_steps.specs.declared.cells.Class.TheVariants.{Vertex, Edge, Face, Volume}
use Rattle.cell_names.specs.Cells.{is_face, identified, ident_of, list_of}

-- the identifiers that are least by definition, seen as least in the manual's cells
pub record Least (rows : List ℕ) (Φ : List (List ℕ)) (d x : ℕ) : Type 0 where
  pub inside : Orbit rows Φ d x
  pub lowest : (y : ℕ) → Orbit rows Φ d y → x ≤ y

module _ (rows : List ℕ) (w : WellFormed rows) where
  least_of : (steps : List ℕ) (Φ : List (List ℕ)) → Serves steps Φ → (d : ℕ) → d < darts rows → Least rows Φ d (ident rows steps d)
  least_of steps Φ k d h = record { inside = ident_in steps Φ k rows w d h; lowest = ident_first steps Φ k rows w d h }

  pub vertex_least : (d : ℕ) → d < darts rows → Least rows vertexΦ d (ident_of Vertex rows d)
  vertex_least = least_of vertex vertexΦ vertex_serves

  pub edge_least : (d : ℕ) → d < darts rows → Least rows edgeΦ d (ident_of Edge rows d)
  edge_least = least_of edge edgeΦ edge_serves

  pub volume_least : (d : ℕ) → d < darts rows → Least rows volumeΦ d (ident_of Volume rows d)
  volume_least = least_of volume volumeΦ volume_serves

  -- and their sizes, which count the darts of the manual's cells
  pub vertex_size : (d : ℕ) → d < darts rows → d ≢ 0 → Counts rows vertexΦ d (identified Vertex rows d).count
  vertex_size = size_counts Vertex vertexΦ vertex_serves rows w

  pub edge_size : (d : ℕ) → d < darts rows → d ≢ 0 → Counts rows edgeΦ d (identified Edge rows d).count
  edge_size = size_counts Edge edgeΦ edge_serves rows w

  pub volume_size : (d : ℕ) → d < darts rows → d ≢ 0 → Counts rows volumeΦ d (identified Volume rows d).count
  volume_size = size_counts Volume volumeΦ volume_serves rows w

  -- the faces of which `face_id` is least (`cell_faces/proofs/RegularLaws.antt` has the two cases)
  pub face_least : (d : ℕ) → d < darts rows → (d ≡ 0 → ⊥) → Regular rows d → Least rows faceΦ d (ident_of Face rows d)
  face_least d h real v = subst (Least rows faceΦ d) (sym (face_id_least rows w d h real v)) (least_of face faceΦ face_serves d h)

  module _ (d e : ℕ) (h : d < darts rows) (h' : e < darts rows) where
    pub vertex_same : (ident_of Vertex rows d ≡ ident_of Vertex rows e) ↔ Orbit rows vertexΦ d e
    vertex_same = one_ident vertex vertexΦ vertex_serves rows w d e h h'

    pub edge_same : (ident_of Edge rows d ≡ ident_of Edge rows e) ↔ Orbit rows edgeΦ d e
    edge_same = one_ident edge edgeΦ edge_serves rows w d e h h'

    pub volume_same : (ident_of Volume rows d ≡ ident_of Volume rows e) ↔ Orbit rows volumeΦ d e
    volume_same = one_ident volume volumeΦ volume_serves rows w d e h h'

  -- a dart without an image is its own identifier, and its orbits are itself alone; so the null dart
  pub free_ident : (d : ℕ) → Free rows d → (class : Class) → ident_of class rows d ≡ d
  free_ident d f Vertex = ident_alone rows w d f vertex (step_of policy.Vertex)
  free_ident d f Edge = ident_alone rows w d f edge (step_of policy.Edge)
  free_ident d f Face = face_alone rows w d f
  free_ident d f Volume = ident_alone rows w d f volume (step_of policy.Volume)

  pub free_orbit : (d : ℕ) → Free rows d → (p : OrbitPolicy) → orbit rows (steps_of p) d ≡ d ∷ []
  free_orbit d f p = orbit_alone rows w d f (steps_of p) (step_of p)

  pub free_custom : (d : ℕ) → Free rows d → (betas : List ℕ) → is_ok (custom_test betas) ≡ true → orbit rows betas d ≡ d ∷ []
  free_custom d f betas t =
      orbit_alone rows w d f betas (λ c m. let q = at_in m in subst IsStep q.2 ((betas_are betas (custom_done betas t)).each q.0 q.1))

  -- alone in its vertex, its edge and its volume; a face is not counted
  pub free_size : (d : ℕ) → Free rows d → d ≢ 0 → (class : Class) → (identified class rows d).count ≡ cond (is_face class) 0 1
  free_size d f n Vertex = size_real Vertex rows d n ∙ ap (λ (l : List ℕ). length l) (free_orbit d f policy.Vertex)
  free_size d f n Edge = size_real Edge rows d n ∙ ap (λ (l : List ℕ). length l) (free_orbit d f policy.Edge)
  free_size d f n Face = refl
  free_size d f n Volume = size_real Volume rows d n ∙ ap (λ (l : List ℕ). length l) (free_orbit d f policy.Volume)

  pub null_ident : (class : Class) → identified class rows 0 ≡ record { least = 0; count = 0 }
  null_ident Vertex = sym (cell_null Vertex rows w 0 refl)
  null_ident Edge = sym (cell_null Edge rows w 0 refl)
  null_ident Face = λ t. record { least = face_alone rows w 0 w.null t; count = 0 }
  null_ident Volume = sym (cell_null Volume rows w 0 refl)

-- what is in a list, and in which order, for any rows (scope: list)
module _ (rows flags : List ℕ) where
  pub listed_exactly : (class : Class) (x : ℕ) → In x (list_of class rows flags) ↔ ((1 ≤ x) × (x < darts rows) × members.Own (ident_of class rows) flags x)
  listed_exactly Vertex x = members.listed_exactly (ident rows vertex) flags (darts rows) x
  listed_exactly Edge x = members.listed_exactly (ident rows edge) flags (darts rows) x
  listed_exactly Face x = members.listed_exactly (face_id rows) flags (darts rows) x
  listed_exactly Volume x = members.listed_exactly (ident rows volume) flags (darts rows) x

  pub listed_ascending : (class : Class) → Ascending (list_of class rows flags)
  listed_ascending Vertex = members.listed_ascending (ident rows vertex) flags (darts rows)
  listed_ascending Edge = members.listed_ascending (ident rows edge) flags (darts rows)
  listed_ascending Face = members.listed_ascending (face_id rows) flags (darts rows)
  listed_ascending Volume = members.listed_ascending (ident rows volume) flags (darts rows)
