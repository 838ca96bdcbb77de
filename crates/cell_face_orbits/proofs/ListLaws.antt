-- What the lists of orbits hold, for a reader: of the orbits of any class, and of the Face orbits beside the faces as the Rust lists them.
--   orbits            the list of the orbits of a class
--   listed_exactly, listed_ascending   a list holds exactly the darts in use that are the least of their orbit, and ascends
--   Once, listed_once each cell of the manual that has a dart in use is listed by one dart, the least of its cell
--   face_part         what the list of the Face orbits has, the list of the face identifiers has too
--   face_same         where every face that has a dart in use is regular, the two are one list
-- Assumes nothing.
use Prim.Native.Nat.{ℕ, ◌≤◌, ◌<◌}
use native.Mathlib.Omega.{arith}
use native.Mathlib.Decide.{ℕ_discrete}
use mathlib.Core.Path.{◌≡◌, refl, sym, ◌∙◌, subst}
use mathlib.Core.Logic.{◌↔◌, ◌≢◌, by_cases}
use mathlib.Core.List.Memᴰ
use mathlib.Core.List.{List}
use lib.ListN.{get_or}
use Rattle.map_betas.specs.Betas.{darts}
use Rattle.map_betas.specs.Maps.{WellFormed, Map}
use Rattle.map_betas.proofs.FreeLaws.{unused_flag}
use Rattle.cell_steps.specs.declared.cells.Class.{Class}
use Rattle.cell_steps.specs.declared.cells.Class.TheVariants.{Face}
use Rattle.cell_steps.specs.Steps.{IsStep, steps_of, policy_of, cell_steps, face}
use Rattle.cell_steps.specs.Search.{In, Symmetric}
use Rattle.cell_steps.specs.Cgal.{Orbit, cellΦ}
use Rattle.cell_steps.specs.Idents.{ident}
use Rattle.cell_steps.proofs.StepLaws.{step_of, class_steps}
use Rattle.cell_steps.proofs.CgalLaws.{class_serves, class_symmetric, orbit_reach}
use Rattle.cell_steps.proofs.CellLaws.{same_back, cell_orbit, ident_in, ident_first, orbit_alone}
use Rattle.cell_steps.proofs.IdentLaws.{ident_reached, reach_below, reach_real, ident_same, ident_twice}
use Rattle.cell_lists.specs.CellLists.{cells_by, Ascending}
use Rattle.cell_lists.proofs.MemberLaws as members
use Rattle.cell_faces.specs.Faces.{face_id, Regular}
use Rattle.cell_faces.proofs.RegularLaws.{face_id_least, face_own}
use Rattle.cell_names.specs.Cells.{list_of}
use Rattle.cell_names.proofs.IdentifierLaws as names
use Rattle.cell_names.proofs.IdentifierLaws.{Least}
use Rattle.cell_face_orbits.specs.FaceOrbits.{face_orbits}

-- ---- the orbits of a class, of any rows (scope: list)

module _ (rows flags : List ℕ) (class : Class) where
  -- the darts that are not unused and are the least of their orbit, ascending
  abbrev pub orbits : List ℕ
  orbits = cells_by (ident rows (cell_steps class)) (darts rows) flags

  pub listed_exactly : (x : ℕ) → In x orbits ↔ ((1 ≤ x) × (x < darts rows) × members.Own (ident rows (cell_steps class)) flags x)
  listed_exactly x = members.listed_exactly (ident rows (cell_steps class)) flags (darts rows) x

  pub listed_ascending : Ascending orbits
  listed_ascending = members.listed_ascending (ident rows (cell_steps class)) flags (darts rows)

-- ---- the orbits of a class, on a map

module _ (rows flags : List ℕ) (map : Map rows flags) (class : Class) where
  w : WellFormed rows
  w = map.formed

  abbrev steps : List ℕ
  steps = cell_steps class

  y : Symmetric rows steps
  y = class_symmetric rows w class

  are_steps : (c : ℕ) → In c steps → IsStep c
  are_steps c m = step_of (policy_of class) c (subst (In c) (sym (class_steps class (policy_of class) refl (steps_of (policy_of class)) refl)) m)

  -- an unused dart is free, and so alone in its cell
  alone : (x d : ℕ) → x < darts rows → x ≢ 0 → get_or flags x 0 ≢ 0 → Orbit rows (cellΦ class) x d → d ≡ x
  alone x d h real u o =
      let free = map.free x (unused_flag flags x real u) in
      Memᴰ.eq_of_singleton
      (subst (In d) (orbit_alone rows w x free steps are_steps) ((cell_orbit steps (cellΦ class) (class_serves class) rows w x h d).1 o))

  -- x is listed, is the least dart of d's cell, and no other dart of the cell is listed
  pub record Once (d x : ℕ) : Type 0 where
    pub listed : In x (orbits rows flags class)
    pub least : Least rows (cellΦ class) d x
    pub only : (z : ℕ) → In z (orbits rows flags class) → Orbit rows (cellΦ class) d z → z ≡ x

  pub listed_once : (d : ℕ) → d < darts rows → d ≢ 0 → get_or flags d 0 ≡ 0 → Once d (ident rows steps d)
  listed_once d h real used =
      let x : ℕ = ident rows steps d in
      let r = ident_reached rows steps w.below d h in
      let lt : x < darts rows = reach_below rows steps w.below d h r in
      let there : x ≢ 0 = reach_real rows steps real r in
      let l : Least rows (cellΦ class) d x =
      record {
        inside = ident_in steps (cellΦ class) (class_serves class) rows w d h;
        lowest = ident_first steps (cellΦ class) (class_serves class) rows w d h;
      } in
      let flag : get_or flags x 0 ≡ 0 =
      by_cases (ℕ_discrete (get_or flags x 0) 0) (λ e. e)
      (λ u. subst (λ (t : ℕ). get_or flags t 0 ≡ 0) (alone x d lt there u (same_back rows (cellΦ class) l.inside)) used) in
      record {
        listed = (listed_exactly rows flags class x).1
            (omega (arith, there), lt, record { used = flag; least = ident_twice rows steps w.below y d h });
        least = l;
        only = λ z m o.
            let p = (listed_exactly rows flags class z).0 m in
            sym p.2.least ∙ sym (ident_same rows steps w.below y d z h (orbit_reach rows w steps (cellΦ class) (class_serves class) o));
      }

-- ---- the Face orbits, and the faces as the Rust lists them

module _ (rows flags : List ℕ) (w : WellFormed rows) where
  pub face_part : (x : ℕ) → In x (face_orbits rows flags) → In x (list_of Face rows flags)
  face_part x m =
      let p = (listed_exactly rows flags Face x).0 m in
      (names.listed_exactly rows flags Face x).1 (p.0, p.1, record { used = p.2.used; least = face_own rows w x p.1 p.2.least })

  -- unused darts are in no list, so that nothing is asked of their faces
  pub face_same : ((d : ℕ) → 1 ≤ d → d < darts rows → get_or flags d 0 ≡ 0 → Regular rows d) → face_orbits rows flags ≡ list_of Face rows flags
  face_same all =
      members.listed_same (ident rows face) (face_id rows) flags (darts rows)
      (λ x a b u. sym (face_id_least rows w x b (λ z. omega arith) (all x a b u)))
