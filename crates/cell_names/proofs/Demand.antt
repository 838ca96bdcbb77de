-- What the calls of identifiers, orbits and lists answer, for a reader.
--   call_vertex_least, call_edge_least, call_volume_least   an identifier's call answers the least dart of the CGAL manual's cell, and its number of darts
--   call_null_id         of the null dart it answers 0 and 0
--   call_orbit           an orbit's call writes the darts that the steps reach, each once, the dart itself first
--   call_unused_id, call_unused_orbit, call_unused_custom   an unused dart is its own identifier and alone, and its orbits are itself alone
--   call_listed          a list's call writes exactly the darts that are not unused and are their own identifier, ascending
--   id_refused, orbit_refused, custom_refused, list_refused   a refused call leaves every loan
-- Each but the last for a map, loans that are long enough, and a dart of it, in use or not. Assumes nothing.
use Rattle.std.specs.Prelude.{◌≡◌, ℕ, ◌<◌, ◌≤◌, true, false, cond, ◌≢◌, ◌↔◌, List, [], ◌∷◌, length, is_ok, Ok, Err}
use native.Mathlib.Omega.{arith}
use mathlib.Core.Path.{refl, sym, ap, ◌∙◌}
use mathlib.Core.Bool.{true≢false}
use Rattle.map_betas.specs.declared.loans.Loans.{Loans}
use Rattle.map_betas.specs.Betas.{darts}
use Rattle.map_betas.specs.Answers.{pass, Outcome, outcome, behind, Answer, done, Test}
use Rattle.map_betas.specs.Maps.{WellFormed, unused, Map}
use Rattle.map_betas.specs.Guards.{scratch_of, orbit_loans, list_loans, guard_of, Lent, Dart}
use Rattle.map_betas.proofs.AnswerLaws.{refused_leaves}
use Rattle.map_betas.proofs.FreeLaws.{flag_unused}
use Rattle.map_betas.proofs.Guarded.{guard_iff}
use Rattle.cell_steps.specs.declared.policy.OrbitPolicy.{OrbitPolicy}
use Rattle.cell_steps.specs.declared.cells.Cell.{Cell}
use Rattle.cell_steps.specs.declared.cells.Class.{Class}
use Rattle.cell_steps.specs.declared.cells.Class.TheVariants.{Vertex, Edge, Volume}
use Rattle.cell_steps.specs.Steps.{steps_of}
use Rattle.cell_steps.specs.Search.{In, NoRep, orbit, Reach}
use Rattle.cell_steps.specs.Cgal.{vertexΦ, edgeΦ, volumeΦ}
use Rattle.cell_steps.specs.Calls.{wiped, headed, orbit_guard, orbit_done, orbit_call, custom_test, custom_call}
use Rattle.cell_steps.proofs.SearchLaws.{Ext}
use Rattle.cell_steps.proofs.OrbitLaws.{orbit_norep, orbit_starts, orbit_exact}
use Rattle.cell_steps.proofs.SizeLaws.{Counts}
use Rattle.cell_lists.specs.CellLists.{Ascending}
use Rattle.cell_lists.proofs.MemberLaws.{Own}
use Rattle.cell_names.specs.Cells.{is_face, identified, ident_of, list_of}
use Rattle.cell_names.specs.Calls.{id_guard, id_done, id_call, list_guard, list_done, list_call}
use Rattle.cell_names.proofs.IdentifierLaws.{Least, vertex_least, edge_least, volume_least, listed_exactly, listed_ascending}
use Rattle.cell_names.proofs.IdentifierLaws.{vertex_size, edge_size, volume_size, free_ident, free_size, free_orbit, free_custom, null_ident}
use Rattle.std.specs.Result.{result_and}

passed : {L : Type 0} (g : Test) (loans : L) (o : Outcome L) → is_ok g ≡ true → behind g loans o ≡ o
passed (Ok x) loans o t = refl
passed (Err w) loans o t = absurd (true≢false (sym t))

module _ (rows flags marks : List ℕ) (map : Map rows flags) (m : darts rows ≤ length marks) where
  w : WellFormed rows
  w = map.formed

  -- the tests pass, whether the dart is in use or not
  admits : (loans : Loans) → Lent (darts rows) loans → (d : ℕ) → d < darts rows → guard_of rows flags loans 0 d d ≡ pass
  admits loans l d h =
      let at : Dart (darts rows) 0 d = record { allowed = omega arith; below = h } in
      (guard_iff rows flags loans 0 d d).1
      (record { map = map; lent = l; left = at; right = at; used_left = λ o. absurd (omega arith); used_right = λ o. absurd (omega arith) })

  -- ---- identifiers

  module _ (queue : List ℕ) (q : darts rows ≤ length queue) (d : ℕ) (h : d < darts rows) where
    id_passes : id_guard rows marks queue flags d ≡ pass
    id_passes =
        let few = w.sized.few in
        admits (scratch_of (length marks) (length queue))
        (record { marks = m; queue = q; output = omega arith; vertices = omega arith; coordinates = omega arith }) d h

    abbrev says : Cell → Answer
    says c = done c.least c.count

    answered : (class : Class) → (id_call rows marks queue flags class d).answer ≡ says (identified class rows d)
    unfolding id_call
    answered class = ap (λ (g : Test). (behind g (marks, queue) (id_done rows marks queue class d)).answer) id_passes

    -- the answer x with k: x is the least dart of d's cell, and k the number of its darts
    abbrev pub Told : Class → List (List ℕ) → Type 0
    Told class Φ = (x : ℕ) × (k : ℕ) × ((id_call rows marks queue flags class d).answer ≡ done x k) × Least rows Φ d x × (d ≢ 0 → Counts rows Φ d k)

    pub call_vertex_least : Told Vertex vertexΦ
    call_vertex_least =
        ((identified Vertex rows d).least, (identified Vertex rows d).count, answered Vertex, vertex_least rows w d h, vertex_size rows w d h)

    pub call_edge_least : Told Edge edgeΦ
    call_edge_least = ((identified Edge rows d).least, (identified Edge rows d).count, answered Edge, edge_least rows w d h, edge_size rows w d h)

    pub call_volume_least : Told Volume volumeΦ
    call_volume_least =
        ((identified Volume rows d).least, (identified Volume rows d).count, answered Volume, volume_least rows w d h, volume_size rows w d h)

    pub call_null_id : d ≡ 0 → (class : Class) → (id_call rows marks queue flags class d).answer ≡ done 0 0
    call_null_id z class = answered class ∙ ap (λ (x : ℕ). says (identified class rows x)) z ∙ ap says (null_ident rows w class)

    -- an unused dart is its own identifier, of every class, and alone in its cells
    pub call_unused_id : unused flags d ≡ true → (class : Class) → (id_call rows marks queue flags class d).answer ≡ done d (cond (is_face class) 0 1)
    call_unused_id u class =
        let f = map.free d u in
        let e = free_ident rows w d f class in
        let k = free_size rows w d f (flag_unused flags d u).0 class in
        answered class ∙ (λ t. done (e t) (k t))

  -- ---- orbits

  module _ (output : List ℕ) (o : darts rows ≤ length output) (p : OrbitPolicy) (d : ℕ) (h : d < darts rows) where
    orbit_passes : orbit_guard rows marks output flags d ≡ pass
    orbit_passes =
        let few = w.sized.few in
        admits (orbit_loans (length marks) (length output))
        (record { marks = m; queue = omega arith; output = o; vertices = omega arith; coordinates = omega arith }) d h

    is_done_lem : orbit_call rows marks output flags p d ≡ orbit_done rows marks output (steps_of p) d
    unfolding orbit_call
    is_done_lem = ap (λ (g : Test). behind g (marks, output) (orbit_done rows marks output (steps_of p) d)) orbit_passes

    pub call_orbit : (l : List ℕ) × (orbit_call rows marks output flags p d ≡ outcome (done 0 (length l)) (wiped (darts rows) marks, headed l output))
        × Ext (d ∷ []) l × NoRep l × ((x : ℕ) → In x l ↔ Reach rows (steps_of p) d x)
    call_orbit = (
      orbit rows (steps_of p) d,
      is_done_lem,
      orbit_starts rows (steps_of p) w.below d h,
      orbit_norep rows (steps_of p) w.below d h,
      orbit_exact rows (steps_of p) w.below d h,
    )

    -- the orbits of an unused dart are itself alone
    pub call_unused_orbit : unused flags d ≡ true →
        orbit_call rows marks output flags p d ≡ outcome (done 0 1) (wiped (darts rows) marks, headed (d ∷ []) output)
    call_unused_orbit u =
        is_done_lem
        ∙ ap (λ (l : List ℕ). outcome (done 0 (length l)) (wiped (darts rows) marks, headed l output)) (free_orbit rows w d (map.free d u) p)

    -- by lent betas too, whatever they are
    pub call_unused_custom : unused flags d ≡ true → (betas : List ℕ) → is_ok (custom_test betas) ≡ true →
        custom_call rows marks output flags betas d ≡ outcome (done 0 1) (wiped (darts rows) marks, headed (d ∷ []) output)
    unfolding custom_call
    call_unused_custom u betas t =
        ap (λ (g : Test). behind (result_and g (custom_test betas)) (marks, output) (orbit_done rows marks output betas d)) orbit_passes
        ∙ passed (custom_test betas) (marks, output) (orbit_done rows marks output betas d) t
        ∙ ap (λ (l : List ℕ). outcome (done 0 (length l)) (wiped (darts rows) marks, headed l output)) (free_custom rows w d (map.free d u) betas t)

  -- ---- lists

  module _ (queue output : List ℕ) (q : darts rows ≤ length queue) (o : darts rows ≤ length output) where
    list_passes : list_guard rows marks queue output flags ≡ pass
    list_passes =
        let few = w.sized.few in
        admits (list_loans (length marks) (length queue) (length output))
        (record { marks = m; queue = q; output = o; vertices = omega arith; coordinates = omega arith }) 0 w.sized.some

    pub call_listed : (class : Class) → (l : List ℕ)
        × (list_call rows marks queue output flags class
        ≡ outcome (done 0 (length l)) (wiped (darts rows) marks, wiped (darts rows) queue, headed l output))
        × Ascending l × ((x : ℕ) → In x l ↔ ((1 ≤ x) × (x < darts rows) × Own (ident_of class rows) flags x))
    unfolding list_call
    call_listed class = (
      list_of class rows flags,
      ap (λ (g : Test). behind g (marks, queue, output) (list_done rows marks queue output flags class)) list_passes,
      listed_ascending rows flags class,
      listed_exactly rows flags class,
    )

-- ---- a refused call, whatever it is lent

module _ (rows marks flags : List ℕ) where
  pub id_refused : (queue : List ℕ) (class : Class) (d : ℕ) → is_ok (id_call rows marks queue flags class d).answer ≡ false →
      (id_call rows marks queue flags class d).loans ≡ (marks, queue)
  unfolding id_call
  id_refused queue class d = refused_leaves (id_guard rows marks queue flags d) (marks, queue) (id_done rows marks queue class d) refl

  pub orbit_refused : (output : List ℕ) (p : OrbitPolicy) (d : ℕ) → is_ok (orbit_call rows marks output flags p d).answer ≡ false →
      (orbit_call rows marks output flags p d).loans ≡ (marks, output)
  unfolding orbit_call
  orbit_refused output p d = refused_leaves (orbit_guard rows marks output flags d) (marks, output) (orbit_done rows marks output (steps_of p) d) refl

  pub custom_refused : (output betas : List ℕ) (d : ℕ) → is_ok (custom_call rows marks output flags betas d).answer ≡ false →
      (custom_call rows marks output flags betas d).loans ≡ (marks, output)
  unfolding custom_call
  custom_refused output betas d =
      refused_leaves (result_and (orbit_guard rows marks output flags d) (custom_test betas)) (marks, output) (orbit_done rows marks output betas d) refl

  pub list_refused : (queue output : List ℕ) (class : Class) → is_ok (list_call rows marks queue output flags class).answer ≡ false →
      (list_call rows marks queue output flags class).loans ≡ (marks, queue, output)
  unfolding list_call
  list_refused queue output class =
      refused_leaves (list_guard rows marks queue output flags) (marks, queue, output) (list_done rows marks queue output flags class) refl
