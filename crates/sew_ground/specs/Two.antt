-- The 2-sew and the 2-unsew of real darts of a well-formed map.
--   side_of j rows d     what a sew asks of a dart: its far end, its edge, its vertex, the vertex of its far end
--   two_entries k l r    the edge and the vertices that merge or split
--   linked_sides         the link of two sides, with its merges
--   two_sew_on, two_unsew_on   the whole
use Rattle.std.specs.Prelude.{max, ℕ, Bool, true, cond, not, List, [], ◌++◌, ◌==◌, Err}
use Rattle.std.specs.Prelude.{Float}
use Rattle.map_betas.specs.declared.error.Refusal.TheVariants.{BadGeometry}
use Rattle.map_betas.specs.Betas.{beta}
use Rattle.map_betas.specs.Cores.{link_core, unlink_core}
use Rattle.cell_steps.specs.declared.cells.Class.TheVariants.{Vertex, Edge}
use Rattle.cell_steps.specs.Idents.{cell_of}
use Rattle.sew_plan.specs.declared.Kind.{Kind}
use Rattle.sew_plan.specs.declared.Kind.TheVariants.{Merge, Split}
use Rattle.sew_plan.specs.declared.Entry.{Entry}
use Rattle.sew_points.specs.Geometry.{bad_geometry}
use Rattle.sew_ground.specs.declared.sides.Side.{Side}
use Rattle.sew_ground.specs.Entries.{entries_if}
use Rattle.sew_ground.specs.Sewn.{Work, work, dart_of}

-- the far end of a dart in a 2-sew: by beta 1, or by beta 3 where that is the larger (scope: far end)
abbrev pub far_of : List ℕ → ℕ → ℕ
far_of rows d = max (beta rows 1 d) (beta rows 3 d)

unfoldable pub side_of : List ℕ → ℕ → Side
side_of rows d =
    record { far = far_of rows d; edge = cell_of Edge rows d; near = cell_of Vertex rows d; end = cell_of Vertex rows (far_of rows d) }

-- scope: 2-sew. The edges, then the vertices where ld begins and rd ends, then those where ld ends and rd begins.
unfoldable pub two_entries : Kind → Side → Side → List Entry
two_entries kind l r =
    entries_if true Edge kind l.edge r.edge
    ++ (entries_if (not (r.far == 0)) Vertex kind l.near r.end ++ entries_if (not (l.far == 0)) Vertex kind l.end r.near)

-- scope: 2-sew. The points at both ends of both edges; an edge that points along the other is refused.
abbrev pub bad_sides : List ℕ → List Float → Side → Side → Bool
bad_sides vertices coordinates l r = bad_geometry vertices coordinates l.near.least r.end.least l.end.least r.near.least

unfoldable pub linked_sides : List ℕ → ℕ → ℕ → Side → Side → Work
linked_sides rows ld rd l r = work (link_core rows 2 ld rd).answer (link_core rows 2 ld rd).rows (two_entries Merge l r)

unfoldable pub two_sew_on : List ℕ → List Float → List ℕ → ℕ → ℕ → Work
two_sew_on vertices coordinates rows ld rd =
    cond (bad_sides vertices coordinates (side_of rows ld) (side_of rows rd)) (work (Err (BadGeometry 2 ld rd)) rows [])
    (linked_sides rows ld rd (side_of rows ld) (side_of rows rd))

-- scope: 2-unsew. Unlinked first, so that names and sizes are those of the cells which it leaves.
unfoldable pub two_unsew_on : List ℕ → ℕ → Work
two_unsew_on rows ld =
    work (unlink_core rows 2 ld).answer (unlink_core rows 2 ld).rows
    (two_entries Split (side_of (unlink_core rows 2 ld).rows ld) (side_of (unlink_core rows 2 ld).rows (dart_of (unlink_core rows 2 ld).answer)))
