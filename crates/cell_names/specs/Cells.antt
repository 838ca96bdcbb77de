-- The identifier and the list of each class of cells.
--   is_face class              whether the Rust takes identifier and list of the class by a walk of its own
--   identified class rows d   what the identifier says of d's cell: its name, and how many darts it has
--   ident_of class rows d      the name alone
--   list_of class rows flags   the list of the cells
use Rattle.std.specs.Prelude.{ℕ, Bool, true, false, List}
use Rattle.map_betas.specs.Betas.{darts}
use Rattle.cell_steps.specs.Steps.{vertex, edge, volume}
use Rattle.cell_steps.specs.Idents.{ident, cell_of}
use Rattle.cell_lists.specs.CellLists.{cells_by}
use Rattle.cell_faces.specs.Faces.{face_id}
use Rattle.cell_steps.specs.declared.cells.Cell.{Cell}
use Rattle.cell_steps.specs.declared.cells.Class.{Class}
use Rattle.cell_steps.specs.declared.cells.Class.TheVariants.{Vertex, Edge, Face, Volume}

abbrev pub is_face : Class → Bool
is_face Vertex = false
is_face Edge = false
is_face Face = true
is_face Volume = false

-- each class has the least dart and the size of its orbit, but for faces, which go by the published walk and are not counted (scope: identifier, face_id)
abbrev pub identified : Class → List ℕ → ℕ → Cell
identified Vertex rows d = cell_of Vertex rows d
identified Edge rows d = cell_of Edge rows d
identified Face rows d = record { least = face_id rows d; count = 0 }
identified Volume rows d = cell_of Volume rows d

abbrev pub ident_of : Class → List ℕ → ℕ → ℕ
ident_of class rows d = (identified class rows d).least

-- the list of each class (scope: list)
abbrev pub list_of : Class → List ℕ → List ℕ → List ℕ
list_of Vertex rows flags = cells_by (ident rows vertex) (darts rows) flags
list_of Edge rows flags = cells_by (ident rows edge) (darts rows) flags
list_of Face rows flags = cells_by (face_id rows) (darts rows) flags
list_of Volume rows flags = cells_by (ident rows volume) (darts rows) flags
