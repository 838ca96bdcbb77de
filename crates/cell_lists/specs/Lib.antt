-- The definitions of cell lists.
--   CellLists   the list of a class's cells, by any identifier
pub mod CellLists
