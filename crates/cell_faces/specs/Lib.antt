-- The definitions of faces.
--   Faces       the walk of `face_id`, and the faces where it finds the least dart
--   FaceLists   the darts that the list of faces has done with
pub mod Faces
pub mod FaceLists
