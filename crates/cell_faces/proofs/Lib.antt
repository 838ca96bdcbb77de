-- The laws of faces, each file over the ones before it.
--   LegLaws      a leg of the walk, as the code goes it
--   SoundLaws    the walk keeps to the Face orbit
--   LeastLaws    on a regular face it finds the least dart
--   RegularLaws  which faces are regular, and that all darts of a face are or none
--   RoundLaws    the walk round a regular face finds all of its darts
--   AvoidLaws    the walk with darts marked that it never meets
--   FacedLaws    the darts that the list has done with
--   UnmarkLaws   a queue that has grown, unmarked again
--   DartLaws     what the list learns of a dart
--   KeepingLaws  the loop of the list
--   Examples     worked examples, computed
pub mod LegLaws
pub mod SoundLaws
pub mod LeastLaws
pub mod RegularLaws
pub mod RoundLaws
pub mod AvoidLaws
pub mod FacedLaws
pub mod UnmarkLaws
pub mod DartLaws
pub mod KeepingLaws
pub mod Examples
