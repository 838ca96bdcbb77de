-- The laws of what joins the queue of a list, each file over the ones before it.
--   PushLaws      a push adds nothing, or its dart
--   WidenLaws     a closed list, widened by the search from one dart more
--   VolumeLaws    a volume by beta 1 and beta 2 alone
--   EdgeLaws      a closed list, widened by the walk of an edge
pub mod PushLaws
pub mod WidenLaws
pub mod VolumeLaws
pub mod EdgeLaws
