-- The laws of the report.
--   Rooms        how long its lines are at most
--   LineLaws     its lines, one part behind the other
--   ReportLaws   the reader's answer, and the whole report
--   Examples     reports that are computed
pub mod Rooms
pub mod LineLaws
pub mod ReportLaws
pub mod Examples
