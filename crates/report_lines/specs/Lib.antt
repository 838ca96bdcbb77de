-- The definitions of the report.
--   Report   the text that the report program prints for any input
pub mod Report
