-- The one table of worked examples.
--   Sews    the lines of the 1- and 2-sews and unsews
--   Table   the whole table
pub mod Sews
pub mod Table
