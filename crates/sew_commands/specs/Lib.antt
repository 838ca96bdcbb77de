-- The definitions of a list of commands, each file over the ones before it.
--   Commands   which call a command is, and what it leaves of rows and plan
--   Lists      a list of commands, made one after another
--   Calls      the call, for any rows, loans and list
pub mod Commands
pub mod Lists
pub mod Calls
