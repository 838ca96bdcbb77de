-- The definitions of the list calls.
--   Listings   what a list has, what its call answers, and what it leaves of its loans
pub mod Listings
