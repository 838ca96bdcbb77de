-- The laws of stored numbers.
--   Stored    what stands where in stored numbers, and stores one behind another
--   Trips     a number stored and read, and bytes read and stored; the same of coordinates
pub mod Stored
pub mod Trips
