-- The definitions of the list of the Face orbits.
--   FaceOrbits   the list, what its call answers, and what it leaves of its loans
pub mod FaceOrbits
