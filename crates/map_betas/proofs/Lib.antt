-- The laws of the ground, each file over the ones before it.
--   BetaLaws    the beta that leads back
--   AnswerLaws  tests one after the other, and the call behind them
--   Chains      going on by one beta until null or round, and the darts of a face chain
--   MapLaws     the size test and each case of a breach
--   FreeLaws    darts without an image, unused darts
--   Formed      the map test passes exactly on a map
--   Stores      a pair of stores that links or unlinks: which images change, and that a map stays a map
--   CoreLaws    each case of the cores
--   Kept        what a core that is done does: well-formed rows stay so, two images change, an unlink undoes a link
--   Spared      no core links a dart that was free and is none of its own; what keeps rows and flags a map
--   Always      what a core leaves whether it is done or refuses
--   GuardLaws   each case of the guard, and what holds once it has passed
--   Guarded     the guard passes exactly where it should, and what the map test names
--   ReadLaws    the tests of a read
pub mod BetaLaws
pub mod AnswerLaws
pub mod Chains
pub mod MapLaws
pub mod FreeLaws
pub mod Formed
pub mod Stores
pub mod CoreLaws
pub mod Kept
pub mod Always
pub mod Spared
pub mod GuardLaws
pub mod Guarded
pub mod ReadLaws
