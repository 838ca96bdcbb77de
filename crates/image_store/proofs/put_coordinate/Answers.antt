-- `put_coordinate` meets its contract: std's eight bytes of the pattern of its bits, in their place. Assumes nothing.
use native.Mathlib.Omega.{arith}
use mathlib.Core.Path.{refl}
use Rattle.image_store.proofs.Stored.{put_in}
use Rattle.image_store.proofs.Trips.{finite_no_nan}
use Rattle.image_store.proofs.put_coordinate.Goals as goal

pub to_le_bytes-requires : goal.to_le_bytes-requires
to_le_bytes-requires c = finite_no_nan _ c.requires.1

pub returns : goal.returns
returns c = put_in 8 _ _ _ refl (omega arith) c.to_le_bytes.ensures c.copy_from_slice.ensures.after
