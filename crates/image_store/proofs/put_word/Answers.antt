-- `put_word` meets its contract: std's four bytes, in their place. Assumes nothing.
use native.Mathlib.Omega.{arith}
use mathlib.Core.Path.{refl}
use Rattle.image_store.proofs.Stored.{put_in}
use Rattle.image_store.proofs.put_word.Goals as goal

pub returns : goal.returns
returns c = put_in 4 _ _ _ refl (omega arith) c.to_le_bytes.ensures c.copy_from_slice.ensures.after
