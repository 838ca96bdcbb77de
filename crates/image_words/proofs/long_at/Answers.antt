-- `long_at` meets its contract: what std says of its bytes. Assumes nothing.
use Rattle.image_words.proofs.Worth.{long_of}
use Rattle.image_words.proofs.long_at.Goals as goal

pub returns : goal.returns
returns c = long_of _ _ c.array_at.ensures c.from_le_bytes.ensures
