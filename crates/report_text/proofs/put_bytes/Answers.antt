-- `put_bytes` meets its contract: the part of the buffer is the text. Assumes nothing.
use native.Mathlib.Omega.{arith}
use mathlib.Core.Path.{refl}
use Rattle.report_text.proofs.TextLaws.{lay_part}
use Rattle.report_text.proofs.put_bytes.Goals as goal

pub returns : goal.returns
returns c = lay_part _ _ _ refl (omega arith) c.copy_from_slice.ensures.after
