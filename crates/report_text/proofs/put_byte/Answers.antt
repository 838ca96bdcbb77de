-- `put_byte` meets its contract. Assumes nothing.
use Rattle.report_text.proofs.TextLaws.{lay_byte}
use Rattle.report_text.proofs.put_byte.Goals as goal

pub returns : goal.returns
returns c = lay_byte _ _ _ c.requires
