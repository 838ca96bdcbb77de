-- `put_records` meets its contract. The loop's invariant: what the records still to come make of the slots is what all of them make. Assumes nothing.
use native.Mathlib.Omega.{arith}
use mathlib.Core.Path.{sym, ◌∙◌}
use Rattle.image_fill.proofs.FillLaws.{put_start, put_next, put_end}
use Rattle.image_fill.proofs.put_records.Goals as goal

pub put_record-requires : goal.put_record-requires
put_record-requires c = (omega arith, c.requires.1 c.loop-k.k (omega arith), omega arith, omega arith)

pub loop-k-init : goal.loop-k-init
loop-k-init c = put_start _ _ _ _

pub loop-k-preserved : goal.loop-k-preserved
loop-k-preserved c = c.loop-k.invariant ∙ put_next _ _ _ _ _ (omega arith) _ c.put_record.ensures

pub returns : goal.returns
returns c = put_end _ _ _ _ _ (omega arith) ∙ sym c.loop-k.invariant
