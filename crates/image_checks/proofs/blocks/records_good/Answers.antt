-- `blocks::records_good` meets its contract. The loop's invariant: what the records still to come say is what all of them say. Assumes nothing.
use native.Mathlib.Omega.{arith}
use mathlib.Core.Path.{sym, ◌∙◌}
use Rattle.image_form.proofs.VertexLaws.{records_start, records_bad, records_next, records_end}
use Rattle.image_checks.proofs.blocks.records_good.Goals as goal

pub loop-k-init : goal.loop-k-init
loop-k-init c = records_start _ _ _ _

pub returns-then-not-record_good : goal.returns-then-not-record_good
returns-then-not-record_good c =
    records_bad _ _ _ _ _ _ (omega arith) (sym c.record_good.ensures ∙ c.if-not-record_good.true) ∙ sym c.loop-k.invariant

pub loop-k-preserved : goal.loop-k-preserved
loop-k-preserved c =
    c.loop-k.invariant
    ∙ records_next _ _ _ _ _ _ _ (omega arith) (sym c.record_good.ensures ∙ c.if-not-record_good.false) c.word_at-last.ensures

pub returns : goal.returns
returns c = records_end _ _ _ _ _ _ (omega arith) ∙ sym c.loop-k.invariant
