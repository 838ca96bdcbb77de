-- `blocks::flags_test` meets its contract: each return is one of the cases of `flags_test`. Assumes nothing.
use native.Mathlib.Omega.{arith}
use mathlib.Core.Path.{sym, ◌∙◌}
use Rattle.image_form.proofs.FlagLaws.{flags_null, flags_bits, flags_pass}
use Rattle.image_checks.proofs.blocks.flags_test.Goals as goal

pub returns-then-bytes-from-ne0 : goal.returns-then-bytes-from-ne0
returns-then-bytes-from-ne0 c = flags_null _ _ _ _ c.flag_offset-from.ensures c.vertex_offset-to.ensures (omega arith)

pub returns-then-not-bits_only : goal.returns-then-not-bits_only
returns-then-not-bits_only c =
    flags_bits _ _ _ _ c.flag_offset-from.ensures c.vertex_offset-to.ensures (omega arith)
    (sym c.bits_only.ensures ∙ c.if-not-bits_only.true)

pub returns : goal.returns
returns c =
    flags_pass _ _ _ _ c.flag_offset-from.ensures c.vertex_offset-to.ensures (omega arith)
    (sym c.bits_only.ensures ∙ c.if-not-bits_only.false)
