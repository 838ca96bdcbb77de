-- `lines::put_refusal` meets its contract: its parts one behind the other. Assumes nothing.
use native.Mathlib.Omega.{arith}
use mathlib.Core.Path.{ap, ◌∙◌}
use Prim.Native.Nat.{ℕ}
use Rattle.report_text.specs.Texts.{lay}
use Rattle.report_lines.specs.Report.{value_of}
use Rattle.report_text.proofs.TextLaws.{lay_next}
use Rattle.report_lines.proofs.LineLaws.{told_is}
use Rattle.report_lines.proofs.lines.put_refusal.Goals as goal

pub put_value-q-requires : goal.put_value-q-requires
put_value-q-requires c = omega (arith, c.requires, lay_next _ _ _ _ _ c.put_bytes-p.ensures, c.put_bytes-p.auto.out)

pub put_value-first-requires : goal.put_value-first-requires
put_value-first-requires c =
    omega (
      arith,
      c.requires,
      lay_next _ _ _ _ _ c.put_bytes-p.ensures,
      c.put_bytes-p.auto.out,
      c.put_value-q.ensures.1,
      c.put_value-q.auto.text,
    )

pub put_value-second-requires : goal.put_value-second-requires
put_value-second-requires c =
    omega (
      arith,
      c.requires,
      lay_next _ _ _ _ _ c.put_bytes-p.ensures,
      c.put_bytes-p.auto.out,
      c.put_value-q.ensures.1,
      c.put_value-q.auto.text,
      c.put_value-first.ensures.1,
      c.put_value-first.auto.text,
    )

pub put_value-third-requires : goal.put_value-third-requires
put_value-third-requires c =
    omega (
      arith,
      c.requires,
      lay_next _ _ _ _ _ c.put_bytes-p.ensures,
      c.put_bytes-p.auto.out,
      c.put_value-q.ensures.1,
      c.put_value-q.auto.text,
      c.put_value-first.ensures.1,
      c.put_value-first.auto.text,
      c.put_value-second.ensures.1,
      c.put_value-second.auto.text,
    )

pub put_byte-requires : goal.put_byte-requires
put_byte-requires c =
    omega (
      arith,
      c.requires,
      lay_next _ _ _ _ _ c.put_bytes-p.ensures,
      c.put_bytes-p.auto.out,
      c.put_value-q.ensures.1,
      c.put_value-q.auto.text,
      c.put_value-first.ensures.1,
      c.put_value-first.auto.text,
      c.put_value-second.ensures.1,
      c.put_value-second.auto.text,
      c.put_value-third.ensures.1,
      c.put_value-third.auto.text,
    )

pub returns : goal.returns
returns c = (
  told_is c.args.told _ _ _ _ _ _ _ _ _ _ _ _ _ _ c.put_value-q.ensures.1
      c.put_value-first.ensures.1 c.put_value-second.ensures.1 c.put_value-third.ensures.1 c.requires
      c.put_bytes-p.ensures
      (c.put_value-q.ensures.0 ∙ ap (λ (k : ℕ). lay c.put_bytes-p.new.out c.put_bytes-p.result (value_of k)) c.from.ensures) c.put_value-first.ensures.0
      c.put_value-second.ensures.0 c.put_value-third.ensures.0 c.put_byte.ensures,
  omega (
    arith,
    lay_next _ _ _ _ _ c.put_bytes-p.ensures,
    c.put_bytes-p.auto.out,
    c.put_value-q.ensures.1,
    c.put_value-q.auto.text,
    c.put_value-first.ensures.1,
    c.put_value-first.auto.text,
    c.put_value-second.ensures.1,
    c.put_value-second.auto.text,
    c.put_value-third.ensures.1,
    c.put_value-third.auto.text,
    lay_next _ _ _ _ _ c.put_byte.ensures,
  ),
)
