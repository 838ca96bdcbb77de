-- `put_items` meets its contract. The loop's invariant: the numbers so far are written. Assumes nothing.
use native.Mathlib.Omega.{arith}
use mathlib.Core.Path.{◌≡◌, ap, ◌∙◌}
use Prim.Native.Nat.{ℕ}
use lib.ListN.{length}
use Rattle.report_text.specs.Texts.{decimal, lay, items_of}
use Rattle.report_text.proofs.TextLaws.{lay_next, items_none, items_room, items_more}
use Rattle.report_text.proofs.put_items.Goals as goal

pub loop-x-init : goal.loop-x-init
loop-x-init c = items_none _ _ c.args.list.now

pub put_byte-q-requires : goal.put_byte-q-requires
put_byte-q-requires c =
    omega (
      arith,
      c.requires,
      lay_next _ _ _ _ _ c.loop-x.invariant,
      items_room c.args.list.now (length c.args.list.now) c.loop-x.x-index (omega arith),
    )

pub put_number-p-requires : goal.put_number-p-requires
put_number-p-requires c =
    omega (
      arith,
      c.requires,
      lay_next _ _ _ _ _ c.loop-x.invariant,
      lay_next _ _ _ _ _ c.put_byte-q.ensures,
      ap (λ (k : ℕ). length (decimal k)) c.from.ensures,
      items_room c.args.list.now (length c.args.list.now) c.loop-x.x-index (omega arith),
    )

pub loop-x-preserved : goal.loop-x-preserved
loop-x-preserved c =
    items_more _ _ _ (length c.args.list.now) _ _ _ _ _ _ _ (omega arith) c.requires c.loop-x.invariant c.put_byte-q.ensures
    (c.put_number-p.ensures ∙ ap (λ (k : ℕ). lay c.put_byte-q.new.out c.put_byte-q.result (decimal k)) c.from.ensures)

pub returns : goal.returns
returns c =
    let n : c.loop-x.x-index ≡ length c.args.list.now = omega arith in
    c.loop-x.invariant ∙ ap (λ (k : ℕ). lay c.args.out.now c.args.at (items_of c.args.list.now k)) n
