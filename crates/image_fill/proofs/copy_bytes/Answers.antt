-- `copy_bytes` meets its contract. The loop's invariant: the bytes so far, and the rest as it was. Assumes nothing.
use native.Mathlib.Omega.{arith}
use mathlib.Core.Path.{ap}
use Prim.Native.Nat.{ℕ, ◌+◌}
use lib.ListN.{length, get_or}
use Rattle.image_words.proofs.Filled.{fill_none, fill_more, fill_all}
use Rattle.image_fill.proofs.copy_bytes.Goals as goal

pub loop-flag-init : goal.loop-flag-init
loop-flag-init c = (omega arith, fill_none _ _)

pub loop-flag-preserved : goal.loop-flag-preserved
loop-flag-preserved c =
    let a = c.args in
    let l = c.loop-flag in (
      omega arith,
      fill_more (λ (k : ℕ). get_or a.bytes.now (a.from + k) 0) a.flags.now l.flag-items l.flag-index _ (omega arith)
          l.invariant.1 (ap (λ (k : ℕ). get_or a.bytes.now k 0) l.invariant.0),
    )

pub returns : goal.returns
returns c =
    let a = c.args in
    let l = c.loop-flag in
    fill_all (λ (k : ℕ). get_or a.bytes.now (a.from + k) 0) a.flags.now l.flag-items l.flag-index (length a.flags.now) (omega arith) (omega arith)
    l.invariant.1
