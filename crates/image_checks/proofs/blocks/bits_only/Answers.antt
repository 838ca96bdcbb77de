-- `blocks::bits_only` meets its contract: all bytes of the part pass. Assumes nothing.
use mathlib.Core.Path.{◌≡◌, refl, ap, ◌∙◌}
use mathlib.Core.Bool.{Bool, ◌&&◌}
use mathlib.Core.List.{List}
use Prim.Native.Nat.{ℕ, zero, suc, ◌+◌, ◌-◌, ◌≤◌, ◌<◌}
use native.Mathlib.Omega.{arith}
use native.Mathlib.Numerals.{add-one}
use lib.Dec.{leb}
use lib.ListN.{length, get_or, take, drop}
use lib.Seq.{drop-cons}
use borrow.Author.Rules.{rules}
use borrow.Author.Tests.{tests}
use Rattle.std.specs.List.{list_all}
use Rattle.std.proofs.lemmas.Iterator.{YieldsList-from_slice}
use Rattle.std.proofs.lemmas.Iterator.Search.{all_from_yields_List}
use Rattle.image_form.specs.Tests.{bits_only}
use Rattle.image_checks.proofs.blocks.bits_only.Goals as goal

each : (bytes : List ℕ) (k at : ℕ) → at + k ≤ length bytes → list_all (λ x. leb x 1) (take k (drop at bytes)) ≡ bits_only k bytes at
unfolding bits_only
each bytes zero at h = refl
each bytes (suc k) at h =
    let l : at < length bytes = omega arith in
    rw (drop-cons bytes at 0 l, add-one at) (ap (λ (b : Bool). leb (get_or bytes at 0) 1 && b) (each bytes k (suc at) (omega arith)))

pub returns : goal.returns
returns c =
    let args = c.args in
    all_from_yields_List (λ x. leb x 1) _ _ _ c.all.ensures.ran (YieldsList-from_slice _ c.iter.ensures.rest) (λ x b q k. search (rules, tests))
    ∙ each args.bytes.now (args.to - args.from) args.from (omega arith)
