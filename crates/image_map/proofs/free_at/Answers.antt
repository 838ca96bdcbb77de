-- `free_at` meets its contract: all four images are null. Assumes nothing.
use mathlib.Core.Path.{◌≡◌, refl, ◌∙◌}
use mathlib.Core.Bool.{and-true}
use mathlib.Core.List.{List}
use Prim.Native.Nat.{ℕ, ◌+◌, ◌*◌, ◌<◌}
use native.Mathlib.Omega.{arith}
use lib.Dec.{eqb}
use borrow.Author.Rules.{rules}
use borrow.Author.Tests.{tests}
use Rattle.std.specs.List.{range_with_len, list_all}
use Rattle.std.proofs.lemmas.Iterator.{YieldsList-from_range}
use Rattle.std.proofs.lemmas.Iterator.Search.{all_from_yields_List}
use Rattle.map_betas.specs.Maps.{free_at}
use Rattle.image_words.specs.Words.{word32}
use Rattle.image_form.specs.Form.{rows_of}
use Rattle.image_form.proofs.StoredLaws.{stored_is}
use Rattle.image_map.proofs.free_at.Goals as goal

each : (bytes : List ℕ) (n d : ℕ) → d < n →
    list_all (λ i. eqb (word32 bytes (28 + 16 * d + 4 * i)) 0) (range_with_len 0 4) ≡ free_at (rows_of bytes n) d
unfolding free_at
each bytes n d h =
    simp (
      stored_is bytes n 0 d (omega arith) h,
      stored_is bytes n 1 d (omega arith) h,
      stored_is bytes n 2 d (omega arith) h,
      stored_is bytes n 3 d (omega arith) h,
      and-true,
    )

pub returns : goal.returns
returns c =
    let args = c.args in
    all_from_yields_List (λ i. eqb (word32 args.bytes.now (28 + 16 * args.d + 4 * i)) 0) _ _ _ c.all.ensures.ran
    (YieldsList-from_range 0 4 4 refl refl) (λ x b q k. search (rules, tests))
    ∙ each args.bytes.now args.n args.d (omega arith)
