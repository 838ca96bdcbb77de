-- `breach_at` meets its contract: the first of the four that breaks a rule, or 4. Assumes nothing.
use mathlib.Core.Path.{◌≡◌, refl, ap, ◌∙◌}
use mathlib.Core.Bool.{Bool, true, false, cond}
use mathlib.Core.List.{List}
use Prim.Native.Nat.{ℕ}
use borrow.Author.Rules.{rules}
use borrow.Author.Tests.{tests}
use Rattle.std.specs.Prelude.{Option, Some, None}
use Rattle.std.specs.Option.{option_map, unwrap_or}
use Rattle.std.specs.List.{range_with_len, find}
use Rattle.std.proofs.lemmas.Iterator.{YieldsList-from_range}
use Rattle.std.proofs.lemmas.Iterator.Search.{find_from_yields_List}
use Rattle.map_betas.specs.Maps.{breaks, breach_at}
use Rattle.image_form.specs.Form.{rows_of}
use Rattle.image_map.proofs.breach_at.Goals as goal

found : (rows : List ℕ) (d : ℕ) → unwrap_or (find (λ i. breaks rows i d) (range_with_len 0 4)) 4 ≡ breach_at rows d
unfolding breach_at
found rows d = go (breaks rows 0 d) (breaks rows 1 d) (breaks rows 2 d) (breaks rows 3 d)
  where
    go : (a b e g : Bool) → ◌≡◌ {A = ℕ} (unwrap_or (cond a (Some 0) (cond b (Some 1) (cond e (Some 2) (cond g (Some 3) None)))) 4)
        (cond a 0 (cond b 1 (cond e 2 (cond g 3 4))))
    go true b e g = refl
    go false true e g = refl
    go false false true g = refl
    go false false false true = refl
    go false false false false = refl

same : (r : Option ℕ) → r ≡ option_map (λ x. x) r
same (Some x) = refl
same None = refl

pub returns : goal.returns
returns c =
    let args = c.args in
    c.unwrap_or.ensures
    ∙ ap (λ (r : Option ℕ). unwrap_or r 4)
    (same c.find.result
    ∙ find_from_yields_List (λ i. breaks (rows_of args.bytes.now args.n) i args.d) _ _ _ c.find.ensures.ran
    (YieldsList-from_range 0 4 4 refl refl) (λ x b q k. search (rules, tests)))
    ∙ found (rows_of args.bytes.now args.n) args.d
