-- Entries that are there or not (`none_asked`, `none_differs`, `one_differs`; one at most: `if_few`; how many: `all_counted`), and entries written behind each
-- other: in two parts (`written_both`), from a plan's start (`written_put`), item by item (`item_put`, `item_none`, `items_done`). Assumes nothing.
use Rattle.std.specs.Prelude.{◌≡◌, ℕ, ◌+◌, ◌≤◌, Bool, true, false, cond, not, ◌&&◌, eqb, ◌≢◌, List, [], ◌∷◌, ◌++◌, length, get_or, drop, ◌<◌}
use Rattle.std.specs.Prelude.{Option, Some, None}
use Rattle.std.specs.Prelude.{filter, is_some, suc}
use Rattle.std.proofs.lemmas.List.{append-nil, drop_all}
use Rattle.std.proofs.Common.{drop-cons, add-one}
use native.Mathlib.Omega.{arith}
use mathlib.Core.Path.{refl, sym, ap, ◌∙◌}
use mathlib.Core.List.{append_assoc}
use lib.ListN.{length-append}
use borrow.Author.Tests.{eq-eqb, ne_eqb}
use Rattle.cell_steps.specs.declared.cells.Cell.{Cell}
use Rattle.cell_steps.specs.declared.cells.Class.{Class}
use Rattle.sew_plan.specs.declared.Kind.{Kind}
use Rattle.sew_plan.specs.declared.Entry.{Entry}
use Rattle.sew_plan.specs.Plan.{entry_of, written, put_plan}
use Rattle.sew_plan.proofs.PlanLaws.{write_next, put_none}
use Rattle.sew_ground.specs.Entries.{entries_if, listed, all_of, written_all}

module _ (asked : Bool) (k : Class) (kind : Kind) (a b : Cell) where
  pub none_asked : asked ≡ false → [] ≡ entries_if asked k kind a b
  unfolding entries_if
  none_asked e = simp e

  pub none_differs : asked ≡ true → a.least ≡ b.least → [] ≡ entries_if asked k kind a b
  unfolding entries_if
  none_differs e q = simp (e, eq-eqb a.least b.least q)

  pub one_differs : (x : Entry) → asked ≡ true → a.least ≢ b.least → x ≡ entry_of k kind a b → x ∷ [] ≡ entries_if asked k kind a b
  unfolding entries_if
  one_differs x e n q = simp (e, ne_eqb a.least b.least n, q)

  pub if_few : length (entries_if asked k kind a b) ≤ 1
  unfolding entries_if
  if_few = go (asked && not (eqb a.least b.least))
    where
      go : (x : Bool) → length (cond x (entry_of k kind a b ∷ []) []) ≤ 1
      go true = omega arith
      go false = omega arith

pub written_both : (plan : List ℕ) (k : ℕ) (es fs : List Entry) → written_all (written_all plan k es) (k + length es) fs ≡ written_all plan k (es ++ fs)
unfolding written_all
written_both plan k [] fs = ap (λ (j : ℕ). written_all plan j fs) (omega arith)
written_both plan k (e ∷ es) fs =
    ap (λ (j : ℕ). written_all (written_all (written plan k e) (k + 1) es) j fs) (omega arith) ∙ written_both (written plan k e) (k + 1) es fs

written_on : (plan : List ℕ) (es fs : List Entry) (k : ℕ) → k ≡ length es → written_all (put_plan es plan) k fs ≡ put_plan (es ++ fs) plan
unfolding written_all
written_on plan es [] k h = ap (λ (l : List Entry). put_plan l plan) (sym (append-nil es))
written_on plan es (f ∷ fs) k h =
    ap (λ (p : List ℕ). written_all p (k + 1) fs) (write_next es plan k f h)
    ∙ written_on plan (es ++ (f ∷ [])) fs (k + 1) (omega (arith, length-append es (f ∷ [])))
    ∙ ap (λ (l : List Entry). put_plan l plan) (append_assoc es (f ∷ []) fs)

pub written_put : (plan : List ℕ) (es : List Entry) → written_all plan 0 es ≡ put_plan es plan
written_put plan es = ap (λ (p : List ℕ). written_all p 0 es) (sym (put_none plan)) ∙ written_on plan [] es 0 refl

-- what is still to write, once one more of the items is
module _ (plan : List ℕ) (k : ℕ) (items : List (Option Entry)) (i : ℕ) (h : i < length items) (n : ℕ) (end : List ℕ)
    (en : k + length (all_of (drop i items)) ≡ n) (ep : written_all plan k (all_of (drop i items)) ≡ end) where
  items_on : all_of (drop i items) ≡ listed (get_or items i None) ++ all_of (drop (i + 1) items)
  items_on = rw add-one (ap all_of (drop-cons items i None h))

  pub item_put : (e : Entry) (plan₁ : List ℕ) (k₁ : ℕ) → get_or items i None ≡ Some e → plan₁ ≡ written plan k e → k₁ ≡ k + 1 →
      (k₁ + length (all_of (drop (i + 1) items)) ≡ n) × (written_all plan₁ k₁ (all_of (drop (i + 1) items)) ≡ end)
  unfolding written_all
  item_put e plan₁ k₁ is p q =
      let more : all_of (drop i items) ≡ e ∷ all_of (drop (i + 1) items) = items_on ∙ ap (λ (x : Option Entry). listed x ++ all_of (drop (i + 1) items)) is in
      let l : length (all_of (drop i items)) ≡ suc (length (all_of (drop (i + 1) items))) = ap length more in
      (omega arith, rw (p, q) (ap (written_all plan k) (sym more) ∙ ep))

  pub item_none : (plan₁ : List ℕ) (k₁ : ℕ) → get_or items i None ≡ None → plan₁ ≡ plan → k₁ ≡ k →
      (k₁ + length (all_of (drop (i + 1) items)) ≡ n) × (written_all plan₁ k₁ (all_of (drop (i + 1) items)) ≡ end)
  item_none plan₁ k₁ is p q =
      let more : all_of (drop i items) ≡ all_of (drop (i + 1) items) = items_on ∙ ap (λ (x : Option Entry). listed x ++ all_of (drop (i + 1) items)) is in
      rw (p, q, ← more) (en, ep)

-- nothing is left behind the last item
pub items_done : (items : List (Option Entry)) (i : ℕ) → length items ≤ i → all_of (drop i items) ≡ []
items_done items i h = ap all_of (drop_all i items h)

-- how many entries there are, and there are no more than items
pub all_counted : (items : List (Option Entry)) → (length (filter is_some items) ≡ length (all_of items)) × (length (all_of items) ≤ length items)
all_counted [] = (refl, omega arith)
all_counted (None ∷ items) = let h = all_counted items in (h.0, omega arith)
all_counted (Some x ∷ items) = let h = all_counted items in (ap suc h.0, omega arith)

pub alone : (a : Option Entry) → all_of (a ∷ []) ≡ listed a
alone a = append-nil (listed a)

pub three_items : (a b d : Option Entry) (es fs gs : List Entry) → listed a ≡ es → listed b ≡ fs → listed d ≡ gs →
    all_of (a ∷ b ∷ d ∷ []) ≡ es ++ (fs ++ gs)
three_items a b d es fs gs p q r = rw (append-nil (listed d)) cc
