-- `settling::settle_splits` meets its contract: a tally bounds the entries, which are written where there is room. Assumes nothing.
use native.Mathlib.Omega.{arith}
use mathlib.Core.Path.{refl, ap, ◌∙◌}
use lib.Dec.{eqb}
use lib.ListN.{length}
use Rattle.sew_plan.specs.declared.Entry.{Entry}
use mathlib.Core.List.{List}
use Prim.Native.Nat.{ℕ, ◌+◌, ◌*◌, ◌≤◌}
use Rattle.sew_ground.proofs.SewnLaws.{settles_tight}
use Rattle.sew_ground.proofs.SideLaws.{clean_same}
use Rattle.sew_pairs.proofs.SplitLaws.{written_done}
use Rattle.sew_tallies.proofs.TallyLaws.{pairs_some, entries_are, entries_most, end_tells}
use Rattle.sew_settling.proofs.settling.settle_splits.Goals as goal
use Rattle.sew_settling.proofs.settling.settle_splits.Goals.{After-struct_known-1}

-- there are few pairs, and so few entries
few : (c : After-struct_known-1) → 1 + 3 * c.tally_pairs-t.result.count ≤ 100000000
few c =
    let k = pairs_some _ _ _ _ _ c.tally_pairs-t.ensures.value refl in
    omega (arith, k, c.args.rows.formed.sized.whole, c.args.rows.formed.sized.few)

pub overflow_mul-t : goal.overflow_mul-t
overflow_mul-t c = omega (arith, few (goal.at.overflow_mul-t c).After-struct_known-1)

pub overflow_add-t : goal.overflow_add-t
overflow_add-t c = omega (arith, few (goal.at.overflow_add-t c).After-struct_known-1)

pub wanted-k-requires : goal.wanted-k-requires
wanted-k-requires c = (c.requires.0, c.requires.1, clean_same _ _ _ _ _ c.requires.2 c.tally_pairs-t.ensures.marks_unchanged.0 c.tally_pairs-t.ensures.marks_unchanged.1, entries_most _ _ _ _ _ c.tally_pairs-t.ensures.value refl, few (goal.at.wanted-k-requires c).After-struct_known-1)

pub returns-then-room-k-clause-plan_after : goal.returns-then-room-k-clause-plan_after
returns-then-room-k-clause-plan_after c =
    settles_tight _ _ _ _ (c.wanted-k.ensures.lower_bound.1 (omega (arith, c.if-room-k.true))) (omega (arith, c.if-room-k.true, c.room-room.ensures))

pub overflow_cast-count : goal.overflow_cast-count
overflow_cast-count c = omega (arith, few (goal.at.overflow_cast-count c).After-struct_known-1)

pub write_splits-n-requires : goal.write_splits-n-requires
write_splits-n-requires c = (
  c.requires.0,
  c.requires.1,
  clean_same _ _ _ _ _ c.requires.2 (c.wanted-k.ensures.marks_unchanged.0 ∙ c.tally_pairs-t.ensures.marks_unchanged.0)
      (c.wanted-k.ensures.marks_unchanged.1 ∙ c.tally_pairs-t.ensures.marks_unchanged.1),
  omega (
    arith,
    c.if-room-k.false,
    c.room-room.ensures,
    c.wanted-k.ensures.lower_bound.0,
    ap (λ (es : List Entry). length es) (entries_are _ _ _ _ _ c.tally_pairs-t.ensures.value refl),
  ),
  ap (λ (d : ℕ). eqb d 0) (end_tells _ _ _ _ _ c.tally_pairs-t.ensures.value),
)

pub returns-clause-plan_after : goal.returns-clause-plan_after
returns-clause-plan_after c =
    written_done _ _ _ _ _ _ _ (entries_are _ _ _ _ _ c.tally_pairs-t.ensures.value refl) c.write_splits-n.ensures.value.0
    c.write_splits-n.ensures.value.1
    c.wanted-k.ensures.lower_bound.0 (omega (arith, c.if-room-k.false, c.room-room.ensures))
