-- `splits::write_splits` meets its contract: the face split, the first leg and the second, one behind the other. Assumes nothing.
use native.Mathlib.Omega.{arith}
use Rattle.sew_ground.proofs.SideLaws.{clean_same}
use Rattle.sew_pairs.proofs.SplitLaws.{splits_length, splits_written}
use Rattle.sew_splits.proofs.splits.write_splits.Goals as goal

pub write_entry-requires : goal.write_entry-requires
write_entry-requires c =
    omega (
      arith,
      c.requires.3,
      splits_length c.args.rows.list.now c.args.ld c.args.rd c.args.left c.args.right,
    )

pub write_first-at-requires : goal.write_first-at-requires
write_first-at-requires c = (
  c.requires.0,
  c.requires.1,
  c.requires.2,
  omega (
    arith,
    c.requires.3,
    c.write_entry.auto.plan,
    splits_length c.args.rows.list.now c.args.ld c.args.rd c.args.left c.args.right,
  ),
)

pub write_back-requires : goal.write_back-requires
write_back-requires c = (
  c.requires.0,
  c.requires.1,
  clean_same _ _ _ _ _ c.requires.2 c.write_first-at.ensures.marks_unchanged.0 c.write_first-at.ensures.marks_unchanged.1,
  omega (
    arith,
    c.requires.3,
    c.write_entry.auto.plan,
    c.write_first-at.auto.plan,
    c.write_first-at.ensures.value.0,
    splits_length c.args.rows.list.now c.args.ld c.args.rd c.args.left c.args.right,
  ),
  c.requires.4,
)

pub returns-clause-value : goal.returns-clause-value
returns-clause-value c =
    splits_written _ _ _ _ _ _ _ _ _ _ _ _ c.entry_of.ensures c.write_entry.ensures
    c.write_first-at.ensures.value.1 c.write_first-at.ensures.value.0
    c.write_back.ensures.value.1 c.write_back.ensures.value.0
