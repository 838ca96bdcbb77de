-- `structure::size_test` meets its contract: each return is one of the cases of `bad_size`. Assumes nothing.
use Rattle.map_betas.proofs.MapLaws.{bad_empty, bad_rest, bad_many, bad_not, size_refused, size_passed}
use Rattle.map_test.proofs.structure.size_test.Goals as goal
use Rattle.map_test.proofs.structure.size_test.Goals.{then-k-eq0-via-then-k-eq0, then-k-eq0-via-else-k-eq0+then-k-ne0, then-k-eq0-via-else-k-eq0+else-k-ne0+then-k-gt-MOST}

pub returns-then-k-eq0 : goal.returns-then-k-eq0
returns-then-k-eq0 c =
    elim c.then-k-eq0.branch [
      | then-k-eq0-via-then-k-eq0 w ↦ size_refused c.args.rows.now (bad_empty _ w.if-k-eq0.true)
      | then-k-eq0-via-else-k-eq0+then-k-ne0 w ↦ size_refused c.args.rows.now (bad_rest _ w.if-k-eq0.false w.if-k-ne0.true)
      | then-k-eq0-via-else-k-eq0+else-k-ne0+then-k-gt-MOST w ↦
          size_refused c.args.rows.now (bad_many _ w.if-k-eq0.false w.if-k-ne0.false w.if-k-gt-MOST.true)
    ]

pub returns : goal.returns
returns c = size_passed c.args.rows.now (bad_not _ c.if-k-eq0.false c.if-k-ne0.false c.if-k-gt-MOST.false)
