-- `bound_at` meets its contract: a flag that is 0 says used; else the dart is bound where it is not free. Assumes nothing.
use Prim.Native.Nat.{◌+◌}
use native.Mathlib.Omega.{arith}
use mathlib.Core.Path.{ap, ◌∙◌}
use mathlib.Core.Bool.{not}
use Rattle.image_form.proofs.StoredLaws.{stored_used, stored_bound}
use Rattle.image_map.proofs.bound_at.Goals as goal

pub returns-then-bytes-at-eq0 : goal.returns-then-bytes-at-eq0
returns-then-bytes-at-eq0 c = stored_used _ _ _ (c.flag_offset.result + c.args.d) (omega arith) (omega arith) (omega arith)

pub returns : goal.returns
returns c = ap not c.free_at.ensures ∙ stored_bound _ _ _ (c.flag_offset.result + c.args.d) (omega arith) (omega arith) (omega arith) c.requires.2 (omega arith)
