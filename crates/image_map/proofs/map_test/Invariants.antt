-- `map_test` meets its contract. The loop's invariant: what the search still to come finds is what the test says. Assumes nothing.
use mathlib.Core.Path.{◌≡◌}
use Prim.Native.Nat.{◌-◌}
use Rattle.map_betas.specs.Maps.{first_breach, map_test}
use Rattle.image_form.specs.Form.{rows_of, flags_of}
use Rattle.image_map.proofs.map_test.Given as goal

abbrev pub invariant-loop-d : goal.invariant-loop-d
invariant-loop-d l =
    map_test (rows_of l.bytes l.n.number) (flags_of l.bytes l.n.number) ≡ first_breach (l.n.number - l.d) (rows_of l.bytes l.n.number) (flags_of l.bytes l.n.number) l.d
