-- `links::join` meets its contract: refused by the test of the darts, or run. Assumes nothing.
use mathlib.Core.Path.{sym, ap, ◌∙◌}
use Rattle.map_betas.specs.Betas.{darts}
use Rattle.map_betas.proofs.GuardLaws.{are_darts}
use Rattle.std.specs.Prelude.{is_ok}
use Rattle.link_run.proofs.links.join.Goals as goal

pub run_link-requires : goal.run_link-requires
run_link-requires c =
    let a = c.args in
    let ds = are_darts (darts a.rows.now) a.flags.now 1 a.ld c.link_second-second.result
    (ap is_ok (sym c.dart_test.ensures ∙ c.in_ok-dart_test.was)) in
    (c.requires.0, ds.0.0, ds.1.0)
