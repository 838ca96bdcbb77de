-- `writer::write_image` meets its contract: refused by its tests, or as far as there is room. Assumes nothing.
use mathlib.Core.Path.{sym, ap, ◌∙◌}
use Rattle.map_betas.proofs.AnswerLaws.{behind_refused, behind_done}
use Rattle.image_writer.specs.Writes.{write_image}
use Rattle.image_writer.proofs.WriteLaws.{writable}
use Rattle.std.specs.Prelude.{is_ok}
use Rattle.image_writer.proofs.writer.write_image.Goals as goal

pub returns-in_err-write_test : goal.returns-in_err-write_test
unfolding write_image
returns-in_err-write_test c = behind_refused c.write_test.ensures _ _ _ c.in_err-write_test.was c.from_residual.ensures.1

pub write_tested-requires : goal.write_tested-requires
write_tested-requires c = writable _ _ _ _ (ap is_ok (sym c.write_test.ensures ∙ c.in_ok-write_test.was))

pub returns : goal.returns
unfolding write_image
returns c = c.write_tested.ensures ∙ behind_done c.write_test.ensures _ _ c.in_ok-write_test.was
