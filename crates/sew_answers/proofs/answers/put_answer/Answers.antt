-- `answers::put_answer` meets its contract: the answer's numbers are written over its places. Assumes nothing.
use mathlib.Core.Path.{◌∙◌}
use Rattle.sew_answers.proofs.AnswerLaws.{answer_stored}
use Rattle.sew_answers.proofs.answers.put_answer.Goals as goal

pub returns : goal.returns
returns c = answer_stored c.args.output.now c.args.k c.args.a _ (c.copy_from_slice.ensures.after ∙ c.words_of.ensures)
