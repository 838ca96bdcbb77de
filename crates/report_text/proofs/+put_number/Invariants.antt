-- The measure of `put_number` is the number, which falls to what is above its last digit. Assumes nothing.
use Rattle.report_text.proofs.+put_number.Given as goal

abbrev pub decreases-put_number : goal.decreases-put_number
decreases-put_number l = l.x
