-- `list_by` meets its contract, by the invariant `Listing`. Assumes nothing.
use Rattle.cell_lists.proofs.ListingLaws.{Listing}
use Rattle.cell_lists.proofs.list_by.Given as goal

abbrev pub invariant-loop-d : goal.invariant-loop-d
invariant-loop-d l =
    Listing l.rows.list.now l.steps.codes.now l.flags l.initial.marks l.initial.queue
    l.initial.output l.marks l.queue l.output l.found l.count l.d
