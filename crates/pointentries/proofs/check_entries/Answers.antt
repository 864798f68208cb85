-- The list that is asked for is checked.
use Rattle.pointentries.proofs.EntryParts.{asked-delivery, asked-receipt}
use Rattle.pointentries.proofs.check_entries.Goals as goal

pub returns-then-side-eq1 : goal.returns-then-side-eq1
returns-then-side-eq1 c =
    let args = c.args in
    rw (asked-delivery args.side args.receipt.now args.delivery.now c.if-side-eq1.true)
    c.check_list.ensures.answers

pub returns : goal.returns
returns c =
    let args = c.args in
    rw (asked-receipt args.side args.receipt.now args.delivery.now c.if-side-eq1.false)
    c.check_list-2.ensures.answers
