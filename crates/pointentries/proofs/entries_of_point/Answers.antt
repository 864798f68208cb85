-- The part is that of the list that is asked for.
use Rattle.pointentries.proofs.EntryParts.{asked-delivery, asked-receipt}
use Rattle.pointentries.proofs.entries_of_point.Goals as goal

pub returns-then-side-eq1 : goal.returns-then-side-eq1
returns-then-side-eq1 c =
    let args = c.args in
    let is = c.if-side-eq1.true in
    rw (
      asked-delivery args.side args.receipt args.delivery is,
      asked-delivery args.side args.receipt.now args.delivery.now is,
    )
    c.part_of.ensures

pub returns : goal.returns
returns c =
    let args = c.args in
    let is = c.if-side-eq1.false in
    rw (
      asked-receipt args.side args.receipt args.delivery is,
      asked-receipt args.side args.receipt.now args.delivery.now is,
    )
    c.part_of-2.ensures
