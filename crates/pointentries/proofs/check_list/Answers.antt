-- The code is the chain of tests as it is defined.
use Rattle.pointentries.proofs.EntryLists.{list-checked}
use Rattle.pointentries.proofs.check_list.Goals as goal

pub returns : goal.returns
returns c =
    let args = c.args in
    list-checked args.list.now args.side args.point c.walk_entries-walk.ensures c.examine.ensures
