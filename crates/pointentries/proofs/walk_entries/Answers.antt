-- The run among zeros is the run by itself, and what follows it ends the walk.
use Rattle.pointentries.proofs.EntryLists.{entries-walked}
use Rattle.pointentries.proofs.walk_entries.Goals as goal

pub returns : goal.returns
returns c =
    entries-walked c.args.list.now c.args.side c.requires c.run_fields-run.ensures
    (rw (← c.with.ensures) c.end.ensures)
