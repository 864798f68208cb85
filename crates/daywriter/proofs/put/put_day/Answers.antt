-- The head's field, and behind it those of the tables.
use Rattle.daywriter.proofs.FieldLaying.{file-laid}
use Rattle.daywriter.proofs.put.put_day.Goals as goal

pub returns : goal.returns
returns c =
    file-laid _ _ _ c.put_field.ensures c.put_tables.ensures
