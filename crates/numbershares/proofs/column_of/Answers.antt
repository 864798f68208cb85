-- An accepted column stands at the front of the zeros.
use mathlib.Core.Path.{refl}
use Prim.Native.Nat.{ℕ}
use lib.ListN.{length-replicate}
use Rattle.units.specs.Bound.{most_rows}
use Rattle.numbershares.proofs.Columns.{column-had}
use Rattle.numbershares.proofs.column_of.Goals as goal

pub unwrap-requires : goal.unwrap-requires
unwrap-requires c =
    let long = length-replicate {A = ℕ} most_rows 0 in
    rw (c.shipper_column.ensures.answers, long, c.requires) refl

pub returns : goal.returns
returns c = column-had c.args.tables.counts c.args.tables.numbers.now c.args.which c.shipper_column.ensures c.requires
