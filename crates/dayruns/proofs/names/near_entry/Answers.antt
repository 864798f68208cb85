-- The rows that are found have the entry's numbers.
use mathlib.Core.Path.{◌≡◌}
use native.Mathlib.Omega.{arith}
use Rattle.columns.specs.Column.{col}
use Rattle.columns.specs.Sum.{sum}
use Rattle.dayformat.specs.declared.form.Tag.TheVariants.{Point}
use Rattle.dayformat.specs.Layout.{table_start}
use Rattle.dayrows.proofs.Enough.{listed-shipper, listed-point}
use borrow.Author.Rules.{rules}
use Rattle.dayruns.proofs.names.near_entry.Goals as goal

pub point_from-point-requires : goal.point_from-point-requires
unfolding sum
point_from-point-requires c = search rules

pub shipper_from-shipper-requires : goal.shipper_from-shipper-requires
unfolding sum
shipper_from-shipper-requires c = search rules

pub returns : goal.returns
returns c =
    let args = c.args in
    let table : c.row_place-start.result ≡ table_start args.counts Point = omega (arith, c.row_place-start.ensures.0) in (
      λ l.
          let same = c.point_from-point.ensures l in
          listed-point args.counts (col args.numbers.now) _ args.at l (rw (← table) same.0) (rw (← table) same.1),
      λ l. listed-shipper args.counts (col args.numbers.now) _ _ l (c.shipper_from-shipper.ensures l),
    )
