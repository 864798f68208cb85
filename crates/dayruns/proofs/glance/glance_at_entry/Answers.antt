-- A row that passes every test but that of its names is sound where its point and its shipper are found.
use mathlib.Core.Path.{refl}
use native.Mathlib.Omega.{arith}
use borrow.Author.Tests.{ltb-true}
use Rattle.dayformat.specs.declared.form.Tag.TheVariants.{Entry}
use Rattle.dayrows.proofs.Capping.{uncapped}
use Rattle.dayruns.proofs.Finding.{entry_named}
use Rattle.dayruns.proofs.Glancing.{unsure, glanced}
use Rattle.dayruns.proofs.RowReading.{placed_as, row_room}
use Rattle.dayruns.proofs.glance.glance_at_entry.Goals as goal

pub returns-then-not-see_entry_row : goal.returns-then-not-see_entry_row
returns-then-not-see_entry_row c = unsure _ _ _ _ _ _ _ c.see_entry_row.ensures

pub near_entry-found-requires : goal.near_entry-found-requires
near_entry-found-requires c =
    let here = (placed_as _ _ _ c.requires c.args.field.now.placed).0 in
    let room = row_room c.see_entry_row.ensures c.if-not-see_entry_row.false in
    (omega (arith, here), omega (arith, here, room))

pub returns-then-counts-found : goal.returns-then-counts-found
returns-then-counts-found c =
    unsure _ _ _ _ _ _ _ c.see_entry_row.ensures

pub returns : goal.returns
returns c =
    let names = c.near_entry-found.ensures in
    glanced _ _ _ _ _ _ _ c.see_entry_row.ensures
    (λ yes. (
      c.if-not-see_entry_row.false,
      refl,
      entry_named _ _ _ (placed_as _ _ _ c.requires c.args.field.now.placed).0 (names.0 c.if-counts-found.false)
          (names.1 (ltb-true _ _ yes)),
      uncapped _ _ Entry _ refl,
    ))
