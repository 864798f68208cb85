-- A row that passes every test but those of its names and its caps is sound where both names are found and the first caps no number.
use mathlib.Core.Path.{refl}
use Prim.Native.Nat.{◌<◌}
use native.Mathlib.Omega.{arith}
use lib.ListN.{get_or}
use Rattle.dayformat.specs.declared.form.Tag.TheVariants.{Head}
use Rattle.dayformat.specs.Format.{◌is_a◌}
use Rattle.dayformat.specs.Layout.{count}
use Rattle.dayrows.proofs.Enough.{keyed-listed}
use Rattle.dayruns.proofs.Finding.{name-inside, caps-inside, both-named, first-caps}
use Rattle.dayruns.proofs.Glancing.{unsure, glanced}
use Rattle.dayruns.proofs.glance.glance_at_row.Goals as goal

pub returns-then-not-see_row : goal.returns-then-not-see_row
returns-then-not-see_row c = unsure _ _ _ _ _ _ _ c.see_row.ensures

pub row_keyed_from-first-requires : goal.row_keyed_from-first-requires
row_keyed_from-first-requires c =
    name-inside c.see_row.ensures c.if-not-see_row.false c.args.field.now.placed.0 c.names_of-names.ensures 0 (0 is_a Head) (omega arith)

pub row_keyed_from-second-requires : goal.row_keyed_from-second-requires
row_keyed_from-second-requires c =
    name-inside c.see_row.ensures c.if-not-see_row.false c.args.field.now.placed.0 c.names_of-names.ensures 1 (0 is_a Head) (omega arith)

pub returns-then-count_of-first : goal.returns-then-count_of-first
returns-then-count_of-first c = unsure _ _ _ _ _ _ _ c.see_row.ensures

pub returns-then-count_of-second : goal.returns-then-count_of-second
returns-then-count_of-second c = unsure _ _ _ _ _ _ _ c.see_row.ensures

pub is_under-requires : goal.is_under-requires
is_under-requires c =
    caps-inside c.see_row.ensures c.if-not-see_row.false c.args.field.now.placed.0 c.names_of-names.ensures (0 is_a Head)
    (omega (arith, c.if-count_of-first.false, c.count_of.ensures))

pub returns : goal.returns
returns c =
    let field = c.args.field.now in
    let found : c.row_keyed_from-first.result < count field.counts (get_or c.names_of-names.result 0 (0 is_a Head)).tag =
    omega (arith, c.if-count_of-first.false, c.count_of.ensures) in
    let same = c.row_keyed_from-first.ensures found in
    let other = c.row_keyed_from-second.ensures (omega (arith, c.if-count_of-second.false, c.count_of-2.ensures)) in
    glanced _ _ _ _ _ _ _ c.see_row.ensures
    (λ yes. (
      c.if-not-see_row.false,
      refl,
      both-named field.counts _ field.tag field.row field.placed.0 (0 is_a Head) c.names_of-names.ensures
          (keyed-listed field.counts _ _ _ _ found same)
          (keyed-listed field.counts _ _ _ _ (omega (arith, c.if-count_of-second.false, c.count_of-2.ensures)) other),
      first-caps field.counts _ field.tag field.row field.placed.0 (0 is_a Head) c.names_of-names.ensures
          found same (c.is_under.ensures yes),
    ))
