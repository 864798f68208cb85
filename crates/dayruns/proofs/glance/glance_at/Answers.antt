-- Where rows stand in a file, an entry is glanced at in its own way, and any other row by its names.
use mathlib.Core.Path.{ap, sym, ◌∙◌}
use Rattle.dayformat.specs.declared.form.Tag.TheVariants.{Entry}
use Rattle.dayformat.proofs.Every.{byte_tells}
use Rattle.dayruns.proofs.Glancing.{unseen}
use Rattle.dayruns.proofs.glance.glance_at.Goals as goal

pub returns-then-not-is_file : goal.returns-then-not-is_file
returns-then-not-is_file c = unseen _ _ _ _ _ _ _

pub glance_at_entry-requires : goal.glance_at_entry-requires
glance_at_entry-requires c =
    byte_tells c.args.field.now.tag Entry (sym (ap (λ form. form.byte) c.form_of.ensures) ∙ c.if-form_of-eq-ENTRY_BYTE.true)

pub returns-then-form_of-eq-ENTRY_BYTE : goal.returns-then-form_of-eq-ENTRY_BYTE
returns-then-form_of-eq-ENTRY_BYTE c =
    rw (
      byte_tells c.args.field.now.tag Entry (sym (ap (λ form. form.byte) c.form_of.ensures) ∙ c.if-form_of-eq-ENTRY_BYTE.true),
      c.is_file.ensures c.if-not-is_file.false,
    )
    c.glance_at_entry.ensures

pub returns : goal.returns
returns c = rw (c.is_file.ensures c.if-not-is_file.false) c.glance_at_row.ensures
