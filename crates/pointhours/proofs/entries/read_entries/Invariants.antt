-- The entries that the loop has gone over stand at the front of both lists.
use Rattle.columns.specs.Column.{col}
use Rattle.columns.proofs.Lists.{Filling}
use Rattle.pointhours.specs.Parts.{entitlement_in, mdq_in}
use Rattle.pointhours.proofs.entries.read_entries.Given as goal

abbrev pub invariant-loop-entry : goal.invariant-loop-entry
invariant-loop-entry l =
    Filling l.initial.entitlements (entitlement_in l.part) l.entry l.entitlements
    × Filling l.initial.mdqs (mdq_in l.tables.counts (col l.tables.numbers.now) l.part) l.entry l.mdqs
