-- The tests decide an answer of `check_entries`: 3 for what is asked, then what the walk through the list finds, one of 1 to 5.
use mathlib.Core.Path.{◌≡◌}
use mathlib.Core.List.{List}
use Prim.Native.Nat.{ℕ}
use Rattle.columns.specs.Column.{col}
use Rattle.units.specs.Verdict.{of_check, Decided}
use Rattle.units.proofs.Verdicts.{AllNumbered, none, ◌and◌, kept_by, checked}
use Rattle.dayformat.specs.declared.form.Tag.TheVariants.{Entry}
use Rattle.dayruns.specs.Run.{rows_of}
use Rattle.dayruns.specs.Walk.{walk_after}
use Rattle.dayruns.proofs.Decided.{Known, walk_numbered, known-numbered, run-known, ended-has}
use Rattle.pointentries.specs.Entries.{entries, entry_run, unread, entry_walk, list_check, asked, entries_check}
use Rattle.units.specs.Refusals.{Check}

entries-known : (list : List ℕ) (side : ℕ) → Known (entry_walk list side).found
entries-known list side =
    ended-has (λ walk. Known walk.found) list (walk_after unread Entry (entry_run list side))
    (run-known (entries list side) (λ many. col (rows_of (entries list side) many))) (λ fault known. known)

list_numbered : (list : List ℕ) (side point : ℕ) → AllNumbered (list_check list side point)
unfolding list_check
list_numbered list side point =
    none
    and kept_by _ 3 tt tt
    and kept_by _ 3 tt tt
    and walk_numbered (entry_walk list side) (known-numbered (entries-known list side))

pub entries_decided : (receipt delivery : List ℕ) (side point : ℕ) {found : Check} → found ≡ entries_check receipt delivery side point
    → Decided (entries_check receipt delivery side point) tt tt (of_check found)
entries_decided receipt delivery side point = checked (list_numbered (asked side receipt delivery) side point)
