-- The tests decide an answer of `Counts::check`: number 0 exactly where every count is within its bound.
use mathlib.Core.Path.{◌≡◌}
use Rattle.units.specs.Verdict.{of_check, Decided}
use Rattle.units.proofs.Verdicts.{AllNumbered, kept_by, each_by, checked}
use Rattle.dayformat.specs.declared.layout.Counts.{Counts}
use Rattle.dayformat.specs.Format.{many_tables}
use Rattle.dayformat.specs.Acceptance.{counts_check}
use Rattle.units.specs.Refusals.{Check}

pub counts_numbered : (counts : Counts) → AllNumbered (counts_check counts)
unfolding counts_check
counts_numbered counts = each_by _ many_tables (λ place. kept_by _ 3 tt tt)

pub counts_decided : (counts : Counts) {found : Check} → found ≡ counts_check counts
    → Decided (counts_check counts) tt tt (of_check found)
counts_decided counts = checked (counts_numbered counts)
