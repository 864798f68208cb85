-- The figures of the days before a row are sound.
use Rattle.std.specs.Prelude.{Ok}
use Rattle.month.specs.Figures.{figures_check}
use Rattle.month.specs.Account.{day_at}
use Rattle.month.proofs.Testing.{Testing}
use Rattle.month.proofs.examine.examine_figures.Given as goal

abbrev pub invariant-loop-row : goal.invariant-loop-row
invariant-loop-row l = Testing l.account.count (λ row. figures_check (day_at l.account row).figures) l.row (Ok tt)
