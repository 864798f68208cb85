-- The numbers of the days before a row rise.
use Rattle.std.specs.Prelude.{Ok}
use Rattle.month.specs.Days.{later}
use Rattle.month.specs.Account.{day_at}
use Rattle.month.proofs.Testing.{Testing}
use Rattle.month.proofs.examine.examine_numbers.Given as goal

abbrev pub invariant-loop-row : goal.invariant-loop-row
invariant-loop-row l = Testing l.account.count (λ row. later (day_at l.account) row (day_at l.account row).number) l.row (Ok tt)
