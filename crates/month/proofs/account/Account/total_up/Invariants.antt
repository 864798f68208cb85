-- What is added, and the sum over the days that are left, make the total.
use mathlib.Core.Path.{◌≡◌}
use Rattle.month.proofs.TakingOff.{TakingOff}
use Rattle.month.proofs.account.Account.total_up.Given as goal

abbrev pub invariant-loop-last : goal.invariant-loop-last
invariant-loop-last l = TakingOff l.initial.self l.self l.sums × (l.self.count ≡ l.last)
