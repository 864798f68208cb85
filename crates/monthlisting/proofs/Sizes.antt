-- Room for every month's listing: accepted rows make a sound account, whose numbers are of 32 bits.
use Rattle.std.specs.Prelude.{Ok}
use mathlib.Core.Path.{◌≡◌}
use mathlib.Core.List.{List}
use Prim.Native.Nat.{ℕ, ◌≤◌}
use lib.ListN.{length}
use Rattle.units.proofs.Checks.{both-accepted}
use Rattle.month.specs.Account.{day_at}
use Rattle.month.specs.Statement.{most_statement}
use Rattle.month.proofs.Sizes.{statement-most}
use Rattle.monthlisting.specs.Rows.{account_after, days_in, month_check, month_listing}
use Rattle.monthlisting.proofs.Handing.{after-rows}

pub text-most : (numbers : List ℕ) → month_check numbers ≡ Ok tt → length (month_listing numbers) ≤ most_statement
unfolding month_check
text-most numbers accepted =
    let S = after-rows numbers (days_in numbers) (both-accepted _ _ accepted).1 in
    statement-most _ (day_at (account_after numbers (days_in numbers))) S.small S.accepted
