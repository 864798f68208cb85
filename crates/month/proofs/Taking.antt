-- The account that comes back: with the day where it is accepted, else as it was.
use Rattle.std.specs.Prelude.{Ok, Err}
use mathlib.Core.Path.{◌≡◌, sym, ◌∙◌}
use Rattle.units.specs.declared.refusal.Refusal.{Refusal}
use Rattle.month.specs.declared.account.AccountDay.{AccountDay}
use Rattle.month.specs.declared.account.Account.{Account}
use Rattle.month.specs.declared.account.Taken.{Taken}
use Rattle.month.specs.Account.{taking_check, with_day, take_in}
use Rattle.units.specs.Refusals.{Check}

module _ (A : Account) (day : AccountDay) {found : Check} (is : found ≡ taking_check A day) where
  pub day-left : {refusal : Refusal} → found ≡ Err refusal → ◌≡◌ {A = Taken} (record { account = A; found = found }) (take_in A day)
  day-left e = let refused = sym is ∙ e in rw (e, refused)

  pub day-taken : found ≡ Ok tt → ◌≡◌ {A = Taken} (record { account = with_day A day; found = found }) (take_in A day)
  day-taken e = let accepted = sym is ∙ e in rw (e, accepted)
