-- The tests decide each answer: number 0 exactly where they accept; 3, 5 and of a statement 7 else, with zeros for figures.
use mathlib.Core.Path.{◌≡◌, refl, ap}
use mathlib.Core.List.{List}
use Prim.Native.Nat.{ℕ, zero, suc}
use lib.ListN.{length}
use Rattle.units.specs.Verdict.{Decided, of_check}
use Rattle.units.proofs.Verdicts.{AllNumbered, none, ◌and◌, kept_by, each_by, decided, checked}
use Rattle.lines.specs.Answer.{listing_verdict, listing_check}
use Rattle.lines.proofs.Decided.{listed_decided}
use Rattle.month.specs.declared.figures.Figures.{Figures}
use Rattle.month.specs.declared.account.AccountDay.{AccountDay}
use Rattle.month.specs.declared.account.Account.{Account}
use Rattle.month.specs.declared.account.Taken.{Taken}
use Rattle.month.specs.declared.account.Totalled.{Totalled}
use Rattle.month.specs.declared.account.Closed.{Closed}
use Rattle.month.specs.Figures.{seven_zeros, figures_check}
use Rattle.month.specs.Days.{later, days_check, next_check}
use Rattle.month.specs.Account.{day_at, account_check, taking_check, take_in}
use Rattle.month.specs.Total.{account_sums, total_answer, total_verdict, total_up}
use Rattle.month.specs.Statement.{statement, ClosingAnswered}
use Rattle.units.specs.Refusals.{Check}

figures_numbered : (F : Figures) → AllNumbered (figures_check F)
unfolding figures_check
figures_numbered F = each_by _ 7 (λ place. kept_by _ 3 tt tt) and kept_by _ 3 tt tt

later_numbered : (days : ℕ → AccountDay) (n number : ℕ) → AllNumbered (later days n number)
unfolding later
later_numbered days zero number = none
later_numbered days (suc before) number = kept_by _ 5 tt tt

days_numbered : (n : ℕ) (days : ℕ → AccountDay) → AllNumbered (days_check n days)
unfolding days_check
days_numbered n days =
    kept_by _ 3 tt tt
    and each_by _ n (λ row. figures_numbered (days row).figures)
    and each_by _ n (λ row. later_numbered days row (days row).number)

pub next_numbered : (n : ℕ) (days : ℕ → AccountDay) (day : AccountDay) → AllNumbered (next_check n days day)
unfolding next_check
next_numbered n days day =
    kept_by _ 3 tt tt and figures_numbered day.figures and days_numbered n days and later_numbered days n day.number

pub seven_decided : (F : Figures) {found : Check} → found ≡ figures_check F → Decided (figures_check F) tt tt (of_check found)
seven_decided F = checked (figures_numbered F)

module _ (A : Account) where
  pub taking_decided : (day : AccountDay) {taken : Taken} → taken ≡ take_in A day
      → Decided (taking_check A day) tt tt (of_check taken.found)
  taking_decided day is = checked (next_numbered A.count (day_at A) day) (ap (λ taken. taken.found) is)

  pub total_decided : {totalled : Totalled} → totalled ≡ total_up A
      → Decided (account_check A) (account_sums A) seven_zeros (total_verdict totalled.total)
  total_decided is =
      decided total_answer total_verdict refl (λ refusal. refl) (days_numbered A.count (day_at A)) (ap (λ totalled. totalled.total) is)

  pub closing_decided : {lent after : List ℕ} {closed : Closed} → ClosingAnswered A lent after closed
      → Decided (listing_check (account_check A) (statement A) (length lent)) (length (statement A)) 0 (listing_verdict closed.listing)
  closing_decided is = listed_decided (days_numbered A.count (day_at A)) is.lists
