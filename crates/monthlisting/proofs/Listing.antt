-- The rows' tests decide whether there is a statement: of accepted rows the account is sound, so that only 7 can refuse it.
use Rattle.std.specs.Prelude.{Ok, Err}
use mathlib.Core.Path.{◌≡◌, sym, ◌∙◌}
use mathlib.Core.List.{List}
use Prim.Native.Nat.{ℕ}
use Rattle.units.specs.declared.refusal.Refusal.{Refusal}
use Rattle.units.proofs.Checks.{both-accepted}
use Rattle.lines.specs.Answer.{ListingAnswered}
use Rattle.lines.proofs.Answers.{refused-before}
use Rattle.month.specs.declared.account.Taken.{Taken}
use Rattle.month.specs.declared.account.Closed.{Closed}
use Rattle.month.specs.Statement.{ClosingAnswered}
use Rattle.monthlisting.specs.Rows.{days_in, month_check, month_listing}
use Rattle.monthlisting.specs.Private.{HandedIn}
use Rattle.monthlisting.proofs.Handing.{after-rows}
use Rattle.units.specs.Refusals.{Check}

module _ (numbers : List ℕ) {handed : Taken} (H : HandedIn numbers handed) {found : Check} (is : found ≡ month_check numbers) where
  pub some-refused : {refusal : Refusal} (lent : List ℕ) → found ≡ Err refusal
      → ListingAnswered (month_check numbers) (month_listing numbers) lent lent (Err refusal)
  some-refused lent e = refused-before _ lent (sym is ∙ e)

  pub all_listed : {lent after : List ℕ} {closed : Closed} → found ≡ Ok tt → ClosingAnswered handed.account lent after closed
      → ListingAnswered (month_check numbers) (month_listing numbers) lent after closed.listing
  unfolding month_check
  all_listed e closed =
      let accepted = sym is ∙ e in
      let rows = (both-accepted _ _ accepted).1 in
      rw accepted (rw (H.account (H.found ∙ rows), (after-rows numbers (days_in numbers) rows).accepted) at closed.lists)
