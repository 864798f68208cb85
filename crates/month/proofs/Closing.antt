-- The total decides whether there is a statement, and the statement whether the account is emptied.
use Rattle.std.specs.Prelude.{Result, Ok, Err}
use mathlib.Core.Path.{◌≡◌, refl, ap, sym, ◌∙◌}
use mathlib.Core.List.{List}
use Prim.Native.Nat.{ℕ, ◌≤◌}
use lib.ListN.{length}
use Rattle.units.specs.declared.refusal.Refusal.{Refusal}
use Rattle.units.specs.Refusals.{accepted_or, Check}
use Rattle.lines.specs.Answer.{listing_answer, listing_check, ListingAnswered}
use Rattle.lines.proofs.Answers.{refused-before}
use Rattle.month.specs.declared.figures.Figures.{Figures}
use Rattle.month.specs.declared.account.Account.{Account}
use Rattle.month.specs.declared.account.Totalled.{Totalled}
use Rattle.month.specs.Days.{most_days}
use Rattle.month.specs.Account.{no_days, account_check}
use Rattle.month.specs.Total.{account_sums, total_answer, total_up}
use Rattle.month.specs.Statement.{statement, ClosingAnswered}
use Rattle.month.proofs.Accepting.{days-kept}

-- ---- the total
refused_by : (found : Check) (figures : Figures) {refusal : Refusal} → total_answer found figures ≡ Err refusal
    → found ≡ Err refusal
refused_by (Ok _) figures e = cc
refused_by (Err refusal) figures e = cc

summed_by : (found : Check) (figures : Figures) {sums : Figures} → total_answer found figures ≡ Ok sums
    → (found ≡ Ok tt) × (sums ≡ figures)
summed_by (Ok _) figures e = (refl, cc)
summed_by (Err refusal) figures e = (cc, cc)

module _ (A : Account) {totalled : Totalled} (is : totalled ≡ total_up A) where
  total_is : totalled.total ≡ total_answer (account_check A) (account_sums A)
  total_is = ap (λ totalled. totalled.total) is

  pub faulty : {refusal : Refusal} → totalled.total ≡ Err refusal
      → (lent : List ℕ) → ListingAnswered (account_check A) (statement A) lent lent (Err refusal)
  faulty e lent = refused-before (statement A) lent (refused_by (account_check A) (account_sums A) (sym total_is ∙ e))

  module _ {sums : Figures} (e : totalled.total ≡ Ok sums) where
    both : (account_check A ≡ Ok tt) × (sums ≡ account_sums A)
    both = summed_by (account_check A) (account_sums A) (sym total_is ∙ e)

    pub sound : (A.count ≤ most_days) × (sums ≡ account_sums A)
    sound = ((days-kept _ _ both.0).few, both.1)

    pub stated : {lent after : List ℕ} {listing : Result ℕ Refusal} → ListingAnswered (Ok tt) (statement A) lent after listing
        → ListingAnswered (account_check A) (statement A) lent after listing
    stated L = rw both.0 L

-- ---- the statement
left_by : (found : Check) (many : ℕ) {refusal : Refusal} (A : Account) → listing_answer found many ≡ Err refusal
    → A ≡ accepted_or found no_days A
left_by (Ok _) many A e = cc
left_by (Err refusal) many A e = refl

emptied_by : (found : Check) (many : ℕ) {size : ℕ} (A : Account) → listing_answer found many ≡ Ok size
    → no_days ≡ accepted_or found no_days A
emptied_by (Ok _) many A e = refl
emptied_by (Err refusal) many A e = cc

module _ (A : Account) {lent after : List ℕ} {listing : Result ℕ Refusal}
    (L : ListingAnswered (account_check A) (statement A) lent after listing) where
  abbrev tests : Check
  tests = listing_check (account_check A) (statement A) (length lent)

  pub kept_open : {refusal : Refusal} → listing ≡ Err refusal
      → ClosingAnswered A lent after (record { account = A; listing = listing })
  kept_open e = record { lists = L; empties = left_by tests (length (statement A)) A (sym L.answers ∙ e) }

  pub closed : {size : ℕ} {empty : Account} → listing ≡ Ok size → empty ≡ no_days
      → ClosingAnswered A lent after (record { account = empty; listing = listing })
  closed e none = record { lists = L; empties = none ∙ emptied_by tests (length (statement A)) A (sym L.answers ∙ e) }
