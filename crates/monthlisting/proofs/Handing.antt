-- Row after row, while each day is accepted, the account is the one after so many rows, and sound.
use Rattle.std.specs.Prelude.{Ok, Err}
use mathlib.Core.Path.{◌≡◌, refl, sym, ap, ◌∙◌}
use mathlib.Core.List.{List}
use Prim.Native.Nat.{ℕ, zero, suc, ◌+◌, ◌≤◌, ◌<◌}
use native.Mathlib.Nat.{le_antisymm}
use native.Mathlib.Numerals.{add-one}
use native.Mathlib.Omega.{arith}
use borrow.Author.Tests.{leb-true}
use lib.ListN.{length}
use Rattle.units.specs.declared.refusal.Refusal.{Refusal}
use Rattle.units.specs.Refusals.{placed, Check}
use Rattle.units.specs.Each.{each}
use Rattle.units.proofs.Checks.{no_acceptance, both-accepted, kept, placed-accepted, accepts-both, accepts-placed}
use Rattle.units.proofs.Testing.{each-refused}
use Rattle.month.specs.declared.account.Account.{Account}
use Rattle.month.specs.declared.account.Taken.{Taken}
use Rattle.month.specs.Days.{most_days, most_day_number}
use Rattle.month.specs.Account.{no_days, day_at, account_check}
use Rattle.month.proofs.HandingIn.{after-each, after-sound, after-long, none-long, none-sound}
use Rattle.monthlisting.specs.Rows.{row_day, account_after, in_turn, month_row_check, days_in}
use Rattle.monthlisting.specs.Private.{RowTaken, HandedIn}

module _ (numbers : List ℕ) where
  -- ---- the loop
  pub record Handing (row : ℕ) (A : Account) : Type 0 where
    pub inside : row ≤ days_in numbers
    pub after : A ≡ account_after numbers row
    pub accepted : each row (month_row_check numbers) ≡ Ok tt

  pub handing_none : {A : Account} → A ≡ no_days → Handing 0 A
  unfolding account_after each
  handing_none e = record { inside = omega arith; after = e; accepted = refl }

  module _ {row : ℕ} {A : Account} (H : Handing row A) where
    module _ (l : row < days_in numbers) {taken : Taken} (T : RowTaken A numbers row taken) where
      row-found : month_row_check numbers row ≡ placed row taken.found
      row-found = ap (λ before. placed row (in_turn numbers before row)) (sym H.after) ∙ ap (placed row) (sym T.found)

      pub handing_next : taken.found ≡ Ok tt → Handing (row + 1) taken.account
      unfolding account_after each
      handing_next e =
          record {
            inside = omega (arith, l);
            after = rw (add-one, ← H.after) (T.account e);
            accepted = rw add-one (accepts-both H.accepted (row-found ∙ accepts-placed row e));
          }

      pub handing_stops : {refusal : Refusal} {there : Check} → taken.found ≡ Err refusal → there ≡ placed row taken.found
          → HandedIn numbers (record { account = A; found = there })
      unfolding placed
      handing_stops e is =
          let stops = is ∙ ap (placed row) e in
          let refused = each-refused (month_row_check numbers) (days_in numbers) row l H.accepted (row-found ∙ ap (placed row) e) in
          record { found = stops ∙ sym refused; account = λ accepted. no_acceptance (sym stops ∙ accepted) }

    pub handing_all : days_in numbers ≤ row → HandedIn numbers (record { account = A; found = Ok tt })
    handing_all l =
        let all : row ≡ days_in numbers = le_antisymm H.inside l in
        record { found = rw all at (sym H.accepted); account = λ none. rw all at H.after }

  -- ---- the account after accepted rows
  pub record AfterRows (n : ℕ) (A : Account) : Type 0 where
    pub many : A.count ≡ n
    pub long : length A.days ≡ most_days
    pub accepted : account_check A ≡ Ok tt
    pub small : (row : ℕ) → row < A.count → (day_at A row).number ≤ most_day_number

  pub after-rows : (n : ℕ) → each n (month_row_check numbers) ≡ Ok tt → AfterRows n (account_after numbers n)
  unfolding account_after each
  after-rows zero e = record { many = refl; long = none-long; accepted = none-sound; small = λ row l. absurd (omega (arith, l)) }
  after-rows (suc row) e =
      let both = both-accepted _ _ e in
      let S = after-rows row both.0 in
      let tests = both-accepted _ _ (placed-accepted row _ both.1) in
      let A = account_after numbers row in
      let day = row_day numbers row in
      rw tests.1
      (record {
        many = rw add-one (ap suc S.many);
        long = after-long A day S.long tests.1;
        accepted = after-sound A day S.long tests.1;
        small =
            after-each A day S.long tests.1 (λ day. day.number ≤ most_day_number) S.small (leb-true _ _ (kept _ _ tests.0));
      })
