-- An account taken off day by day: what is added up, with what is left, makes the total.
use Rattle.std.specs.Prelude.{Ok}
use mathlib.Core.Path.{◌≡◌, refl, ap, ◌∙◌}
use Prim.Native.Nat.{ℕ, ◌+◌, ◌-◌, ◌≤◌, ◌<◌}
use native.Mathlib.Nat.{le_refl, le_antisymm}
use native.Mathlib.Omega.{arith}
use lib.ListN.{get_or}
use Rattle.columns.specs.Sum.{sum}
use Rattle.columns.proofs.Sums.{sum-next}
use Rattle.month.specs.declared.figures.Figures.{Figures}
use Rattle.month.specs.declared.account.Account.{Account}
use Rattle.month.specs.Figures.{figure, seven_zeros}
use Rattle.month.specs.Days.{no_day}
use Rattle.month.specs.Account.{day_at, account_check}
use Rattle.month.specs.Total.{account_sums}
use Rattle.month.specs.Private.{plus, Small}
use Rattle.month.proofs.Totalling.{figure_by, same, summed, summed-most, most-low}

pub record TakingOff (A left : Account) (added : Figures) : Type 0 where
  pub days : left.days ≡ A.days
  pub few : left.count ≤ A.count
  pub adds : (place : ℕ) → place < 7 → figure added place + summed (day_at A) left.count place ≡ summed (day_at A) A.count place

module _ (A : Account) where
  pub off_none : TakingOff A A seven_zeros
  off_none =
      record { days = refl; few = le_refl A.count; adds = λ place l. rw (figure_by (λ place. 0) place l) (omega arith) }

  module _ {left : Account} {added : Figures} (T : TakingOff A left added) where
    module _ (some : 0 < left.count) where
      abbrev last : Figures
      last = (day_at left (left.count - 1)).figures

      -- with the last day
      off_one : (place : ℕ) → place < 7
          → figure added place + figure last place + summed (day_at A) (left.count - 1) place ≡ summed (day_at A) A.count place
      off_one place l =
          let same-day = ap (λ days. figure (get_or days (left.count - 1) no_day).figures place) T.days in
          let one_off : left.count ≡ left.count - 1 + 1 = omega (arith, some) in
          let one_more = ap (λ n. summed (day_at A) n place) one_off in
          omega (arith, T.adds place l, same-day, one_more, sum-next (left.count - 1) (λ row. figure (day_at A row).figures place))

      pub off_small : account_check A ≡ Ok tt → Small (plus added last)
      off_small accepted place l =
          rw (figure_by (λ place. figure added place + figure last place) place l)
          (omega (arith, off_one place l, summed-most (day_at A) A.count accepted place l, most-low place l))

      pub off_next : {sum : Figures} → sum ≡ plus added last → TakingOff A (record { days = left.days; count = left.count - 1 }) sum
      off_next e =
          record {
            days = T.days;
            few = omega (arith, T.few);
            adds =
                λ place l.
                let is = ap (λ F. figure F place) e ∙ figure_by (λ place. figure added place + figure last place) place l in
                omega (arith, is, off_one place l);
          }

    pub off_all : left.count ≤ 0 → added ≡ account_sums A
    unfolding sum
    off_all none =
        let all = le_antisymm none (omega arith) in
        same (figure added) (summed (day_at A) A.count) (λ place l. omega (arith, (rw all at (T.adds place l))))
