-- Room for every statement: each figure has as many digits as its bound at most, each sum as 31 times that, and there are at most 31 days.
use Rattle.std.specs.Prelude.{Ok}
use mathlib.Core.Path.{◌≡◌}
use Prim.Native.Nat.{ℕ, ◌≤◌, ◌<◌}
use native.Mathlib.Nat.{le_refl}
use native.Mathlib.Omega.{arith}
use lib.ListN.{length, length-append}
use Rattle.lines.proofs.Sizes.{line-within, figure-within, figure-last}
use Rattle.lines.proofs.Texts.{texts_most}
use Rattle.month.specs.declared.account.AccountDay.{AccountDay}
use Rattle.month.specs.Days.{most_day_number, days_check}
use Rattle.month.specs.Total.{sums}
use Rattle.month.specs.Statement.{statement_line, statement_lines, total_line, statement_of, most_statement}
use Rattle.month.proofs.Accepting.{FiguresKept, figures-kept, days-kept}
use Rattle.month.proofs.Totalling.{summed-most}

day-most : (day : AccountDay) → day.number ≤ most_day_number → FiguresKept day.figures → length (statement_line day) ≤ 91
day-most day few K =
    let most = K.within in
    figure-within 9 _ _ (omega (arith, few))
    (figure-within 9 _ _ (omega (arith, most 0 (omega arith)))
    (figure-within 10 _ _ (omega (arith, most 1 (omega arith)))
    (figure-within 9 _ _ (omega (arith, most 2 (omega arith)))
    (figure-within 9 _ _ (omega (arith, most 3 (omega arith)))
    (figure-within 10 _ _ (omega (arith, most 4 (omega arith)))
    (figure-within 11 _ _ (omega (arith, most 5 (omega arith))) (figure-last 8 _ (omega (arith, most 6 (omega arith))))))))))

total-most : (n : ℕ) (days : ℕ → AccountDay) → days_check n days ≡ Ok tt → length (total_line (sums n days)) ≤ 95
total-most n days accepted =
    let most = summed-most days n accepted in
    line-within _ _ (le_refl 5)
    (figure-within 10 _ _ (omega (arith, most 0 (omega arith)))
    (figure-within 11 _ _ (omega (arith, most 1 (omega arith)))
    (figure-within 11 _ _ (omega (arith, most 2 (omega arith)))
    (figure-within 11 _ _ (omega (arith, most 3 (omega arith)))
    (figure-within 11 _ _ (omega (arith, most 4 (omega arith)))
    (figure-within 12 _ _ (omega (arith, most 5 (omega arith))) (figure-last 9 _ (omega (arith, most 6 (omega arith))))))))))

pub statement-most : (n : ℕ) (days : ℕ → AccountDay) → ((row : ℕ) → row < n → (days row).number ≤ most_day_number)
    → days_check n days ≡ Ok tt → length (statement_of n days) ≤ most_statement
statement-most n days few accepted =
    let K = days-kept n days accepted in
    omega (
      arith,
      length-append (statement_lines n days) (total_line (sums n days)),
      texts_most (λ row. statement_line (days row)) 91 n (λ row l. day-most (days row) (few row l) (figures-kept _ (K.figures row l))),
      total-most n days accepted,
      K.few,
    )
