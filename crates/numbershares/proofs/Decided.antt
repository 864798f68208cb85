-- The tests decide an answer of `share_numbers`: number 0 exactly where they accept, with the table's shares, which keep demand 3.
use Rattle.std.specs.Prelude.{Result}
use mathlib.Core.Path.{◌≡◌, refl, ◌∙◌}
use mathlib.Core.List.{List}
use Prim.Native.Nat.{ℕ}
use lib.ListN.{length}
use Rattle.columns.specs.Column.{col}
use Rattle.units.specs.Verdict.{Decided}
use Rattle.units.proofs.Checks.{both-accepted}
use Rattle.units.proofs.Verdicts.{AllNumbered, none, ◌and◌, kept_by, decided}
use Rattle.daytable.proofs.Decided.{check_numbered}
use Rattle.dayformat.specs.declared.day.Day.{Day}
use Rattle.dayformat.proofs.Decided.{counts_numbered}
use Rattle.dayshares.specs.Answer.{day_shares, shares_answer, shares_verdict}
use Rattle.dayshares.specs.Promise.{SharesKept}
use Rattle.dayshares.proofs.Decided.{day-kept}
use Rattle.numbershares.specs.DayTable.{table_of}
use Rattle.numbershares.specs.Answer.{numbers_check, NumbersAnswered}
use Rattle.units.specs.declared.refusal.Refusal.{Refusal}
use Rattle.dayshares.specs.declared.Shares.{Shares}

numbers_numbered : (day : Day) (numbers : List ℕ) (firm auction lower_tier : ℕ)
    → AllNumbered (numbers_check day numbers firm auction lower_tier)
unfolding numbers_check
numbers_numbered day numbers firm auction lower_tier =
    none and kept_by _ 9 tt tt and counts_numbered day.counts and check_numbered (table_of day (col numbers)) _ _ _

module _ {day : Day} {numbers firm auction lower_tier : List ℕ} {answered : Result Shares Refusal}
    {firm_after auction_after lower_tier_after : List ℕ}
    (A : NumbersAnswered day numbers firm auction lower_tier answered firm_after auction_after lower_tier_after) where
  pub numbers_decided :
      Decided (numbers_check day numbers (length firm) (length auction) (length lower_tier)) (day_shares (table_of day (col numbers)))
      (record {
        levels = record { one = 0; two = 0; three = 0; auction = 0; lower_tier = 0 };
        firm = record { 0 = 0 };
        auction = record { 0 = 0 };
        lower_tier = record { 0 = 0 };
        left = record { 0 = 0 };
      })
      (shares_verdict answered)
  numbers_decided = decided shares_answer shares_verdict refl (λ refusal. refl) (numbers_numbered day numbers _ _ _) A.answers

  -- demand 3, of the table that the numbers make
  pub numbers-kept : (shares_verdict answered).number ≡ 0
      → SharesKept (table_of day (col numbers)) firm auction lower_tier answered firm_after auction_after lower_tier_after
  unfolding numbers_check
  numbers-kept zero =
      let accepted = numbers_decided.exactly zero in
      let of-table = (both-accepted _ _ accepted).1 in
      day-kept
      (record {
        answers = A.answers ∙ rw (accepted, of-table);
        leaves_firm = A.leaves_firm ∙ rw (accepted, of-table);
        leaves_auction = A.leaves_auction ∙ rw (accepted, of-table);
        leaves_lower_tier = A.leaves_lower_tier ∙ rw (accepted, of-table);
      })
      zero
