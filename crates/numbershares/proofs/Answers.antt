-- What is tested before the table refuses the day; where it accepts, the table decides.
use Rattle.std.specs.Prelude.{Result, Ok, Err}
use mathlib.Core.Path.{◌≡◌, sym, ◌∙◌}
use mathlib.Core.List.{List}
use Prim.Native.Nat.{ℕ}
use lib.ListN.{length}
use Rattle.columns.specs.Column.{col}
use Rattle.units.specs.declared.refusal.Refusal.{Refusal}
use Rattle.units.specs.Refusals.{◌then◌, Check, first_refusal}
use Rattle.daytable.specs.Acceptance.{table_check}
use Rattle.dayformat.specs.declared.day.Day.{Day}
use Rattle.dayshares.specs.Answer.{SharesAnswered}
use Rattle.numbershares.specs.DayTable.{table_of}
use Rattle.numbershares.specs.Answer.{numbers_check, NumbersAnswered}
use Rattle.numbershares.specs.Private.{early_check}
use Rattle.numbershares.proofs.Tables.{figures-first}
use Rattle.dayshares.specs.declared.Shares.{Shares}

module _ (day : Day) (numbers firm auction lower_tier : List ℕ) {found : Check} (is : found ≡ early_check day numbers) where
  abbrev checked : Check
  checked = numbers_check day numbers (length firm) (length auction) (length lower_tier)

  checks : (found then table_check (table_of day (col numbers)) (length firm) (length auction) (length lower_tier)) ≡ checked
  checks = rw is (figures-first day numbers (length firm) (length auction) (length lower_tier))

  pub figures_refuse : (x : Refusal) → found ≡ Err x
      → NumbersAnswered day numbers firm auction lower_tier (Err x) firm auction lower_tier
  unfolding first_refusal
  figures_refuse x e =
      let refused : checked ≡ Err x = sym checks ∙ rw e in
      record { answers = rw refused; leaves_firm = rw refused; leaves_auction = rw refused; leaves_lower_tier = rw refused }

  pub table_decides : found ≡ Ok tt → {answered : Result Shares Refusal} {firm_after auction_after lower_tier_after : List ℕ}
      → SharesAnswered (table_of day (col numbers)) firm auction lower_tier answered firm_after auction_after lower_tier_after
      → NumbersAnswered day numbers firm auction lower_tier answered firm_after auction_after lower_tier_after
  unfolding first_refusal
  table_decides e A =
      let decides : checked ≡ table_check (table_of day (col numbers)) (length firm) (length auction) (length lower_tier) =
      sym checks ∙ rw e
      in
      record {
        answers = rw decides A.answers;
        leaves_firm = rw decides A.leaves_firm;
        leaves_auction = rw decides A.leaves_auction;
        leaves_lower_tier = rw decides A.leaves_lower_tier;
      }
