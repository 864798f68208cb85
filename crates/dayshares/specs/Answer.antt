-- What `share_day` answers, and what it leaves in the three lent lists.
use Rattle.std.specs.Prelude.{◌≡◌, List, ℕ, length, Result, Ok, Err}
use Rattle.std.proofs.lemmas.List.Edits.{sets}
use Rattle.columns.specs.Column.{listed}
use Rattle.units.specs.Refusals.{accepted_or, Check}
use Rattle.units.specs.Verdict.{Verdict, accepting, refusing}
use Rattle.daytable.specs.Table.{Table, rows}
use Rattle.daytable.specs.Acceptance.{table_check}
use Rattle.dayshares.specs.declared.Shares.{Shares}
use Rattle.dayshares.specs.Firm.{level_one, level_two, level_three, firm}
use Rattle.dayshares.specs.Given.{firm_given, firm_total, auction_level, auction_given, auction_total, lower_tier_level, lower_tier_given, lower_tier_total, left}
use Rattle.units.specs.declared.refusal.Refusal.{Refusal}

-- the five levels, the total of each class, and LEFT
abbrev pub day_shares : Table → Shares
day_shares T =
    record {
      levels =
          record {
            one = level_one (firm T);
            two = level_two (firm T);
            three = level_three (firm T);
            auction = auction_level T;
            lower_tier = lower_tier_level T;
          };
      firm = record { 0 = firm_total T };
      auction = record { 0 = auction_total T };
      lower_tier = record { 0 = lower_tier_total T };
      left = record { 0 = left T };
    }

abbrev pub shares_answer : Check → Shares → Result Shares Refusal
shares_answer (Ok _) s = Ok s
shares_answer (Err x) s = Err x

-- 01's number, place and figures of each case
abbrev pub shares_verdict : Result Shares Refusal → Verdict Shares
shares_verdict (Ok s) = accepting s
shares_verdict (Err x) =
    refusing x
    (record {
      levels = record { one = 0; two = 0; three = 0; auction = 0; lower_tier = 0 };
      firm = record { 0 = 0 };
      auction = record { 0 = 0 };
      lower_tier = record { 0 = 0 };
      left = record { 0 = 0 };
    })

-- a lent list afterwards: a class's shares at its front where accepted, as it was where refused
abbrev pub class_afterwards : Check → ℕ → (ℕ → ℕ) → List ℕ → List ℕ
class_afterwards found n given lent = accepted_or found (sets lent 0 (listed n given)) lent

-- the statement of `share_day`: its answer, and the three lent lists before and after
pub record SharesAnswered (T : Table) (firm_lent auction_lent lower_tier_lent : List ℕ) (day : Result Shares Refusal)
    (firm_after auction_after lower_tier_after : List ℕ) : Type 0 where
  pub answers : day ≡ shares_answer (table_check T (length firm_lent) (length auction_lent) (length lower_tier_lent)) (day_shares T)
  pub leaves_firm :
      firm_after
      ≡ class_afterwards (table_check T (length firm_lent) (length auction_lent) (length lower_tier_lent)) (rows T)
      (firm_given T) firm_lent
  pub leaves_auction :
      auction_after
      ≡ class_afterwards (table_check T (length firm_lent) (length auction_lent) (length lower_tier_lent)) (rows T)
      (auction_given T) auction_lent
  pub leaves_lower_tier :
      lower_tier_after
      ≡ class_afterwards (table_check T (length firm_lent) (length auction_lent) (length lower_tier_lent)) (rows T)
      (lower_tier_given T) lower_tier_lent
