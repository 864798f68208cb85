-- What each function hands back: the answer of the routine that it calls, packed; each lent list afterwards is the routine's.
use Rattle.std.specs.Prelude.{◌≡◌, List, ℕ, Result}
use Rattle.rounds.specs.Answer.{RoundAnswered}
use Rattle.lines.specs.Answer.{ListingAnswered}
use Rattle.daytable.specs.Table.{Table}
use Rattle.dayshares.specs.Answer.{SharesAnswered}
use Rattle.dayfile.specs.Answer.{ReadingAnswered}
use Rattle.cormcushion.specs.Answers.{of_listing, of_reading, of_round, of_shares, with_day, with_levels}
use Rattle.units.specs.Refusals.{Check}
use Rattle.dayformat.specs.declared.day.Day.{Day}
use Rattle.rounds.specs.declared.Given.{Given}
use Rattle.units.specs.declared.refusal.Refusal.{Refusal}
use Rattle.dayshares.specs.declared.Shares.{Shares}

-- a listing, from what the tests of its input find and its text
pub record ListingPacked (tests : Check) (text lent after : List ℕ) (packed : ℕ) : Type 0 where
  pub listing : Result ℕ Refusal
  pub answers : ListingAnswered tests text lent after listing
  pub packs : packed ≡ of_listing listing

-- a day file read
pub record ReadingPacked (file day_lent lent : List ℕ) (packed : ℕ) (day_after after : List ℕ) : Type 0 where
  pub reading : Result Day Refusal
  pub answers : ReadingAnswered file lent after reading
  pub packs : packed ≡ of_reading reading
  pub leaves_day : day_after ≡ with_day reading day_lent

-- one sharing round
pub record RoundPacked (c : ℕ) (ws qs lent : List ℕ) (packed : ℕ) (after : List ℕ) : Type 0 where
  pub round : Result Given Refusal
  pub answers : RoundAnswered c ws qs lent round after
  pub packs : packed ≡ of_round round

-- a day's shares
pub record SharesPacked (T : Table) (firm_lent auction_lent lower_tier_lent levels_lent : List ℕ) (packed : ℕ)
    (firm_after auction_after lower_tier_after levels_after : List ℕ) : Type 0 where
  pub day : Result Shares Refusal
  pub answers : SharesAnswered T firm_lent auction_lent lower_tier_lent day firm_after auction_after lower_tier_after
  pub packs : packed ≡ of_shares day
  pub leaves_levels : levels_after ≡ with_levels day levels_lent
