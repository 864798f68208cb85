-- What a listing of shares is laid from: the figures that are shared of a day.
use Rattle.std.specs.Prelude.{◌≡◌, List, ℕ, ◌<◌}
use Rattle.columns.specs.Column.{col}
use Rattle.dayformat.specs.declared.day.Day.{Day}
use Rattle.dayformat.specs.declared.form.Tag.TheVariants.{Shipper}
use Rattle.dayformat.specs.Layout.{count}
use Rattle.dayshares.specs.declared.Shares.{Shares}
use Rattle.dayshares.specs.Given.{firm_given, firm_total, auction_given, lower_tier_given, left}
use Rattle.numbershares.specs.DayTable.{table_of}

-- a class's list has the share of each of so many rows
abbrev pub Holds : ℕ → List ℕ → (ℕ → ℕ) → Type 0
Holds many list given = (row : ℕ) → row < many → col list row ≡ given row

-- the totals of the head line, and each class's list
pub record Shared (day : Day) (numbers : List ℕ) (shares : Shares) (firm auction lower_tier : List ℕ) : Type 0 where
  pub total : shares.firm.0 ≡ firm_total (table_of day (col numbers))
  pub rest : shares.left.0 ≡ left (table_of day (col numbers))
  pub firm_has : Holds (count day.counts Shipper) firm (firm_given (table_of day (col numbers)))
  pub auction_has : Holds (count day.counts Shipper) auction (auction_given (table_of day (col numbers)))
  pub lower_tier_has : Holds (count day.counts Shipper) lower_tier (lower_tier_given (table_of day (col numbers)))
