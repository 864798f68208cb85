-- Demand 3: what the shares of every accepted table keep, whatever the classes' columns and LEFT were worked out by.
use Rattle.std.specs.Prelude.{◌≡◌, List, ℕ, ◌+◌, ◌-◌, ◌≤◌, ◌<◌, min, take, drop, Result}
use Rattle.columns.specs.Column.{col}
use Rattle.columns.specs.Sum.{sum}
use Rattle.sharing.specs.Part.{part}
use Rattle.daytable.specs.Table.{Table, rows}
use Rattle.dayshares.specs.Firm.{compressor_mdq, firm as firm_of}
use Rattle.dayshares.specs.Answer.{shares_verdict}
use Rattle.units.specs.declared.refusal.Refusal.{Refusal}
use Rattle.dayshares.specs.declared.Shares.{Shares}

-- a firm row's pro-rata parts of free flow and of compressor capacity, each rounded down and lessened by one, never below zero
abbrev pub firm_floor : Table → ℕ → ℕ
firm_floor T i =
    (part (rows T) (firm_of T).free_flow_mdq T.free_flow i - 1) + (part (rows T) (compressor_mdq (firm_of T)) T.compressor i - 1)

pub record Promise (T : Table) (firm auction lower_tier : ℕ → ℕ) (left : ℕ) : Type 0 where
  -- no row of any class above its schedule
  pub firm_within : (i : ℕ) → i < rows T → firm i ≤ col T.firm_schedule i
  pub auction_within : (i : ℕ) → i < rows T → auction i ≤ col T.auction_schedule i
  pub lower_tier_within : (i : ℕ) → i < rows T → lower_tier i ≤ col T.lower_tier_schedule i
  -- total given plus LEFT equals both capacities
  pub whole : sum (rows T) firm + sum (rows T) auction + sum (rows T) lower_tier + left ≡ T.free_flow + T.compressor
  -- auction gets gas only when every firm row is full
  pub auction_last : (i : ℕ) → i < rows T → 0 < auction i → (j : ℕ) → j < rows T → firm j ≡ col T.firm_schedule j
  -- lower tier only when every firm and every auction row is full
  pub lower_tier_last : (i : ℕ) → i < rows T → 0 < lower_tier i
      → (j : ℕ) → j < rows T → (firm j ≡ col T.firm_schedule j) × (auction j ≡ col T.auction_schedule j)
  -- if any row of any class is short, LEFT is less than the number of rows
  pub firm_short : (i : ℕ) → i < rows T → firm i < col T.firm_schedule i → left < rows T
  pub auction_short : (i : ℕ) → i < rows T → auction i < col T.auction_schedule i → left < rows T
  pub lower_tier_short : (i : ℕ) → i < rows T → lower_tier i < col T.lower_tier_schedule i → left < rows T
  -- a firm row gets at least the smaller of its schedule and its floor
  pub firm_least : (i : ℕ) → i < rows T → min (col T.firm_schedule i) (firm_floor T i) ≤ firm i

-- the same of what a caller holds: the fronts of the three lent lists afterwards, and LEFT; the totals are theirs, the rest as it was
pub record SharesKept (T : Table) (firm_lent auction_lent lower_tier_lent : List ℕ) (day : Result Shares Refusal)
    (firm_after auction_after lower_tier_after : List ℕ) : Type 0 where
  pub promise :
      Promise T (col (take (rows T) firm_after)) (col (take (rows T) auction_after)) (col (take (rows T) lower_tier_after))
      (shares_verdict day).figures.left.0
  pub firm_total : (shares_verdict day).figures.firm.0 ≡ sum (rows T) (col (take (rows T) firm_after))
  pub auction_total : (shares_verdict day).figures.auction.0 ≡ sum (rows T) (col (take (rows T) auction_after))
  pub lower_tier_total : (shares_verdict day).figures.lower_tier.0 ≡ sum (rows T) (col (take (rows T) lower_tier_after))
  pub firm_rest : drop (rows T) firm_after ≡ drop (rows T) firm_lent
  pub auction_rest : drop (rows T) auction_after ≡ drop (rows T) auction_lent
  pub lower_tier_rest : drop (rows T) lower_tier_after ≡ drop (rows T) lower_tier_lent
