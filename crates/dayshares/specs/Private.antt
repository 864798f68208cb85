-- What the private routines of this crate ask, and what they do.
use Rattle.std.specs.Prelude.{◌≡◌, Bool, List, ℕ, ◌≤◌, ◌<◌, length}
use Rattle.std.proofs.lemmas.List.Edits.{sets}
use Rattle.columns.specs.Column.{col, listed}
use Rattle.columns.specs.Sum.{sum}
use Rattle.sharing.specs.Round.{level, shares}
use Rattle.sharing.specs.Chain.{unmet, after}
use Rattle.units.specs.Bound.{most_capacity, most_gigajoules}
use Rattle.rounds.specs.declared.Given.{Given}
use Rattle.rounds.specs.Private.{Rows}
use Rattle.rounds.specs.Answer.{round_given}
use Rattle.daytable.specs.Table.{Table, rows}
use Rattle.dayshares.specs.declared.firm.FirmGiven.{FirmGiven}
use Rattle.dayshares.specs.declared.Shares.{Shares}
use Rattle.dayshares.specs.Firm.{Firm, level_one, level_two, level_three, given_firm}
use Rattle.dayshares.specs.Class.{class_level, class_given}
use Rattle.dayshares.specs.Given.{firm_given, auction_given, lower_tier_given}
use Rattle.dayshares.specs.Answer.{day_shares}

-- a round was held, with its shares at the front of a lent list
pub record Held (c : ℕ) (ws qs lent : List ℕ) (g : Given) (lent' : List ℕ) : Type 0 where
  pub gives : g ≡ round_given c ws qs
  pub leaves : lent' ≡ sets lent 0 (listed (length ws) (shares (length ws) (col ws) (col qs) c))

-- a further round can be held: no row has more than its schedule
pub record NextReady (c : ℕ) (ws qs had : List ℕ) : Type 0 where
  pub rows : Rows ws qs
  pub capacity : c ≤ most_capacity
  pub fits : length ws ≤ length had
  pub within : (i : ℕ) → i < length ws → col had i ≤ col qs i

-- it was held, and its shares added to what the rows had
pub record NextHeld (c : ℕ) (ws qs had : List ℕ) (g : Given) (has : List ℕ) : Type 0 where
  pub level : g.level ≡ level (length ws) (col ws) (unmet (col qs) (col had)) c
  pub total : g.total.0 ≡ sum (length ws) (shares (length ws) (col ws) (unmet (col qs) (col had)) c)
  pub leaves : has ≡ sets had 0 (listed (length ws) (after (length ws) (col ws) (col qs) c (col had)))

-- the firm rounds can be held
pub record FirmReady (free_flow compressor : ℕ) (ms qs lent : List ℕ) : Type 0 where
  pub free_flow_small : free_flow ≤ most_gigajoules
  pub compressor_small : compressor ≤ most_gigajoules
  pub rows : Rows ms qs
  pub fits : length ms ≤ length lent

-- no Free Flow MDQ above its firm MDQ
pub record Split (fs ms : List ℕ) : Type 0 where
  pub same : length fs ≡ length ms
  pub part : (i : ℕ) → i < length ms → col fs i ≤ col ms i

-- they were held
pub record FirmHeld (F : Firm) (lent : List ℕ) (g : FirmGiven) (lent' : List ℕ) : Type 0 where
  pub one : g.one ≡ level_one F
  pub two : g.two ≡ level_two F
  pub three : g.three ≡ level_three F
  pub total : g.total ≡ sum F.rows (given_firm F)
  pub leaves : lent' ≡ sets lent 0 (listed F.rows (given_firm F))

-- a class that follows was offered a capacity, held or not
pub record Offered (held : Bool) (c : ℕ) (ws qs lent : List ℕ) (g : Given) (lent' : List ℕ) : Type 0 where
  pub level : g.level ≡ class_level held (length ws) (col ws) (col qs) c
  pub total : g.total.0 ≡ sum (length ws) (class_given held (length ws) (col ws) (col qs) c)
  pub leaves : lent' ≡ sets lent 0 (listed (length ws) (class_given held (length ws) (col ws) (col qs) c))

-- a day can be shared
pub record DayReady (T : Table) (firm_room auction_room lower_tier_room : ℕ) : Type 0 where
  pub free_flow_small : T.free_flow ≤ most_gigajoules
  pub compressor_small : T.compressor ≤ most_gigajoules
  pub firm : Rows T.firm_mdq T.firm_schedule
  pub auction : Rows T.auction_mdq T.auction_schedule
  pub lower_tier : Rows T.lower_tier_schedule T.lower_tier_schedule
  pub auction_same : length T.auction_mdq ≡ rows T
  pub lower_tier_same : length T.lower_tier_schedule ≡ rows T
  pub firm_fits : rows T ≤ firm_room
  pub auction_fits : rows T ≤ auction_room
  pub lower_tier_fits : rows T ≤ lower_tier_room

-- it was shared
pub record DayShared (T : Table) (firm_lent auction_lent lower_tier_lent : List ℕ) (s : Shares)
    (firm_after auction_after lower_tier_after : List ℕ) : Type 0 where
  pub gives : s ≡ day_shares T
  pub leaves_firm : firm_after ≡ sets firm_lent 0 (listed (rows T) (firm_given T))
  pub leaves_auction : auction_after ≡ sets auction_lent 0 (listed (rows T) (auction_given T))
  pub leaves_lower_tier : lower_tier_after ≡ sets lower_tier_lent 0 (listed (rows T) (lower_tier_given T))
