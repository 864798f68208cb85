-- Class after class, the lists hold what the columns say.
use mathlib.Core.Path.{◌≡◌}
use mathlib.Core.Bool.{Bool, cond, false}
use mathlib.Core.List.{List}
use Prim.Native.Nat.{ℕ, ◌+◌, ◌-◌}
use lib.ListN.{length}
use Rattle.std.proofs.Common.{rules}
use Rattle.columns.specs.Column.{col}
use Rattle.rounds.specs.declared.Given.{Given}
use Rattle.daytable.specs.Table.{Table}
use Rattle.dayshares.specs.declared.firm.FirmGiven.{FirmGiven}
use Rattle.dayshares.specs.Class.{full}
use Rattle.dayshares.specs.Firm.{firm}
use Rattle.dayshares.specs.Private.{FirmHeld, Offered, DayReady}
use Rattle.dayshares.proofs.Days.{FirmStage, firm-spent, AuctionStage, auction-spent, auction_room, lower_tier-ready, LowerTierStage, lower_tier-spent, day-shared}
use Rattle.dayshares.proofs.accepted.share_accepted.Goals as goal

-- the stages: firm is shared, auction is offered what firm left, and lower tier the rest
module _ {T : Table} {firm_lent : List ℕ} (auction_lent lower_tier_lent : List ℕ) {g1 : FirmGiven} {after1 : List ℕ}
    (r : DayReady T (length firm_lent) (length auction_lent) (length lower_tier_lent))
    (h : FirmHeld (firm T) firm_lent g1 after1) where
  abbrev firm-stage : FirmStage
  firm-stage = record {
    T = T;
    firm_lent = firm_lent;
    auction_lent = auction_lent;
    lower_tier_lent = lower_tier_lent;
    ready = r;
    given = g1;
    after = after1;
    held = h;
  }

  module _ {open2 : Bool} {g2 : Given} {after2 : List ℕ}
      (f2 : open2 ≡ full (length T.firm_schedule) (col T.firm_schedule) (col after1))
      (o2 : Offered open2 (T.free_flow + T.compressor - g1.total) T.auction_mdq T.auction_schedule auction_lent g2 after2) where
    abbrev auction-stage : AuctionStage
    auction-stage =
        record { firm = firm-stage; open_to = open2; firm_full = f2; given = g2; after = after2; offered = o2 }

    abbrev lower-tier-stage : {full3 open3 : Bool} {g3 : Given} {after3 : List ℕ}
        → full3 ≡ full (length T.auction_schedule) (col T.auction_schedule) (col after2) → open3 ≡ cond open2 full3 false
        → Offered open3 (T.free_flow + T.compressor - g1.total - g2.total.0) T.lower_tier_schedule T.lower_tier_schedule
        lower_tier_lent g3 after3 → LowerTierStage
    lower-tier-stage f3 b3 o3 =
        record {
          auction = auction-stage;
          full_too = _;
          auction_full = f3;
          open_to = _;
          both_full = b3;
          given = _;
          after = _;
          offered = o3;
        }

pub overflow_sub-offered : goal.overflow_sub-offered
overflow_sub-offered c =
    firm-spent (firm-stage c.args.auction.now c.args.lower_tier.now c.requires c.share_firm-firm_given.ensures)

pub overflow_sub-rest : goal.overflow_sub-rest
overflow_sub-rest c =
    auction-spent
    (auction-stage c.args.auction.now c.args.lower_tier.now c.requires c.share_firm-firm_given.ensures
    c.is_full-auction_held.ensures c.offer-auction_given.ensures)

pub is_full-auction_full-requires : goal.is_full-auction_full-requires
is_full-auction_full-requires c =
    auction_room
    (auction-stage c.args.auction.now c.args.lower_tier.now c.requires c.share_firm-firm_given.ensures
    c.is_full-auction_held.ensures c.offer-auction_given.ensures)

pub offer-lower_tier_given-requires : goal.offer-lower_tier_given-requires
offer-lower_tier_given-requires c =
    lower_tier-ready
    (auction-stage c.args.auction.now c.args.lower_tier.now c.requires c.share_firm-firm_given.ensures
    c.is_full-auction_held.ensures c.offer-auction_given.ensures)

pub overflow_sub-left : goal.overflow_sub-left
overflow_sub-left c =
    lower_tier-spent
    (lower-tier-stage c.args.auction.now c.args.lower_tier.now c.requires c.share_firm-firm_given.ensures
    c.is_full-auction_held.ensures c.offer-auction_given.ensures
    c.is_full-auction_full.ensures (search rules) c.offer-lower_tier_given.ensures)

pub returns : goal.returns
returns c =
    day-shared
    (lower-tier-stage c.args.auction.now c.args.lower_tier.now c.requires c.share_firm-firm_given.ensures
    c.is_full-auction_held.ensures c.offer-auction_given.ensures
    c.is_full-auction_full.ensures (search rules) c.offer-lower_tier_given.ensures)
