-- A day over lists, class after class, is the day over columns.
use mathlib.Core.Path.{◌≡◌, ap, sym, ◌∙◌}
use mathlib.Core.Bool.{Bool, cond, false}
use mathlib.Core.List.{List}
use Prim.Native.Nat.{ℕ, ◌+◌, ◌-◌, ◌≤◌}
use native.Mathlib.Omega.{arith}
use lib.ListN.{length}
use lib.Seq.{sets}
use Rattle.columns.specs.Column.{col, listed}
use Rattle.columns.proofs.Lists.{col-sets, length-sets-listed}
use Rattle.rounds.specs.declared.Given.{Given}
use Rattle.rounds.specs.Private.{Ready}
use Rattle.daytable.specs.Table.{Table, rows}
use Rattle.dayshares.specs.declared.firm.FirmGiven.{FirmGiven}
use Rattle.dayshares.specs.declared.Shares.{Shares}
use Rattle.dayshares.specs.Class.{full}
use Rattle.dayshares.specs.Given.{firm_given, auction_held, auction_offered, auction_level, auction_given, auction_total, lower_tier_held, lower_tier_offered, lower_tier_level, lower_tier_total, left}
use Rattle.dayshares.specs.Firm.{firm}
use Rattle.dayshares.specs.Private.{FirmHeld, Offered, DayReady, DayShared}
use Rattle.dayshares.proofs.Firms.{firm_fits}
use Rattle.dayshares.proofs.Classes.{class_fits, full-same}

-- rows that stand at the front of a lent list are full where their column is
full-front : (n : ℕ) (s : ℕ → ℕ) (qs lent l : List ℕ) → length qs ≡ n → n ≤ length lent → l ≡ sets lent 0 (listed n s)
    → full (length qs) (col qs) (col l) ≡ full n (col qs) s
full-front n s qs lent l long fits e =
    ap (λ m. full m (col qs) (col l)) long
    ∙ full-same n (col qs) (col l) s (λ i h. ap (λ m. col m i) e ∙ col-sets n s lent fits i h)

-- ---- firm is shared
pub record FirmStage : Type 0 where
  pub T : Table
  pub firm_lent : List ℕ
  pub auction_lent : List ℕ
  pub lower_tier_lent : List ℕ
  pub ready : DayReady T (length firm_lent) (length auction_lent) (length lower_tier_lent)
  pub given : FirmGiven
  pub after : List ℕ
  pub held : FirmHeld (firm T) firm_lent given after

module _ (S : FirmStage) where
  open S use {T, given, held}

  pub firm-spent : given.total ≤ T.free_flow + T.compressor
  firm-spent = omega (arith, held.total, firm_fits (firm T))

  offered_is : T.free_flow + T.compressor - given.total ≡ auction_offered T
  offered_is = ap (λ x. T.free_flow + T.compressor - x) held.total

-- ---- auction is offered what firm left
pub record AuctionStage : Type 0 where
  pub firm : FirmStage
  pub open_to : Bool
  pub firm_full : open_to ≡ full (length firm.T.firm_schedule) (col firm.T.firm_schedule) (col firm.after)
  pub given : Given
  pub after : List ℕ
  pub offered :
      Offered open_to (firm.T.free_flow + firm.T.compressor - firm.given.total) firm.T.auction_mdq firm.T.auction_schedule
      firm.auction_lent given after

module _ (S : AuctionStage) where
  open S use {open_to, firm_full, given, after, offered}
  open S.firm use {T, firm_lent, auction_lent, lower_tier_lent, ready}

  auction_held_is : open_to ≡ auction_held T
  auction_held_is =
      firm_full
      ∙ full-front (rows T) (firm_given T) T.firm_schedule firm_lent S.firm.after (sym ready.firm.same) ready.firm_fits
      S.firm.held.leaves

  offered_auction : Offered (auction_held T) (auction_offered T) T.auction_mdq T.auction_schedule auction_lent given after
  offered_auction = rw (auction_held_is, offered_is S.firm) at offered

  auction_total_is : given.total.0 ≡ auction_total T
  auction_total_is = offered_auction.total ∙ rw ready.auction_same

  auction_level_is : given.level ≡ auction_level T
  auction_level_is = offered_auction.level ∙ rw ready.auction_same

  auction-front : after ≡ sets auction_lent 0 (listed (rows T) (auction_given T))
  auction-front = offered_auction.leaves ∙ rw ready.auction_same

  pub auction-spent : given.total.0 ≤ T.free_flow + T.compressor - S.firm.given.total
  auction-spent =
      omega (
        arith,
        auction_total_is,
        offered_is S.firm,
        class_fits (rows T) (col T.auction_mdq) (col T.auction_schedule) (auction_offered T) (auction_held T),
      )

  pub auction_room : length T.auction_schedule ≤ length after
  auction_room =
      omega (
        arith,
        ap length auction-front,
        length-sets-listed (rows T) (auction_given T) auction_lent,
        ready.auction_fits,
        ready.auction.same,
        ready.auction_same,
      )

  rest_is : T.free_flow + T.compressor - S.firm.given.total - given.total.0 ≡ lower_tier_offered T
  rest_is = rw (offered_is S.firm, auction_total_is)

  pub lower_tier-ready :
      Ready (T.free_flow + T.compressor - S.firm.given.total - given.total.0) T.lower_tier_schedule T.lower_tier_schedule
      (length lower_tier_lent)
  lower_tier-ready =
      record {
        rows = ready.lower_tier;
        capacity = omega (arith, ready.free_flow_small, ready.compressor_small);
        fits = omega (arith, ready.lower_tier_same, ready.lower_tier_fits);
      }

-- ---- lower tier is offered the rest
pub record LowerTierStage : Type 0 where
  pub auction : AuctionStage
  pub full_too : Bool
  pub auction_full :
      full_too
      ≡ full (length auction.firm.T.auction_schedule) (col auction.firm.T.auction_schedule) (col auction.after)
  pub open_to : Bool
  pub both_full : open_to ≡ cond auction.open_to full_too false
  pub given : Given
  pub after : List ℕ
  pub offered :
      Offered open_to
      (auction.firm.T.free_flow + auction.firm.T.compressor - auction.firm.given.total - auction.given.total.0)
      auction.firm.T.lower_tier_schedule auction.firm.T.lower_tier_schedule auction.firm.lower_tier_lent given after

module _ (S : LowerTierStage) where
  open S use {full_too, auction_full, open_to, both_full, given, after, offered}
  open S.auction.firm use {T, auction_lent, lower_tier_lent, ready}

  auction-full_is : full_too ≡ full (rows T) (col T.auction_schedule) (auction_given T)
  auction-full_is =
      auction_full
      ∙ full-front (rows T) (auction_given T) T.auction_schedule auction_lent S.auction.after
      (sym ready.auction.same ∙ ready.auction_same) ready.auction_fits (auction-front S.auction)

  lower_tier_held_is : open_to ≡ lower_tier_held T
  lower_tier_held_is = both_full ∙ rw (auction-full_is, auction_held_is S.auction)

  offered_lower_tier :
      Offered (lower_tier_held T) (lower_tier_offered T) T.lower_tier_schedule T.lower_tier_schedule lower_tier_lent given after
  offered_lower_tier = rw (lower_tier_held_is, rest_is S.auction) at offered

  lower_tier_total_is : given.total.0 ≡ lower_tier_total T
  lower_tier_total_is = offered_lower_tier.total ∙ rw ready.lower_tier_same

  lower_tier_level_is : given.level ≡ lower_tier_level T
  lower_tier_level_is = offered_lower_tier.level ∙ rw ready.lower_tier_same

  pub lower_tier-spent :
      given.total.0 ≤ T.free_flow + T.compressor - S.auction.firm.given.total - S.auction.given.total.0
  lower_tier-spent =
      omega (
        arith,
        lower_tier_total_is,
        rest_is S.auction,
        class_fits (rows T) (col T.lower_tier_schedule) (col T.lower_tier_schedule) (lower_tier_offered T) (lower_tier_held T),
      )

  left_is : T.free_flow + T.compressor - S.auction.firm.given.total - S.auction.given.total.0 - given.total.0 ≡ left T
  left_is = omega (arith, S.auction.firm.held.total, auction_total_is S.auction, lower_tier_total_is)

  -- the levels, the totals and LEFT, as the code puts them together
  abbrev pub put_together : Shares
  put_together =
      let f = S.auction.firm.given in
      let a = S.auction.given in
      record {
        levels = record { one = f.one; two = f.two; three = f.three; auction = a.level; lower_tier = given.level };
        firm = record { 0 = f.total };
        auction = record { 0 = a.total.0 };
        lower_tier = record { 0 = given.total.0 };
        left = record { 0 = T.free_flow + T.compressor - f.total - a.total.0 - given.total.0 };
      }

  pub day-shared :
      DayShared T S.auction.firm.firm_lent auction_lent lower_tier_lent
      put_together S.auction.firm.after S.auction.after after
  day-shared =
      let held = S.auction.firm.held in
      record {
        gives =
            rw (
              left_is,
              held.one,
              held.two,
              held.three,
              held.total,
              auction_level_is S.auction,
              auction_total_is S.auction,
              lower_tier_level_is,
              lower_tier_total_is,
            );
        leaves_firm = held.leaves;
        leaves_auction = auction-front S.auction;
        leaves_lower_tier = offered_lower_tier.leaves ∙ rw ready.lower_tier_same;
      }
