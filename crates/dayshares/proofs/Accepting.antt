-- An accepted table is ready to be shared.
use mathlib.Core.Path.{refl, sym, ◌∙◌}
use Prim.Native.Nat.{ℕ}
use native.Mathlib.Omega.{arith}
use Rattle.daytable.specs.Table.{Table}
use Rattle.daytable.proofs.Accepting.{Accepting}
use Rattle.dayshares.specs.Private.{DayReady}

pub ready : (T : Table) (firm_room auction_room lower_tier_room : ℕ) → Accepting T firm_room auction_room lower_tier_room
    → DayReady T firm_room auction_room lower_tier_room
ready T firm_room auction_room lower_tier_room A =
    let L = A.long in
    let B = A.bounded in
    record {
      free_flow_small = B.free_flow;
      compressor_small = B.compressor;
      firm =
          record {
            same = L.firm_schedule;
            few = B.few;
            weights = B.firm_mdq;
            needs = λ i l. B.firm_schedule i (omega (arith, L.firm_schedule));
          };
      auction =
          record {
            same = sym L.auction_mdq ∙ L.auction_schedule;
            few = omega (arith, L.auction_mdq, B.few);
            weights = B.auction_mdq;
            needs = λ i l. B.auction_schedule i (omega (arith, L.auction_mdq, L.auction_schedule));
          };
      lower_tier =
          record {
            same = refl;
            few = omega (arith, L.lower_tier_schedule, B.few);
            weights = B.lower_tier_schedule;
            needs = B.lower_tier_schedule;
          };
      auction_same = sym L.auction_mdq;
      lower_tier_same = sym L.lower_tier_schedule;
      firm_fits = A.firm_fits;
      auction_fits = A.auction_fits;
      lower_tier_fits = A.lower_tier_fits;
    }
