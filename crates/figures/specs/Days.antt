-- 01, "Figures to check against": the days of its figures.
use Rattle.std.specs.Prelude.{[], ◌∷◌, replicate}
use Rattle.daytable.specs.Table.{Table}
use Rattle.overruns.specs.declared.day.ShipperDay.{ShipperDay}
use Rattle.figures.specs.Units.{gigajoules, megajoules}

-- free flow 300, compressor 100; firm MDQ/schedule 400/400 and 200/60
abbrev pub first_day : Table
first_day =
    record {
      free_flow = 300;
      compressor = 100;
      firm_mdq = 400 ∷ 200 ∷ [];
      auction_mdq = 0 ∷ 0 ∷ [];
      firm_schedule = 400 ∷ 60 ∷ [];
      auction_schedule = 0 ∷ 0 ∷ [];
      lower_tier_schedule = 0 ∷ 0 ∷ [];
    }

-- free flow 10, compressor 0, three rows 4/4
abbrev pub second_day : Table
second_day =
    record {
      free_flow = 10;
      compressor = 0;
      firm_mdq = 4 ∷ 4 ∷ 4 ∷ [];
      auction_mdq = 0 ∷ 0 ∷ 0 ∷ [];
      firm_schedule = 4 ∷ 4 ∷ 4 ∷ [];
      auction_schedule = 0 ∷ 0 ∷ 0 ∷ [];
      lower_tier_schedule = 0 ∷ 0 ∷ 0 ∷ [];
    }

-- free flow 300, compressor 100; one firm row 400/100; auction MDQ/schedule 100/200, 300/300
abbrev pub third_day : Table
third_day =
    record {
      free_flow = 300;
      compressor = 100;
      firm_mdq = 400 ∷ 0 ∷ [];
      auction_mdq = 100 ∷ 300 ∷ [];
      firm_schedule = 100 ∷ 0 ∷ [];
      auction_schedule = 200 ∷ 300 ∷ [];
      lower_tier_schedule = 0 ∷ 0 ∷ [];
    }

-- P and M 1000, 48,000 delivered in all 35 hours, nothing received, forward delivery 1,152, no backhaul
abbrev pub steady_day : ShipperDay
steady_day =
    record {
      p = gigajoules 1_000;
      m = gigajoules 1_000;
      yesterday = replicate 11 (megajoules 48_000);
      hours = replicate 24 (megajoules 48_000) ∷ replicate 24 (megajoules 0) ∷ [];
      receipt = record { forward = gigajoules 0; backhaul = gigajoules 0; metered = megajoules 0 };
      delivery = record { forward = gigajoules 1_152; backhaul = gigajoules 0; metered = megajoules 0 };
    }
