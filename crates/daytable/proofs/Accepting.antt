-- What acceptance says of a day's table.
use Rattle.std.specs.Prelude.{Ok}
use mathlib.Core.Path.{◌≡◌}
use mathlib.Core.Logic.{⊎_elim}
use mathlib.Core.Bool.{false}
use mathlib.Core.List.{List}
use Prim.Native.Nat.{ℕ, ◌≤◌, ◌<◌}
use native.Mathlib.Nat.{eq-zero-or-pos}
use native.Mathlib.Omega.{arith}
use borrow.Author.Tests.{leb-true, eqb-true, eq-eqb, ltb-false}
use lib.Dec.{ltb}
use lib.ListN.{length}
use Rattle.columns.specs.Column.{col}
use Rattle.columns.proofs.Firsts.{first-passed}
use Rattle.units.specs.Bound.{most_gigajoules, most_rows}
use Rattle.units.proofs.Checks.{both-accepted, kept, cleared, all-within}
use Rattle.daytable.specs.Table.{Table, rows}
use Rattle.daytable.specs.Acceptance.{lengths_check, bounds_check, idle, first_idle, table_check}

-- a row that is not idle and has a need has a weight
not_idle : (mdq schedule : ℕ) → idle mdq schedule ≡ false → 0 < schedule → 0 < mdq
not_idle mdq schedule e l =
    ⊎_elim (λ zero. let h : ltb 0 schedule ≡ false = rw (eq-eqb mdq 0 zero) at e in absurd (omega (arith, ltb-false 0 schedule h)))
    (λ pos. pos) (eq-zero-or-pos mdq)

none-idle : (mdqs schedules : List ℕ) → length mdqs ≤ first_idle mdqs schedules
    → (i : ℕ) → i < length mdqs → 0 < col schedules i → 0 < col mdqs i
none-idle mdqs schedules h i l =
    not_idle (col mdqs i) (col schedules i) (first-passed (λ k. idle (col mdqs k) (col schedules k)) (length mdqs) h i l)

-- the lists are as long as the first
pub record Long (T : Table) : Type 0 where
  pub auction_mdq : rows T ≡ length T.auction_mdq
  pub firm_schedule : rows T ≡ length T.firm_schedule
  pub auction_schedule : rows T ≡ length T.auction_schedule
  pub lower_tier_schedule : rows T ≡ length T.lower_tier_schedule

pub long : (T : Table) → lengths_check T ≡ Ok tt → Long T
unfolding lengths_check
long T e =
    let a = both-accepted _ _ e in
    let b = both-accepted _ _ a.0 in
    let c = both-accepted _ _ b.0 in
    let d = both-accepted _ _ c.0 in
    record {
      auction_mdq = eqb-true _ _ (kept _ _ d.1);
      firm_schedule = eqb-true _ _ (kept _ _ c.1);
      auction_schedule = eqb-true _ _ (kept _ _ b.1);
      lower_tier_schedule = eqb-true _ _ (kept _ _ a.1);
    }

-- every figure is within its bound
pub record Bounded (T : Table) : Type 0 where
  pub free_flow : T.free_flow ≤ most_gigajoules
  pub compressor : T.compressor ≤ most_gigajoules
  pub few : rows T ≤ most_rows
  pub firm_mdq : (i : ℕ) → i < length T.firm_mdq → col T.firm_mdq i ≤ most_gigajoules
  pub auction_mdq : (i : ℕ) → i < length T.auction_mdq → col T.auction_mdq i ≤ most_gigajoules
  pub firm_schedule : (i : ℕ) → i < length T.firm_schedule → col T.firm_schedule i ≤ most_gigajoules
  pub auction_schedule : (i : ℕ) → i < length T.auction_schedule → col T.auction_schedule i ≤ most_gigajoules
  pub lower_tier_schedule : (i : ℕ) → i < length T.lower_tier_schedule → col T.lower_tier_schedule i ≤ most_gigajoules

pub bounded : (T : Table) → bounds_check T ≡ Ok tt → Bounded T
unfolding bounds_check
bounded T e =
    let a = both-accepted _ _ e in
    let b = both-accepted _ _ a.0 in
    let c = both-accepted _ _ b.0 in
    let d = both-accepted _ _ c.0 in
    let f = both-accepted _ _ d.0 in
    let g = both-accepted _ _ f.0 in
    let h = both-accepted _ _ g.0 in
    let k = both-accepted _ _ h.0 in
    record {
      free_flow = leb-true _ _ (kept _ _ k.1);
      compressor = leb-true _ _ (kept _ _ h.1);
      few = leb-true _ _ (kept _ _ g.1);
      firm_mdq = all-within _ T.firm_mdq f.1;
      auction_mdq = all-within _ T.auction_mdq d.1;
      firm_schedule = all-within _ T.firm_schedule c.1;
      auction_schedule = all-within _ T.auction_schedule b.1;
      lower_tier_schedule = all-within _ T.lower_tier_schedule a.1;
    }

-- and no row with a schedule above zero has that MDQ zero
pub record Accepting (T : Table) (firm_room auction_room lower_tier_room : ℕ) : Type 0 where
  pub long : Long T
  pub bounded : Bounded T
  pub firm-served : (i : ℕ) → i < rows T → 0 < col T.firm_schedule i → 0 < col T.firm_mdq i
  pub auction-served : (i : ℕ) → i < rows T → 0 < col T.auction_schedule i → 0 < col T.auction_mdq i
  pub firm_fits : rows T ≤ firm_room
  pub auction_fits : rows T ≤ auction_room
  pub lower_tier_fits : rows T ≤ lower_tier_room

pub accepting : (T : Table) (firm_room auction_room lower_tier_room : ℕ)
    → table_check T firm_room auction_room lower_tier_room ≡ Ok tt → Accepting T firm_room auction_room lower_tier_room
unfolding table_check
accepting T firm_room auction_room lower_tier_room e =
    let lower_tier_lent = both-accepted _ _ e in
    let auction_lent = both-accepted _ _ lower_tier_lent.0 in
    let firm_lent = both-accepted _ _ auction_lent.0 in
    let auction-idle = both-accepted _ _ firm_lent.0 in
    let firm-idle = both-accepted _ _ auction-idle.0 in
    let tested = both-accepted _ _ firm-idle.0 in
    let L = long T tested.0 in
    record {
      long = L;
      bounded = bounded T tested.1;
      firm-served = none-idle T.firm_mdq T.firm_schedule (cleared _ _ _ firm-idle.1);
      auction-served =
          λ i l.
          none-idle T.auction_mdq T.auction_schedule (rw L.auction_mdq at (cleared _ _ _ auction-idle.1)) i
          (omega (arith, L.auction_mdq));
      firm_fits = leb-true _ _ (kept _ _ firm_lent.1);
      auction_fits = leb-true _ _ (kept _ _ auction_lent.1);
      lower_tier_fits = leb-true _ _ (kept _ _ lower_tier_lent.1);
    }
