-- The periods' excesses are added up, one period after another, and the gas of each is kept for the next.
use mathlib.Core.Path.{◌≡◌, sym, ◌∙◌}
use Prim.Native.Nat.{ℕ, ◌+◌, ◌-◌, ◌^◌, ◌≤◌, ◌<◌}
use native.Mathlib.Nat.{zero-add}
use native.Mathlib.Omega.{arith}
use Rattle.columns.proofs.Sums.{Adding, adding_none, adding_next, adding_all}
use Rattle.excesses.specs.TwelveHourly.{period_gas, period_limit, twelve_hourly}
use Rattle.excesses.proofs.Excesses.{Low, adding_fits}
use Rattle.excesses.proofs.Periods.{following, period_most}

module _ (p m : ℕ) (hours : ℕ → ℕ) where
  -- of the periods that end before hour h: the gas of the last, and the excesses of all
  pub record Added (h sum total : ℕ) : Type 0 where
    pub later : 2 ≤ h
    pub last : sum ≡ period_gas hours (h - 1)
    pub all : Adding 24 (following p m hours) (h - 1) total

  module _ (h : ℕ) {gas limit over : ℕ} (g : gas ≡ period_gas hours h) (l : limit ≡ period_limit p m h) (o : over ≡ gas - limit) where
    with_excess : {total : ℕ} → 1 ≤ h → h ≤ 24 → Adding 24 (following p m hours) (h - 1) total → Added (h + 1) gas (total + over)
    with_excess from to A =
        let this : h - 1 + 1 ≡ h = omega arith in
        let next : h - 1 + 1 ≡ h + 1 - 1 = omega arith in
        let adds : over ≡ following p m hours (h - 1) = rw this (o ∙ rw (g, l)) in
        record {
          later = omega arith;
          last = rw (sym next, this) g;
          all = rw next at (adding_next 24 (following p m hours) A (omega arith) adds);
        }

    pub next-added : {sum total : ℕ} → Added h sum total → h < 25 → Added (h + 1) gas (total + over)
    next-added A to = with_excess (omega (arith, A.later)) (omega arith) A.all

  pub first-added : {gas limit over : ℕ} → gas ≡ period_gas hours 1 → limit ≡ period_limit p m 1 → over ≡ gas - limit → Added 2 gas over
  first-added g l o = rw zero-add at (with_excess 1 g l o (omega arith) (omega arith) (adding_none 24 (following p m hours)))

  module _ {h sum total : ℕ} (A : Added h sum total) where
    pub periods_fit : Low hours → total < 2 ^ 64
    periods_fit low = adding_fits A.all (omega arith) (λ before l. period_most p m hours low before)

    pub added-all : 25 ≤ h → total ≡ twelve_hourly p m hours
    added-all l = adding_all 24 (following p m hours) A.all (omega arith)
