-- So many thousandths of an MDQ are so many megajoules for each of its gigajoules.
use mathlib.Core.Path.{◌≡◌, ap}
use Prim.Native.Nat.{ℕ, ◌+◌, ◌-◌, ◌*◌, ◌/◌, ◌^◌, ◌≤◌, ◌<◌}
use native.Mathlib.Nat.{mul-le-mul, mul_assoc, mul-div_cancel}
use native.Mathlib.Omega.{arith}
use borrow.Author.Tests.{le-leb, lt-leb}
use Rattle.units.specs.declared.Gigajoules.{Gigajoules}
use Rattle.units.specs.declared.Megajoules.{Megajoules}
use Rattle.units.specs.Unit.{thousandfold}
use Rattle.excesses.specs.TwelveHourly.{period_limit}

module _ (count : ℕ) (mdq : Gigajoules) {gas : Megajoules} (e : gas ≡ thousandfold mdq) where
  thousandth : gas.0 / 1000 ≡ mdq.0
  thousandth = rw e (mul-div_cancel mdq.0 (omega arith))

  pub thousandths_of : count * (gas.0 / 1000) ≡ count * mdq.0
  thousandths_of = ap (λ x. count * x) thousandth

  pub thousandths_low : count ≤ 1000 → mdq.0 < 2 ^ 32 → count * (gas.0 / 1000) < 2 ^ 63
  thousandths_low few low =
      let most : gas.0 / 1000 ≤ 2 ^ 32 = omega (arith, thousandth) in
      let product : count * (gas.0 / 1000) ≤ 1000 * 2 ^ 32 = mul-le-mul few most in
      omega (arith, product)

-- the limit of the period that ends with hour h
module _ (p m h : ℕ) where
  pub limit-today : {x : ℕ} → 12 ≤ h → x ≡ 564 * m → x ≡ period_limit p m h
  unfolding period_limit
  limit-today l e = rw (le-leb 12 h l) e

  pub limit-over_midnight : {x y : ℕ} → h < 12 → x ≡ 47 * (12 - h) * p → y ≡ 47 * h * m → x + y ≡ period_limit p m h
  unfolding period_limit
  limit-over_midnight l e f = rw (lt-leb 12 h l) (omega (arith, mul_assoc 47 (12 - h) p, mul_assoc 47 h m))
