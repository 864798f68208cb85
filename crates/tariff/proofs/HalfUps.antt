-- Half up is the nearest whole number and of two as near the upper one, and no other number is.
use mathlib.Core.Path.{◌≡◌, sym, ap}
use mathlib.Core.Logic.{⊎_elim}
use Prim.Native.Nat.{ℕ, ◌+◌, ◌-◌, ◌*◌, ◌/◌, ◌%◌, ◌≤◌, ◌<◌}
use native.Mathlib.Nat.{eq-or-lt_of_le, le_antisymm, le_of_eq, le_of_lt, mul-le-mul_left, mul-le-mul_right}
use native.Mathlib.Nat.{div-zero, div-mul-le_self, lt-div-mul-add, div-add-mod', mod-lt}
use native.Mathlib.Decide.{dec_le}
use native.Mathlib.Omega.{arith, by_contra}
use Rattle.tariff.specs.HalfUp.{half_up, distance, Nearest}

module _ (numerator denominator : ℕ) where
  abbrev away : ℕ → ℕ
  away whole = distance numerator denominator whole

  -- the quotient is at least whole - 1/2 and below whole + 1/2
  record Close (whole : ℕ) : Type 0 where
    low : 2 * (whole * denominator) ≤ 2 * numerator + denominator
    high : 2 * numerator < 2 * (whole * denominator) + denominator

  module _ (whole : ℕ) (C : Close whole) where
    above : (other : ℕ) → whole < other → away whole < away other
    above other l = omega (arith, mul-le-mul_right denominator l)

    below : (other : ℕ) → other ≤ whole → away whole ≤ away other
    below other h =
        ⊎_elim (λ e. le_of_eq (ap away (sym e))) (λ l. omega (arith, mul-le-mul_right denominator l)) (eq-or-lt_of_le h)

    no_nearer : (other : ℕ) → Dec (other ≤ whole) → away whole ≤ away other
    no_nearer other (yes h) = below other h
    no_nearer other (no h) = le_of_lt (above other (omega arith))

    close_nearest : Nearest numerator denominator whole
    close_nearest =
        record {
          nearest = λ other. no_nearer other (dec_le other whole);
          upper = λ other e. by_contra other whole (λ l. omega (arith, above other l));
        }

  pub nearest_unique : (one two : ℕ) → Nearest numerator denominator one → Nearest numerator denominator two → one ≡ two
  nearest_unique one two a b =
      let same : away one ≡ away two = le_antisymm (a.nearest two) (b.nearest one) in
      le_antisymm (b.upper one same) (a.upper two (sym same))

  pub by_zero : denominator ≡ 0 → 0 ≡ half_up numerator denominator
  unfolding half_up
  by_zero e = rw (e, div-zero)

  module _ (h : 0 < denominator) where
    half_up_close : Close (half_up numerator denominator)
    unfolding half_up
    half_up_close =
        let sum = numerator + denominator / 2 in
        let a = div-mul-le_self sum denominator in
        let b : sum < sum / denominator * denominator + denominator = lt-div-mul-add h in
        record { low = omega arith; high = omega arith }

    pub half_up-nearest : Nearest numerator denominator (half_up numerator denominator)
    half_up-nearest = close_nearest (half_up numerator denominator) half_up_close

    close_half_up : (whole : ℕ) → Close whole → whole ≡ half_up numerator denominator
    close_half_up whole c = nearest_unique whole (half_up numerator denominator) (close_nearest whole c) half_up-nearest

    -- the whole quotient, or one more, by what is left over
    pub rounds_down : numerator % denominator < denominator - numerator % denominator
        → numerator / denominator ≡ half_up numerator denominator
    rounds_down l =
        let e = div-add-mod' numerator denominator in
        close_half_up (numerator / denominator) (record { low = omega arith; high = omega arith })

    module _ (u : denominator - numerator % denominator ≤ numerator % denominator) where
      pub rounds_up : numerator / denominator + 1 ≡ half_up numerator denominator
      rounds_up =
          let e = div-add-mod' numerator denominator in
          let m : numerator % denominator < denominator = mod-lt numerator h in
          close_half_up (numerator / denominator + 1) (record { low = omega arith; high = omega arith })

      pub up_fits : numerator / denominator + 1 ≤ numerator
      up_fits =
          let e = div-add-mod' numerator denominator in
          let m : numerator % denominator < denominator = mod-lt numerator h in
          omega (arith, mul-le-mul_left (numerator / denominator) h)
