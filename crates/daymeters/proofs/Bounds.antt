-- P, M and the schedules of a meter whose numbers are within their bounds are within the bound of gigajoules.
use mathlib.Core.List.{[], ◌∷◌}
use Prim.Native.Nat.{ℕ, ◌≤◌, ◌<◌}
use native.Mathlib.Omega.{arith}
use Rattle.units.specs.Bound.{most_gigajoules}
use Rattle.dayformat.specs.declared.form.Tag.TheVariants.{Meter}
use Rattle.dayformat.specs.declared.layout.Counts.{Counts}
use Rattle.dayformat.specs.Format.{name, gigajoules, hour, backhaul, ◌of◌}
use Rattle.dayformat.proofs.Bodies.{among}
use Rattle.dayvalues.proofs.Bounds.{gigajoules-most}
use Rattle.daymeters.specs.Meter.{meter_at, sides_at}
use Rattle.daymeters.specs.Private.{Bounded}

module _ (counts : Counts) (numbers : ℕ → ℕ) (row : ℕ) (inside : Bounded counts numbers row) (place : ℕ) where
  pub mdq-most : 1 ≤ place → place < 3 → meter_at counts numbers row place ≤ most_gigajoules
  mdq-most h l =
      gigajoules-most counts numbers Meter row place (inside place (omega arith))
      (among (1 of name ∷ []) (2 of gigajoules) (59 of hour ∷ 4 of gigajoules ∷ 2 of backhaul ∷ []) place h l)

  pub schedule-most : sides_at ≤ place → place < 66 → meter_at counts numbers row place ≤ most_gigajoules
  schedule-most h l =
      gigajoules-most counts numbers Meter row place (inside place (omega arith))
      (among (1 of name ∷ 2 of gigajoules ∷ 59 of hour ∷ []) (4 of gigajoules) (2 of backhaul ∷ []) place h l)
