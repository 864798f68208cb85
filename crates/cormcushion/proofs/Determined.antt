-- Two numbers that meet a function's statement are equal, and so are the lent lists afterwards: the routine's own are.
use Rattle.std.specs.Prelude.{Result}
use mathlib.Core.Path.{◌≡◌, sym, ap, ◌∙◌}
use mathlib.Core.List.{List}
use Prim.Native.Nat.{ℕ}
use Rattle.units.specs.Refusals.{Check}
use Rattle.units.proofs.Determined.{determined}
use Rattle.rounds.proofs.Determined.{round_determined}
use Rattle.lines.proofs.Determined.{listed_determined}
use Rattle.metered.specs.Hours.{bare_hours}
use Rattle.readings.specs.declared.hour.HourReading.{HourReading}
use Rattle.readings.specs.Day.{bare_volumes}
use Rattle.daytable.specs.Table.{Table}
use Rattle.dayshares.proofs.Determined.{day_determined}
use Rattle.dayfile.proofs.Determined.{reading_determined}
use Rattle.cormcushion.specs.Answers.{of_listing, of_reading, of_round, of_shares, with_day, with_levels}
use Rattle.cormcushion.specs.Lent.{ListingPacked, ReadingPacked, RoundPacked, SharesPacked}
use Rattle.cormcushion.specs.Meter.{PricePacked}
use Rattle.cormcushion.specs.DayGas.{of_metered, with_gas, DayGasPacked}
use Rattle.overruns.specs.declared.day.Overruns.{Overruns}
use Rattle.units.specs.declared.refusal.Refusal.{Refusal}

-- what is computed from equal answers is equal
same : {X Y : Type 0} {x y : X} {a b : Y} (f : X → Y) → a ≡ f x → b ≡ f y → x ≡ y → a ≡ b
same f e h is = e ∙ ap f is ∙ sym h

pub packed-listing_determined : {tests : Check} {text lent l₁ l₂ : List ℕ} {p₁ p₂ : ℕ}
    → ListingPacked tests text lent l₁ p₁ → ListingPacked tests text lent l₂ p₂ → (p₁ ≡ p₂) × (l₁ ≡ l₂)
packed-listing_determined a b =
    let is = listed_determined a.answers b.answers in
    (same of_listing a.packs b.packs is.0, is.1)

pub packed-reading_determined : {file day lent d₁ d₂ l₁ l₂ : List ℕ} {p₁ p₂ : ℕ}
    → ReadingPacked file day lent p₁ d₁ l₁ → ReadingPacked file day lent p₂ d₂ l₂ → (p₁ ≡ p₂) × (d₁ ≡ d₂) × (l₁ ≡ l₂)
packed-reading_determined {day = day} a b =
    let is = reading_determined a.answers b.answers in (
      same of_reading a.packs b.packs is.0,
      same (λ reading. with_day reading day) a.leaves_day b.leaves_day is.0,
      is.1,
    )

pub packed-round_determined : {c : ℕ} {ws qs lent l₁ l₂ : List ℕ} {p₁ p₂ : ℕ}
    → RoundPacked c ws qs lent p₁ l₁ → RoundPacked c ws qs lent p₂ l₂ → (p₁ ≡ p₂) × (l₁ ≡ l₂)
packed-round_determined a b =
    let is = round_determined a.answers b.answers in
    (same of_round a.packs b.packs is.0, is.1)

pub packed-shares_determined : {T : Table} {firm auction lower_tier levels f₁ f₂ a₁ a₂ l₁ l₂ v₁ v₂ : List ℕ} {p₁ p₂ : ℕ}
    → SharesPacked T firm auction lower_tier levels p₁ f₁ a₁ l₁ v₁ → SharesPacked T firm auction lower_tier levels p₂ f₂ a₂ l₂ v₂
    → (p₁ ≡ p₂) × (f₁ ≡ f₂) × (a₁ ≡ a₂) × (l₁ ≡ l₂) × (v₁ ≡ v₂)
packed-shares_determined {levels = levels} a b =
    let is = day_determined a.answers b.answers in (
      same of_shares a.packs b.packs is.0,
      is.1,
      is.2,
      is.3,
      same (λ day. with_levels day levels) a.leaves_levels b.leaves_levels is.0,
    )

pub charge_determined : {rate : ℕ} {over : Result Overruns Refusal} {lent l₁ l₂ : List ℕ} {p₁ p₂ : ℕ}
    → PricePacked rate over lent p₁ l₁ → PricePacked rate over lent p₂ l₂ → (p₁ ≡ p₂) × (l₁ ≡ l₂)
charge_determined a b = (determined a.answers b.answers, determined a.leaves b.leaves)

pub gas_determined : {readings : List HourReading} {energies volumes e₁ e₂ v₁ v₂ : List ℕ} {volume p₁ p₂ s₁ s₂ : ℕ}
    → DayGasPacked readings energies volumes volume p₁ e₁ v₁ s₁ → DayGasPacked readings energies volumes volume p₂ e₂ v₂ s₂
    → (p₁ ≡ p₂) × (e₁ ≡ e₂) × (v₁ ≡ v₂) × (s₁ ≡ s₂)
gas_determined {energies = energies} {volumes} {volume = volume} a b =
    let is = determined a.answers b.answers in (
      same of_metered a.packs b.packs is,
      same (λ day. with_gas (λ gas. bare_hours gas.energies) day energies) a.leaves_energies b.leaves_energies is,
      same (λ day. with_gas (λ gas. bare_volumes gas.volumes) day volumes) a.leaves_volumes b.leaves_volumes is,
      same (λ day. with_gas (λ gas. gas.volume.0) day volume) a.leaves_volume b.leaves_volume is,
    )
