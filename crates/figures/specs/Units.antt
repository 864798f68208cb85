-- A number of 01 in its unit.
use Rattle.std.specs.Prelude.{ℕ, pos}
use Rattle.units.specs.declared.Gigajoules.{Gigajoules}
use Rattle.units.specs.declared.Megajoules.{Megajoules}
use Rattle.units.specs.declared.Cents.{Cents}
use Rattle.units.specs.declared.Rate.{Rate}
use Rattle.usegas.specs.declared.fuel.Imbalance.{Imbalance}

abbrev pub gigajoules : ℕ → Gigajoules
gigajoules n = record { 0 = n }

abbrev pub megajoules : ℕ → Megajoules
megajoules n = record { 0 = n }

abbrev pub cents : ℕ → Cents
cents n = record { 0 = n }

abbrev pub rate : ℕ → Rate
rate n = record { 0 = n }

-- a positive accumulated imbalance
abbrev pub imbalance : ℕ → Imbalance
imbalance n = record { 0 = pos n }
