-- 01, "System use gas"; cl. 4.5: the same rule with nobody excepted and FSSUG zero.
use Rattle.std.specs.Prelude.{List, ℕ, Result}
use Rattle.usegas.specs.Share.{none}
use Rattle.usegas.specs.General.{GasAnswered}
use Rattle.units.specs.declared.Megajoules.{Megajoules}
use Rattle.units.specs.declared.refusal.Refusal.{Refusal}

-- the statement of `share_heater`
abbrev pub HeaterAnswered : ℕ → List ℕ → List ℕ → Result Megajoules Refusal → List ℕ → Type 0
HeaterAnswered sug schedules lent gas after = GasAnswered sug 0 none schedules lent gas after
