-- The tests decide an answer of each routine: number 0 exactly where they accept, zero where they refuse.
use Rattle.std.specs.Prelude.{Result}
use mathlib.Core.Path.{◌≡◌, refl}
use mathlib.Core.List.{List}
use Prim.Native.Nat.{ℕ}
use lib.ListN.{length}
use Rattle.units.specs.declared.Gigajoules.{Gigajoules}
use Rattle.units.specs.Verdict.{Decided}
use Rattle.units.proofs.Verdicts.{AllNumbered, none, ◌and◌, kept_by, cleared_by, decided}
use Rattle.usegas.specs.declared.fuel.Imbalance.{Imbalance}
use Rattle.usegas.specs.Share.{none as nobody}
use Rattle.usegas.specs.General.{general_check, general_given, gas_answer, gas_verdict, GasAnswered}
use Rattle.usegas.specs.Heater.{HeaterAnswered}
use Rattle.usegas.specs.Fuel.{fuel_check, greatest, fuel, fuel_answer, imbalance_fuel, fuel_verdict}
use Rattle.units.specs.declared.Megajoules.{Megajoules}
use Rattle.units.specs.declared.refusal.Refusal.{Refusal}

pub general_numbered : (sug fssug foundation : ℕ) (schedules : List ℕ) (room : ℕ)
    → AllNumbered (general_check sug fssug foundation schedules room)
unfolding general_check
general_numbered sug fssug foundation schedules room =
    none
    and kept_by _ 3 tt tt
    and kept_by _ 3 tt tt
    and kept_by _ 3 tt tt
    and kept_by _ 3 tt tt
    and cleared_by _ _ 3 tt tt
    and kept_by _ 11 tt tt
    and kept_by _ 10 tt tt
    and kept_by _ 7 tt tt

pub general_decided : {sug fssug foundation : ℕ} {schedules lent after : List ℕ} {gas : Result Megajoules Refusal}
    → GasAnswered sug fssug foundation schedules lent gas after
    → Decided (general_check sug fssug foundation schedules (length lent)) (general_given sug fssug foundation schedules)
    (record { 0 = 0 }) (gas_verdict gas)
general_decided {sug} {fssug} {foundation} {schedules} {lent} A =
    decided gas_answer gas_verdict refl (λ refusal. refl) (general_numbered sug fssug foundation schedules (length lent)) A.answers

-- nobody is excepted, and FSSUG is zero
pub heater_decided : {sug : ℕ} {schedules lent after : List ℕ} {gas : Result Megajoules Refusal}
    → HeaterAnswered sug schedules lent gas after
    → Decided (general_check sug 0 nobody schedules (length lent)) (general_given sug 0 nobody schedules) (record { 0 = 0 })
    (gas_verdict gas)
heater_decided A = general_decided A

pub fuel_numbered : (start end : Imbalance) (mdq : Gigajoules) → AllNumbered (fuel_check start end mdq)
unfolding fuel_check
fuel_numbered start end mdq = none and kept_by _ 3 tt tt and kept_by _ 3 tt tt and kept_by _ 3 tt tt

pub fuel_decided : (start end : Imbalance) (mdq : Gigajoules) {answer : Result Megajoules Refusal} → answer ≡ imbalance_fuel start end mdq
    → Decided (fuel_check start end mdq) (fuel (greatest start end) mdq) (record { 0 = 0 }) (fuel_verdict answer)
fuel_decided start end mdq = decided fuel_answer fuel_verdict refl (λ refusal. refl) (fuel_numbered start end mdq)
