-- The tests decide an answer of `share_hour`: number 0 exactly where they accept, zero where they refuse; a refused row is one of 64.
use Rattle.std.specs.Prelude.{Result}
use mathlib.Core.Path.{refl}
use mathlib.Core.List.{List}
use Prim.Native.Nat.{ℕ}
use lib.ListN.{length}
use Rattle.units.specs.Verdict.{Decided}
use Rattle.units.proofs.Places.{PlacedTo, ◌then_if◌, plainly, two-lists}
use Rattle.units.proofs.Verdicts.{AllNumbered, none, ◌and◌, kept_by, cleared_by, decided}
use Rattle.pointshares.specs.Answer.{hour_check, hour_given, hour_answer, hour_verdict, HourAnswered}
use Rattle.units.specs.declared.Megajoules.{Megajoules}
use Rattle.units.specs.declared.refusal.Refusal.{Refusal}

pub hour_numbered : (h : ℕ) (entitlements mdqs : List ℕ) (room : ℕ) → AllNumbered (hour_check h entitlements mdqs room)
unfolding hour_check
hour_numbered h entitlements mdqs room =
    none
    and kept_by _ 9 tt tt
    and kept_by _ 3 tt tt
    and kept_by _ 3 tt tt
    and cleared_by _ _ 3 tt tt
    and cleared_by _ _ 3 tt tt
    and kept_by _ 6 tt tt
    and kept_by _ 7 tt tt

pub hour_decided : {h : ℕ} {entitlements mdqs lent after : List ℕ} {hour : Result Megajoules Refusal}
    → HourAnswered h entitlements mdqs lent hour after
    → Decided (hour_check h entitlements mdqs (length lent)) (hour_given h entitlements mdqs) (record { 0 = 0 }) (hour_verdict hour)
hour_decided {h} {entitlements} {mdqs} {lent} A =
    decided hour_answer hour_verdict refl (λ refusal. refl) (hour_numbered h entitlements mdqs (length lent)) A.answers

pub hour-placed : (h : ℕ) (entitlements mdqs : List ℕ) (room : ℕ) → PlacedTo 63 (hour_check h entitlements mdqs room)
unfolding hour_check
hour-placed h entitlements mdqs room =
    (two-lists _ _ entitlements mdqs (plainly _ 3 refl)).placed then_if plainly _ 6 then_if plainly _ 7
