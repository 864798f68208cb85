-- The tests decide an answer of `share_round`: number 0 exactly where they accept, zeros where they refuse; a refused row is one of 64.
use Rattle.std.specs.Prelude.{Result}
use mathlib.Core.Path.{refl}
use mathlib.Core.List.{List}
use Prim.Native.Nat.{ℕ}
use lib.ListN.{length}
use Rattle.units.specs.Verdict.{Decided}
use Rattle.units.proofs.Places.{PlacedTo, ◌then_if◌, plainly, two-lists}
use Rattle.units.proofs.Verdicts.{AllNumbered, none, ◌and◌, kept_by, cleared_by, decided}
use Rattle.rounds.specs.Answer.{round_check, round_given, round_answer, round_verdict, RoundAnswered}
use Rattle.rounds.specs.declared.Given.{Given}
use Rattle.units.specs.declared.refusal.Refusal.{Refusal}

pub round_numbered : (c : ℕ) (ws qs : List ℕ) (room : ℕ) → AllNumbered (round_check c ws qs room)
unfolding round_check
round_numbered c ws qs room =
    none
    and kept_by _ 9 tt tt
    and kept_by _ 3 tt tt
    and kept_by _ 3 tt tt
    and cleared_by _ _ 3 tt tt
    and cleared_by _ _ 3 tt tt
    and kept_by _ 7 tt tt

pub round_decided : {c : ℕ} {ws qs lent after : List ℕ} {round : Result Given Refusal} → RoundAnswered c ws qs lent round after
    → Decided (round_check c ws qs (length lent)) (round_given c ws qs) (record { level = 0; total = record { 0 = 0 } })
    (round_verdict round)
round_decided {c} {ws} {qs} {lent} A = decided round_answer round_verdict refl (λ refusal. refl)
    (round_numbered c ws qs (length lent)) A.answers

pub round-placed : (c : ℕ) (ws qs : List ℕ) (room : ℕ) → PlacedTo 63 (round_check c ws qs room)
unfolding round_check
round-placed c ws qs room = (two-lists _ _ ws qs (plainly _ 3 refl)).placed then_if plainly _ 7
