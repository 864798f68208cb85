-- What `share_general` answers, and what it leaves in the lent list.
use Rattle.std.specs.Prelude.{◌≡◌, not, List, ℕ, ◌-◌, leb, length, Result, Ok, Err}
use Rattle.std.proofs.lemmas.List.Edits.{sets}
use Rattle.columns.specs.Column.{listed}
use Rattle.columns.specs.Sum.{sum}
use Rattle.units.specs.declared.Megajoules.{Megajoules}
use Rattle.units.specs.Bound.{most_system_use, most_gigajoules, most_rows}
use Rattle.units.specs.Refusals.{◌then◌, keep, within, accepted_or, Check}
use Rattle.units.specs.Verdict.{Verdict, accepting, refusing}
use Rattle.usegas.specs.Share.{beyond, total, unscheduled, gas_shares}
use Rattle.units.specs.declared.refusal.Refusal.{Refusal}

-- refused: 3 SUG, FSSUG, the count, the Foundation Shipper's place, a schedule; 11 FSSUG above SUG; 10 no schedule; 7 the lent list
unfoldable pub general_check : ℕ → ℕ → ℕ → List ℕ → ℕ → Check
general_check sug fssug foundation schedules room =
    Ok tt
    then keep (leb sug most_system_use) 3
    then keep (leb fssug most_system_use) 3
    then keep (leb (length schedules) most_rows) 3
    then keep (not (beyond foundation (length schedules))) 3
    then within most_gigajoules schedules
    then keep (leb fssug sug) 11
    then keep (not (unscheduled (sug - fssug) (total foundation schedules))) 10
    then keep (leb (length schedules) room) 7

-- what the shippers supply together
abbrev pub general_given : ℕ → ℕ → ℕ → List ℕ → Megajoules
general_given sug fssug foundation schedules = record { 0 = sum (length schedules) (gas_shares foundation schedules (sug - fssug)) }

abbrev pub gas_answer : Check → Megajoules → Result Megajoules Refusal
gas_answer (Ok _) g = Ok g
gas_answer (Err x) g = Err x

-- 01's number, place and figure of each case
abbrev pub gas_verdict : Result Megajoules Refusal → Verdict Megajoules
gas_verdict (Ok g) = accepting g
gas_verdict (Err x) = refusing x (record { 0 = 0 })

-- the statement of `share_general`: its answer, and the lent list before and after
pub record GasAnswered (sug fssug foundation : ℕ) (schedules lent : List ℕ) (gas : Result Megajoules Refusal) (after : List ℕ)
    : Type 0 where
  pub answers : gas ≡ gas_answer (general_check sug fssug foundation schedules (length lent)) (general_given sug fssug foundation schedules)
  pub leaves :
      after
      ≡ accepted_or (general_check sug fssug foundation schedules (length lent))
      (sets lent 0 (listed (length schedules) (gas_shares foundation schedules (sug - fssug)))) lent
