-- 01, "Charges"; cl. 9.2: a rate carried from an earlier CPI to a new one, both in tenths.
use Rattle.std.specs.Prelude.{ℕ, ◌*◌, leb, ltb, Result, Ok, Err}
use Rattle.units.specs.declared.Rate.{Rate}
use Rattle.units.specs.Bound.{most_rate, most_cpi}
use Rattle.units.specs.Refusals.{◌then◌, keep, Check}
use Rattle.units.specs.Verdict.{Verdict, accepting, refusing}
use Rattle.tariff.specs.HalfUp.{half_up}
use Rattle.units.specs.declared.refusal.Refusal.{Refusal}

-- the answer, from what the tests find and the rate where they accept
abbrev pub escalation_answer : Check → Rate → Result Rate Refusal
escalation_answer (Ok _) new = Ok new
escalation_answer (Err x) new = Err x

-- 01's number, place and rate of each case
abbrev pub escalation_verdict : Result Rate Refusal → Verdict Rate
escalation_verdict (Ok new) = accepting new
escalation_verdict (Err x) = refusing x (record { 0 = 0 })

-- old rate × new CPI / old CPI
abbrev pub escalated_rate : Rate → ℕ → ℕ → Rate
escalated_rate old new_cpi old_cpi = record { 0 = half_up (old.0 * new_cpi) old_cpi }

unfoldable pub escalation_check : Rate → ℕ → ℕ → Check
escalation_check old new_cpi old_cpi =
    Ok tt
    then keep (leb old.0 most_rate) 3
    then keep (leb new_cpi most_cpi) 3
    then keep (leb old_cpi most_cpi) 3
    then keep (ltb 0 old_cpi) 10
    then keep (leb (escalated_rate old new_cpi old_cpi).0 most_rate) 8

abbrev pub escalation : Rate → ℕ → ℕ → Result Rate Refusal
escalation old new_cpi old_cpi = escalation_answer (escalation_check old new_cpi old_cpi) (escalated_rate old new_cpi old_cpi)
