-- 01, "Charges": what an overrun, a variation and requests cost.
use Rattle.std.specs.Prelude.{ℕ, ◌-◌, ◌*◌, max, leb, Result, Ok, Err}
use Rattle.units.specs.declared.Gigajoules.{Gigajoules}
use Rattle.units.specs.declared.Megajoules.{Megajoules}
use Rattle.units.specs.declared.Cents.{Cents}
use Rattle.units.specs.declared.Rate.{Rate}
use Rattle.units.specs.Bound.{most_gigajoules, most_chargeable, most_requests, most_rate}
use Rattle.units.specs.Refusals.{◌then◌, keep, Check}
use Rattle.units.specs.Verdict.{Verdict, accepting, refusing}
use Rattle.tariff.specs.declared.charges.Change.{Change}
use Rattle.tariff.specs.HalfUp.{half_up}
use Rattle.units.specs.declared.refusal.Refusal.{Refusal}

-- the answer, from what the tests find and the cents where they accept
abbrev pub charge_answer : Check → Cents → Result Cents Refusal
charge_answer (Ok _) due = Ok due
charge_answer (Err x) due = Err x

-- 01's number, place and cents of each case
abbrev pub charge_verdict : Result Cents Refusal → Verdict Cents
charge_verdict (Ok due) = accepting due
charge_verdict (Err x) = refusing x (record { 0 = 0 })

-- cl. 7.2: rate × MJ / 1,000,000
abbrev pub overrun_cents : Rate → Megajoules → Cents
overrun_cents rate overrun = record { 0 = half_up (rate.0 * overrun.0) 1_000_000 }

unfoldable pub overrun_check : Rate → Megajoules → Check
overrun_check rate overrun =
    Ok tt
    then keep (leb rate.0 most_rate) 3
    then keep (leb overrun.0 most_chargeable) 3

abbrev pub overrun_charge : Rate → Megajoules → Result Cents Refusal
overrun_charge rate overrun = charge_answer (overrun_check rate overrun) (overrun_cents rate overrun)

-- cl. 9.3(b): the GJ by which a schedule is varied up; a downward change counts zero
abbrev pub upward : Change → Gigajoules
upward change = record { 0 = change.new.0 - change.old.0 }

abbrev pub larger : Gigajoules → Gigajoules → Gigajoules
larger a b = record { 0 = max a.0 b.0 }

-- cl. 9.3: rate × GJ / 1,000, GJ being the larger of the two upward changes
abbrev pub variation_cents : Rate → Change → Change → Cents
variation_cents rate receipt delivery = record { 0 = half_up (rate.0 * (larger (upward receipt) (upward delivery)).0) 1_000 }

-- the most that they can be
abbrev pub most_variation : ℕ
most_variation = 100_000_000_000

unfoldable pub variation_check : Rate → Change → Change → Check
variation_check rate receipt delivery =
    Ok tt
    then keep (leb rate.0 most_rate) 3
    then keep (leb receipt.old.0 most_gigajoules) 3
    then keep (leb receipt.new.0 most_gigajoules) 3
    then keep (leb delivery.old.0 most_gigajoules) 3
    then keep (leb delivery.new.0 most_gigajoules) 3

abbrev pub variation_charge : Rate → Change → Change → Result Cents Refusal
variation_charge rate receipt delivery = charge_answer (variation_check rate receipt delivery) (variation_cents rate receipt delivery)

-- cl. 9.5: rate / 1,000, rounded, then times the number of requests
abbrev pub request_cents : Rate → ℕ → Cents
request_cents rate requests = record { 0 = half_up rate.0 1_000 * requests }

-- the most that they can be
abbrev pub most_request : ℕ
most_request = 100_000_000

unfoldable pub request_check : Rate → ℕ → Check
request_check rate requests =
    Ok tt
    then keep (leb rate.0 most_rate) 3
    then keep (leb requests most_requests) 3

abbrev pub request_charge : Rate → ℕ → Result Cents Refusal
request_charge rate requests = charge_answer (request_check rate requests) (request_cents rate requests)
