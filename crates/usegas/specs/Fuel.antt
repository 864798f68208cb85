-- 01, "System use gas"; cl. 4.3: positive imbalance fuel.
use Rattle.std.specs.Prelude.{Bool, ℕ, ◌*◌, ◌-◌, ◌/◌, max, leb, ℤ, pos, negsuc, nat_abs, Result, Ok, Err}
use Rattle.units.specs.declared.Gigajoules.{Gigajoules}
use Rattle.units.specs.declared.Megajoules.{Megajoules}
use Rattle.units.specs.Bound.{most_imbalance, most_gigajoules}
use Rattle.units.specs.Refusals.{◌then◌, keep, Check}
use Rattle.units.specs.Verdict.{Verdict, accepting, refusing}
use Rattle.usegas.specs.declared.fuel.Imbalance.{Imbalance}
use Rattle.units.specs.declared.refusal.Refusal.{Refusal}

-- within its bound either way
abbrev pub bounded_size : ℤ → Bool
bounded_size imbalance = leb (nat_abs imbalance) most_imbalance

-- refused: 3 the imbalance at start and at end of day, the MDQ
unfoldable pub fuel_check : Imbalance → Imbalance → Gigajoules → Check
fuel_check start end mdq =
    Ok tt
    then keep (bounded_size start.0) 3
    then keep (bounded_size end.0) 3
    then keep (leb mdq.0 most_gigajoules) 3

-- an imbalance above zero; one below counts as none
abbrev pub positive : ℤ → ℕ
positive (pos n) = n
positive (negsuc n) = 0

-- PI: the greater of the positive accumulated imbalance at start and end of day
abbrev pub greatest : Imbalance → Imbalance → Megajoules
greatest start end = record { 0 = max (positive start.0) (positive end.0) }

-- (PI − 80 × MDQ) / 100 MJ, rounded down, zero where PI is at most 80 × MDQ
abbrev pub fuel : Megajoules → Gigajoules → Megajoules
fuel pi mdq = record { 0 = (pi.0 - 80 * mdq.0) / 100 }

abbrev pub fuel_answer : Check → Megajoules → Result Megajoules Refusal
fuel_answer (Ok _) gas = Ok gas
fuel_answer (Err x) gas = Err x

abbrev pub imbalance_fuel : Imbalance → Imbalance → Gigajoules → Result Megajoules Refusal
imbalance_fuel start end mdq = fuel_answer (fuel_check start end mdq) (fuel (greatest start end) mdq)

-- 01's number, place and figure of each case
abbrev pub fuel_verdict : Result Megajoules Refusal → Verdict Megajoules
fuel_verdict (Ok gas) = accepting gas
fuel_verdict (Err x) = refusing x (record { 0 = 0 })
