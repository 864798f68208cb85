-- An answer that is one overrun: its figure where the test accepts, or the refusal.
use Rattle.std.specs.Prelude.{Result, Ok, Err}
use Rattle.units.specs.declared.Megajoules.{Megajoules}
use Rattle.units.specs.Verdict.{Verdict, accepting, refusing}
use Rattle.units.specs.Refusals.{Check}
use Rattle.units.specs.declared.refusal.Refusal.{Refusal}

abbrev pub overrun_answer : Check → Megajoules → Result Megajoules Refusal
overrun_answer (Ok _) over = Ok over
overrun_answer (Err x) over = Err x

-- 01's number, place and figure of each case
abbrev pub overrun_verdict : Result Megajoules Refusal → Verdict Megajoules
overrun_verdict (Ok over) = accepting over
overrun_verdict (Err x) = refusing x (record { 0 = 0 })
