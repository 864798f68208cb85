-- 01, "Refusal numbers": what a field is refused by.
use Rattle.std.specs.Prelude.{ℕ, Result}
use Rattle.dayrows.specs.declared.fault.Fault.{Fault}
use Rattle.dayrows.specs.declared.fault.Fault.TheVariants.{Cut, Foreign, Beyond, Key, Mdq, Other}

-- what the tests of a field find
abbrev pub Found : Type 0
Found = Result (Unit {0}) Fault

abbrev pub number : Fault → ℕ
number Cut = 1
number Foreign = 2
number Beyond = 3
number Mdq = 4
number Key = 5
number (Other told) = told
