-- Rows tested one after another: the first that is refused refuses the whole.
use Rattle.std.specs.Prelude.{ℕ, zero, suc, Ok}
use Rattle.units.specs.Refusals.{◌then◌, Check}

-- the tests of n rows
unfoldable pub each : ℕ → (ℕ → Check) → Check
each zero test = Ok tt
each (suc n) test = each n test then test n
