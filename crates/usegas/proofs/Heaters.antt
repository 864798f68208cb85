-- The heater's rule: nobody is excepted, and of the tests only 3, 10 and 7 can refuse.
use Rattle.std.specs.Prelude.{Ok, Err}
use mathlib.Core.Path.{◌≡◌, refl, ap}
use mathlib.Core.Bool.{Bool, true, false, not, ◌&&◌}
use mathlib.Core.List.{List}
use Prim.Native.Nat.{ℕ, ◌≤◌, ◌<◌}
use native.Mathlib.Nat.{sub-zero}
use native.Mathlib.Omega.{arith}
use lib.Dec.{leb, leb-zero}
use lib.ListN.{length}
use Rattle.columns.specs.Column.{col}
use Rattle.units.specs.Bound.{most_system_use, most_gigajoules, most_rows}
use Rattle.units.specs.Refusals.{◌then◌, keep, within, Check, first_refusal}
use Rattle.usegas.specs.Share.{none, beyond, weights, total, unscheduled}
use Rattle.usegas.specs.General.{general_check}
use Rattle.usegas.proofs.Shares.{weight-other}

pub nobody_excepted : (schedules : List ℕ) → length schedules ≤ most_rows
    → (i : ℕ) → i < length schedules → weights none schedules i ≡ col schedules i
nobody_excepted schedules few i l = weight-other none schedules i (λ e. omega arith)

none-placed : (rows : ℕ) → beyond none rows ≡ false
unfolding beyond
none-placed rows = either (leb rows none)
  where
    either : (b : Bool) → b && false ≡ false
    either true = refl
    either false = refl

-- a test that is kept changes nothing
passed : (a : Check) {b : Bool} (number : ℕ) → b ≡ true → (a then keep b number) ≡ a
unfolding first_refusal keep
passed (Ok _) number e = rw e
passed (Err x) number e = refl

pub heater_check : (sug : ℕ) (schedules : List ℕ) (room : ℕ)
    → general_check sug 0 none schedules room
    ≡ (Ok tt
    then keep (leb sug most_system_use) 3
    then keep (leb (length schedules) most_rows) 3
    then within most_gigajoules schedules
    then keep (not (unscheduled sug (total none schedules))) 10
    then keep (leb (length schedules) room) 7)
unfolding general_check
heater_check sug schedules room =
    rw (passed _ 3 (leb-zero most_system_use), passed _ 3 (ap not (none-placed (length schedules))), passed _ 11 (leb-zero sug), sub-zero)
