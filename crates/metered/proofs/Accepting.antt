-- What acceptance says of hours and of backhaul.
use Rattle.std.specs.Prelude.{Ok}
use mathlib.Core.Path.{◌≡◌, ap, ◌∙◌}
use mathlib.Core.List.{List, ◌++◌}
use Prim.Native.Nat.{ℕ, ◌+◌, ◌-◌, ◌≤◌, ◌<◌}
use native.Mathlib.Decide.{dec_lt}
use native.Mathlib.Omega.{arith}
use borrow.Author.Tests.{leb-true}
use lib.ListN.{length, get_or-eq_default, get_or-append}
use lib.Seq.{get_or-append-add}
use Rattle.columns.specs.Column.{col}
use Rattle.units.specs.declared.Megajoules.{Megajoules}
use Rattle.units.specs.Bound.{most_hour, most_backhaul}
use Rattle.units.specs.Refusals.{within}
use Rattle.units.proofs.Checks.{both-accepted, kept, all-within}
use Rattle.metered.specs.declared.Side.{Side}
use Rattle.metered.specs.Hours.{delivered, received, hours_check}
use Rattle.metered.specs.Private.{Within, RowsWithin, BackhaulWithin}
use Rattle.metered.specs.Singles.{side_check, sides_check}

-- past the last hour of a list a column has zeros
pub every-hour : (hours : List ℕ) → ((hour : ℕ) → hour < length hours → col hours hour ≤ most_hour) → Within hours
every-hour hours low hour = go (dec_lt hour (length hours))
  where
    go : Dec (hour < length hours) → col hours hour ≤ most_hour
    go (yes l) = low hour l
    go (no past) = omega (arith, get_or-eq_default hours 0 {n = hour} (omega arith))

pub both-within : (xs ys : List ℕ) → Within xs → Within ys → Within (xs ++ ys)
both-within xs ys a b hour = go (dec_lt hour (length xs))
  where
    go : Dec (hour < length xs) → col (xs ++ ys) hour ≤ most_hour
    go (yes l) = omega (arith, a hour, get_or-append xs ys 0 hour l)
    go (no past) =
        let e : hour ≡ length xs + (hour - length xs) = omega arith in
        omega (arith, b (hour - length xs), ap (col (xs ++ ys)) e ∙ get_or-append-add xs ys (hour - length xs) 0)

pub hours-within : (hours : List ℕ) → within most_hour hours ≡ Ok tt → Within hours
hours-within hours e = every-hour hours (all-within most_hour hours e)

pub rows-within : (hours : List (List Megajoules)) → hours_check hours ≡ Ok tt → RowsWithin hours
unfolding hours_check
rows-within hours e =
    let both = both-accepted _ _ e in
    (hours-within (delivered hours) (both-accepted _ _ both.0).1, hours-within (received hours) both.1)

side-within : (side : Side) → side_check side ≡ Ok tt → side.metered.0 ≤ most_backhaul
unfolding side_check
side-within side e = leb-true _ _ (kept _ _ (both-accepted _ _ e).1)

pub backhaul-within : (receipt delivery : Side) → sides_check receipt delivery ≡ Ok tt → BackhaulWithin receipt delivery
unfolding sides_check
backhaul-within receipt delivery e =
    let both = both-accepted _ _ e in (side-within receipt both.0, side-within delivery both.1)
