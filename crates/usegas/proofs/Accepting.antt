-- What acceptance says of the input.
use Rattle.std.specs.Prelude.{Ok}
use mathlib.Core.Path.{◌≡◌, refl}
use mathlib.Core.List.{List}
use Prim.Native.Nat.{ℕ, ◌≤◌}
use native.Mathlib.Omega.{arith}
use borrow.Author.Tests.{leb-true, not-true}
use Rattle.units.specs.Bound.{most_system_use}
use Rattle.units.proofs.Checks.{both-accepted, kept, all-within}
use Rattle.usegas.specs.Private.{Ready}
use Rattle.usegas.specs.General.{general_check}
use Rattle.usegas.proofs.Scheduling.{some-schedule}

pub accepting : (sug fssug foundation : ℕ) (schedules : List ℕ) (room : ℕ)
    → general_check sug fssug foundation schedules room ≡ Ok tt → Ready sug fssug foundation schedules room
unfolding general_check
accepting sug fssug foundation schedules room e =
    let lent = both-accepted _ _ e in
    let scheduled = both-accepted _ _ lent.0 in
    let net = both-accepted _ _ scheduled.0 in
    let small = both-accepted _ _ net.0 in
    let placed = both-accepted _ _ small.0 in
    let count = both-accepted _ _ placed.0 in
    let supplied = both-accepted _ _ count.0 in
    let gas = both-accepted _ _ supplied.0 in
    let most : sug ≤ most_system_use = leb-true _ _ (kept _ _ gas.1) in
    record {
      net = leb-true _ _ (kept _ _ net.1);
      shareable =
          record {
            rows = record { few = leb-true _ _ (kept _ _ count.1); small = all-within _ schedules small.1 };
            added = refl;
            gas = omega arith;
            scheduled = some-schedule _ _ (not-true _ (kept _ _ scheduled.1));
          };
      fits = leb-true _ _ (kept _ _ lent.1);
    }
