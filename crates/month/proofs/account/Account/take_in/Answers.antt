-- An accepted day is stored past the last, where there is room for it; a refused one changes nothing.
use mathlib.Core.Path.{sym, ◌∙◌}
use Prim.Native.Nat.{◌<◌}
use native.Mathlib.Omega.{arith}
use Rattle.month.specs.Days.{most_days}
use Rattle.month.proofs.Accepting.{next-kept}
use Rattle.month.proofs.Taking.{day-left, day-taken}
use Rattle.month.proofs.account.Account.take_in.Goals as goal

pub offset_bounds-self-count : goal.offset_bounds-self-count
offset_bounds-self-count c =
    let few : c.args.self.count < most_days = (next-kept _ _ _ (sym c.examine_next-found.ensures ∙ c.in-Ok.is)).few in
    omega (arith, few)

pub bounds-self-count : goal.bounds-self-count
bounds-self-count c =
    let few : c.args.self.count < most_days = (next-kept _ _ _ (sym c.examine_next-found.ensures ∙ c.in-Ok.is)).few in
    few

pub overflow_add-self : goal.overflow_add-self
overflow_add-self c =
    let few : c.args.self.count < most_days = (next-kept _ _ _ (sym c.examine_next-found.ensures ∙ c.in-Ok.is)).few in
    omega (arith, few)

pub returns-in-Err : goal.returns-in-Err
returns-in-Err c = day-left _ _ c.examine_next-found.ensures c.in-Err.is

pub returns-in-Ok : goal.returns-in-Ok
returns-in-Ok c = day-taken c.args.self _ c.examine_next-found.ensures c.in-Ok.is
