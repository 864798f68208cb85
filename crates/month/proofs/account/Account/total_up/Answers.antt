use mathlib.Core.Path.{◌≡◌, refl, sym, ap, subst, ◌∙◌}
use Prim.Native.Nat.{◌-◌, ◌≤◌, ◌<◌}
use native.Mathlib.Omega.{arith}
use Rattle.std.specs.Prelude.{Ok}
use Rattle.month.specs.Days.{most_days}
use Rattle.month.specs.Account.{day_at, account_check}
use Rattle.month.specs.Private.{plus, Small}
use Rattle.month.proofs.Accepting.{days-kept}
use Rattle.month.proofs.Totalling.{not_totalled, totalled}
use Rattle.month.proofs.TakingOff.{TakingOff, off_none, off_small, off_next, off_all}
use Rattle.month.proofs.account.Account.total_up.Goals as goal

pub returns-in-Err : goal.returns-in-Err
returns-in-Err c = not_totalled _ c.examine_account.ensures c.in-Err.is

pub loop-last-init : goal.loop-last-init
loop-last-init c = (off_none _, refl)

pub bounds-self-last : goal.bounds-self-last
bounds-self-last c =
    let accepted : account_check c.args.self ≡ Ok tt = sym c.examine_account.ensures ∙ c.in_default.is in
    let few : c.args.self.count ≤ most_days = (days-kept _ _ accepted).few in
    omega (arith, c.loop-last.invariant.0.few, c.loop-last.invariant.1, c.loop-last-test.true, few)

pub offset_bounds-self-last : goal.offset_bounds-self-last
offset_bounds-self-last c = let small = bounds-self-last c in omega (arith, small)

pub plus-sums-requires : goal.plus-sums-requires
plus-sums-requires c =
    let now = c.loop-last in
    let accepted : account_check c.args.self ≡ Ok tt = sym c.examine_account.ensures ∙ c.in_default.is in
    let some : 0 < now.self.count = rw now.invariant.1 c.loop-last-test.true in
    subst (λ n. Small (plus now.sums (day_at now.self (n - 1)).figures)) now.invariant.1 (off_small _ now.invariant.0 some accepted)

pub loop-last-preserved : goal.loop-last-preserved
loop-last-preserved c =
    let now = c.loop-last in
    let some : 0 < now.self.count = rw now.invariant.1 c.loop-last-test.true in
    let added = c.plus-sums.ensures ∙ ap (λ n. plus now.sums (day_at now.self (n - 1)).figures) (sym now.invariant.1) in (
      subst (λ n. TakingOff c.args.self (record { days = now.self.days; count = n - 1 }) c.plus-sums.result) now.invariant.1
          (off_next _ now.invariant.0 some added),
      refl,
    )

pub returns : goal.returns
returns c =
    let accepted : account_check c.args.self ≡ Ok tt = sym c.examine_account.ensures ∙ c.in_default.is in
    totalled _ accepted (off_all _ c.loop-last.invariant.0 (rw c.loop-last.invariant.1 c.loop-last-test.false))
