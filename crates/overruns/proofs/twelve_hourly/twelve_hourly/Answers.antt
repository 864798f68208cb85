use mathlib.Core.Path.{◌≡◌, sym, ◌∙◌}
use mathlib.Core.List.{List}
use Prim.Native.Nat.{ℕ, ◌+◌, ◌-◌, ◌≤◌, ◌<◌}
use native.Mathlib.Omega.{arith}
use lib.ListN.{length, take, drop, length-take}
use Rattle.columns.specs.Column.{col}
use Rattle.columns.specs.Sum.{sum}
use Rattle.excesses.specs.TwelveHourly.{period_limit}
use Rattle.overruns.proofs.AddedPeriods.{Added, first-added, next-added, added-all, periods_fit}
use Rattle.overruns.proofs.Parts.{part_length, part-first, part-gas, part_period, parts_within}
use Rattle.overruns.proofs.twelve_hourly.twelve_hourly.Goals as goal

-- a turn has the period's gas, and adds its excess
turn : (p m : ℕ) (hours : List ℕ) {h last total gas limit over : ℕ} → Added p m (col hours) h last total → h < 25
    → gas ≡ sum 12 (λ hour. col (take (h + 11 - (h - 2)) (drop (h - 2) hours)) (1 + hour))
    → limit ≡ period_limit p m h → over ≡ gas - limit → Added p m (col hours) (h + 1) gas (total + over)
turn p m hours {h} A to g l o =
    let later = A.later in
    next-added p m (col hours) h (g ∙ part_period hours (h - 2) (h + 11 - (h - 2)) 1 h (omega arith) (omega arith)) l o A to

pub gas_of-sum-requires : goal.gas_of-sum-requires
gas_of-sum-requires c = let low = c.requires.1 in (simp length-take (omega arith), search (parts_within, low))

pub loop-h-init : goal.loop-h-init
loop-h-init c =
    let args = c.args in
    let hours = args.hours.now in
    first-added args.p.0 args.m.0 (col hours)
    (part-gas hours 0 12 (omega (arith, c.requires.0)) 1 (omega arith) (omega arith) c.gas_of-sum.ensures)
    c.period_limit-limit.ensures c.excess-over.ensures

pub overflow_sub-h : goal.overflow_sub-h
overflow_sub-h c = c.loop-h.invariant.later

pub next_sum-sum-requires : goal.next_sum-sum-requires
next_sum-sum-requires c =
    let hours = c.args.hours.now in
    let low = c.requires.1 in
    let h = c.loop-h.h in
    let later = c.loop-h.invariant.later in
    let thirteen = h + 11 - (h - 2) in
    let inside : h - 2 + thirteen ≤ length hours = omega (arith, c.requires.0, c.loop-h-test.true) in
    record {
      hours_len = (part_length hours (h - 2) thirteen inside ∙ omega arith, search (parts_within, low));
      before_value = c.loop-h.invariant.last ∙ sym (part-first hours (h - 2) thirteen (h - 1) (omega arith) (omega arith));
    }

pub overflow_add-total : goal.overflow_add-total
overflow_add-total c =
    let args = c.args in
    record {
      fits =
          periods_fit args.p.0 args.m.0 (col args.hours.now)
          (turn _ _ _ c.loop-h.invariant c.loop-h-test.true c.next_sum-sum.ensures c.period_limit-limit-in-loop-h.ensures
          c.excess-over-in-loop-h.ensures)
          c.requires.1;
    }

pub loop-h-preserved : goal.loop-h-preserved
loop-h-preserved c =
    turn _ _ _ c.loop-h.invariant c.loop-h-test.true c.next_sum-sum.ensures c.period_limit-limit-in-loop-h.ensures
    c.excess-over-in-loop-h.ensures

pub returns : goal.returns
returns c =
    let args = c.args in
    added-all args.p.0 args.m.0 (col args.hours.now) c.loop-h.invariant c.loop-h-test.false
