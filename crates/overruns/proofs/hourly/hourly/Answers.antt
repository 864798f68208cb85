use mathlib.Core.Path.{◌≡◌, ◌∙◌}
use mathlib.Core.List.{List, []}
use Prim.Native.Nat.{ℕ, ◌+◌, ◌-◌, ◌<◌, max}
use lib.ListN.{get_or}
use Rattle.columns.proofs.Sums.{Adding, adding_none, adding_next}
use Rattle.units.specs.declared.Megajoules.{Megajoules}
use Rattle.metered.specs.Hours.{delivered, received}
use Rattle.metered.proofs.Rows.{figure_at}
use Rattle.metered.proofs.Comparing.{compared_at}
use Rattle.excesses.proofs.Excesses.{greater_excess, hours_fit, all-hours}
use Rattle.overruns.proofs.hourly.hourly.Invariants.{taken, brought}
use Rattle.overruns.proofs.hourly.hourly.Goals as goal

-- an hour's figure on a side
abbrev figure : List (List Megajoules) → ℕ → ℕ → ℕ
figure rows side hour = (get_or (get_or rows side []) hour (record { 0 = 0 })).0

-- a turn adds the hour's excess
turn : (hours excused : List (List Megajoules)) (most_delivered most_received : ℕ) {hour total over : ℕ}
    → Adding 24 (greater_excess (taken hours excused) (brought hours excused) most_delivered most_received) hour total → hour < 24
    → over ≡ max (figure hours 0 hour - figure excused 0 hour - most_delivered)
    (figure hours 1 hour - figure excused 1 hour - most_received)
    → Adding 24 (greater_excess (taken hours excused) (brought hours excused) most_delivered most_received) (hour + 1) (total + over)
turn hours excused most_delivered most_received {hour} A to e =
    adding_next _ _ A to
    (e
    ∙ rw (
      compared_at (delivered hours) (delivered excused) hour,
      compared_at (received hours) (received excused) hour,
      figure_at (get_or hours 0 []) hour,
      figure_at (get_or hours 1 []) hour,
      figure_at (get_or excused 0 []) hour,
      figure_at (get_or excused 1 []) hour,
    ))

pub loop-hour-init : goal.loop-hour-init
loop-hour-init c = adding_none _ _

pub overflow_add-total : goal.overflow_add-total
overflow_add-total c =
    let hours = c.args.hours in
    let excused = c.args.excused in
    record {
      fits =
          hours_fit (taken hours excused) (brought hours excused) _ _ c.requires
          (turn hours excused _ _ c.loop-hour.invariant c.loop-hour-test.true
          (c.greater-over.ensures
          ∙ rw (c.excess-in-loop-hour.ensures, c.excess.ensures, c.excess-received.ensures, c.excess-delivered.ensures)));
    }

pub loop-hour-preserved : goal.loop-hour-preserved
loop-hour-preserved c =
    turn c.args.hours c.args.excused _ _ c.loop-hour.invariant c.loop-hour-test.true
    (c.greater-over.ensures ∙ rw (c.excess-in-loop-hour.ensures, c.excess.ensures, c.excess-received.ensures, c.excess-delivered.ensures))

pub returns : goal.returns
returns c =
    let args = c.args in
    all-hours (taken args.hours args.excused) (brought args.hours args.excused) _ _ args.m.0 c.loop-hour.invariant c.loop-hour-test.false
    c.thousandths-most_delivered.ensures.0 c.thousandths-most_received.ensures.0
