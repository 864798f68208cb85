-- With nothing excused every hour is compared as it was metered, and the tests of what is excused accept.
use mathlib.Core.Path.{◌≡◌, refl, sym, ◌∙◌}
use mathlib.Core.List.{List, [], ◌++◌}
use Prim.Native.Nat.{ℕ}
use borrow.Author.Rules.{rules}
use Rattle.std.proofs.lemmas.Result.{err_from_is_err_and}
use lib.ListN.{get_or, replicate}
use Rattle.units.specs.Refusals.{Check}
use Rattle.metered.specs.Hours.{bare_hours, delivered, both_days}
use Rattle.metered.specs.Excused.{compared}
use Rattle.metered.proofs.Rows.{first-days}
use Rattle.metered.proofs.Comparing.{compared-all, zero-hours}
use Rattle.overruns.specs.declared.day.ShipperDay.{ShipperDay}
use Rattle.overruns.specs.Day.{day_check}
use Rattle.overruns.specs.Excused.{nothing_excused}
use Rattle.overruns.proofs.Nothing.{check-nothing, day-nothing}
use Rattle.overruns.proofs.WholeDay.{Tested, day-refused, day-fits, day-over}
use Rattle.overruns.proofs.day.metered_overruns.Goals as goal

-- the day is tested, both days' hours made
abbrev tested : (D : ShipperDay) {both : List ℕ} → both ≡ both_days D.yesterday (get_or D.hours 0 [])
    → {found : Check} → found ≡ day_check D → Tested
tested D joined found_is = record {
  D = D;
  E = nothing_excused;
  both = _;
  joined = joined;
  excused_both = bare_hours nothing_excused.yesterday ++ delivered nothing_excused.hours;
  excused_joined = refl;
  found = _;
  checked = found_is ∙ sym (check-nothing D);
}

same : (both : List ℕ) → both ≡ compared both (replicate 35 0)
same both = sym (compared-all both (replicate 35 0) (zero-hours 35))

pub examine_day-requires : goal.examine_day-requires
examine_day-requires c = rw c.both_days-both.ensures (first-days c.args.day.now.yesterday _ (search rules))

pub returns-in_err-examine_day : goal.returns-in_err-examine_day
returns-in_err-examine_day c =
    let T : Tested = tested c.args.day.now c.both_days-both.ensures c.examine_day.ensures in
    let p = err_from_is_err_and c.from_residual.result c.from_residual.ensures.1 in
    rw (p.1, p.2) (day-refused T c.in_err-examine_day.was ∙ day-nothing T.D)

pub four_overruns-requires : goal.four_overruns-requires
four_overruns-requires c =
    let T : Tested = tested c.args.day.now c.both_days-both.ensures c.examine_day.ensures in
    let f = day-fits T c.in_ok-examine_day.was (same c.both_days-both.result) (search rules) in
    record { both_len = f.0; compared_within = f.1.0; rows_within = f.1.1 }

pub returns : goal.returns
returns c =
    let T : Tested = tested c.args.day.now c.both_days-both.ensures c.examine_day.ensures in
    day-over T c.in_ok-examine_day.was (same c.both_days-both.result) c.four_overruns.ensures ∙ day-nothing T.D
