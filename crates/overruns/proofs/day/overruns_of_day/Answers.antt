-- The four are worked out where every figure of the day is within its bound, and what is excused within its hour.
use mathlib.Core.Path.{◌≡◌}
use mathlib.Core.List.{List, []}
use Prim.Native.Nat.{ℕ}
use borrow.Author.Rules.{rules}
use Rattle.std.proofs.lemmas.Result.{err_from_is_err_and}
use lib.ListN.{get_or}
use Rattle.units.specs.Refusals.{Check}
use Rattle.metered.specs.Hours.{both_days}
use Rattle.metered.proofs.Rows.{first-days}
use Rattle.overruns.specs.declared.day.ShipperDay.{ShipperDay}
use Rattle.overruns.specs.declared.day.ExcusedHours.{ExcusedHours}
use Rattle.overruns.specs.Excused.{excused_day_check}
use Rattle.overruns.proofs.WholeDay.{Tested, day-refused, day-fits, day-over}
use Rattle.overruns.proofs.day.overruns_of_day.Goals as goal

-- the day is tested, both days' hours made, metered and excused
abbrev tested : (D : ShipperDay) (E : ExcusedHours) {both excused_both : List ℕ} → both ≡ both_days D.yesterday (get_or D.hours 0 [])
    → excused_both ≡ both_days E.yesterday (get_or E.hours 0 []) → {found : Check} → found ≡ excused_day_check D E → Tested
tested D E joined excused_joined checked = record {
  D = D;
  E = E;
  both = _;
  joined = joined;
  excused_both = _;
  excused_joined = excused_joined;
  found = _;
  checked = checked;
}

pub examine_excused_day-requires : goal.examine_excused_day-requires
examine_excused_day-requires c = record {
  yesterday = rw c.both_days-both.ensures (first-days c.args.day.now.yesterday _ (search rules));
  excused_yesterday = rw c.both_days-excused_both.ensures (first-days c.args.excused.now.yesterday _ (search rules));
}

pub returns-in_err-examine_excused_day : goal.returns-in_err-examine_excused_day
returns-in_err-examine_excused_day c =
    let T : Tested =
    tested c.args.day.now c.args.excused.now c.both_days-both.ensures c.both_days-excused_both.ensures c.examine_excused_day.ensures in
    let p = err_from_is_err_and c.from_residual.result c.from_residual.ensures.1 in
    rw (p.1, p.2) (day-refused T c.in_err-examine_excused_day.was)

pub four_overruns-requires : goal.four_overruns-requires
four_overruns-requires c =
    let T : Tested =
    tested c.args.day.now c.args.excused.now c.both_days-both.ensures c.both_days-excused_both.ensures c.examine_excused_day.ensures in
    let f = day-fits T c.in_ok-examine_excused_day.was c.compared_days-compared.ensures (search rules) in
    record { both_len = f.0; compared_within = f.1.0; rows_within = f.1.1 }

pub returns : goal.returns
returns c =
    let T : Tested =
    tested c.args.day.now c.args.excused.now c.both_days-both.ensures c.both_days-excused_both.ensures c.examine_excused_day.ensures in
    day-over T c.in_ok-examine_excused_day.was c.compared_days-compared.ensures c.four_overruns.ensures
