-- For every input, what a caller reads out of each function's number is the answer of the routine that it calls: the routine's tests
-- decide that answer, its places lie within a full day's file, among 64 rows, 32 days or 24 hours, and its figures are bounded.
use Rattle.std.specs.Prelude.{Ok}
use mathlib.Core.Path.{◌≡◌, refl, subst, ◌∙◌}
use mathlib.Core.List.{List}
use Prim.Native.Nat.{ℕ, ◌≤◌}
use native.Mathlib.Omega.{arith}
use lib.ListN.{length}
use Rattle.columns.specs.Column.{col}
use Rattle.sharing.proofs.Levels.{level_is}
use Rattle.units.specs.Refusals.{◌then◌, Check}
use Rattle.units.specs.Verdict.{Decided, of_check as check-verdict}
use Rattle.units.proofs.Checks.{both-accepted}
use Rattle.units.proofs.Places.{PlacedTo}
use Rattle.units.proofs.Verdicts.{checked}
use Rattle.rounds.specs.Answer.{round_answer, round_verdict}
use Rattle.rounds.proofs.Decided.{round_decided, round-placed}
use Rattle.lines.specs.Answer.{listing_answer, listing_check, listing_verdict}
use Rattle.lines.proofs.Decided.{listed-placed}
use Rattle.monthlisting.specs.Rows.{month_check, month_listing}
use Rattle.monthlisting.proofs.Decided.{month_decided, month_placed}
use Rattle.monthlisting.proofs.Sizes as month-sizes
use Rattle.readings.specs.declared.hour.HourReading.{HourReading}
use Rattle.readings.specs.Day.{metered_answer, metered_verdict}
use Rattle.readings.proofs.Promises.{gas-kept, sums_kept}
use Rattle.readings.proofs.Decided.{readings-placed, metered_decided}
use Rattle.daytable.specs.Table.{Table}
use Rattle.daytable.proofs.Accepting.{accepting}
use Rattle.daytable.proofs.Decided.{table-placed}
use Rattle.overruns.specs.declared.day.ExcusedHours.{ExcusedHours}
use Rattle.overruns.specs.Excused.{nothing_excused}
use Rattle.overruns.proofs.Nothing.{check-nothing, overruns-nothing, day-nothing}
use Rattle.dayformat.specs.Layout.{numbers_in}
use Rattle.dayshares.specs.Answer.{shares_answer, shares_verdict}
use Rattle.dayshares.proofs.Decided.{day_decided}
use Rattle.dayruns.specs.Walk.{file_check}
use Rattle.dayfile.specs.File.{walked}
use Rattle.dayfile.specs.Answer.{reading_answer, reading_verdict}
use Rattle.dayfile.proofs.Reaching.{most_file, numbers-most}
use Rattle.dayfile.proofs.Decided.{file_numbered, file-placed, reading-placed, reading_decided}
use Rattle.chargelisting.specs.ChargesText.{charges_check, charges_listing}
use Rattle.chargelisting.proofs.Decided.{charges_decided, charges_placed}
use Rattle.chargelisting.proofs.Sizes as charges-sizes
use Rattle.sharelisting.specs.SharesText.{shares_listing}
use Rattle.sharelisting.proofs.Decided.{shares_decided}
use Rattle.sharelisting.proofs.Sizes as shares-sizes
use Rattle.pointlisting.specs.PointsText.{points_listing}
use Rattle.pointlisting.proofs.Decided.{points_decided}
use Rattle.pointlisting.proofs.Sizes as points-sizes
use Rattle.cormcushion.specs.Packed.{packed_check, Unpacks}
use Rattle.cormcushion.specs.Answers.{of_listing, of_reading, of_round, of_shares}
use Rattle.cormcushion.specs.Lent.{ListingPacked, ReadingPacked, RoundPacked, SharesPacked}
use Rattle.cormcushion.specs.Meter.{shipper_day, rate_check, cents_for, charge_check, charge_cents, ChargePacked}
use Rattle.cormcushion.specs.Meter.{excused_charge_check, excused_charge_cents, ExcusedChargePacked}
use Rattle.cormcushion.specs.DayGas.{of_metered, DayGasPacked}
use Rattle.cormcushion.proofs.ChargeTests.{charge_numbered, charge-placed, charge-packs, charge-most}
use Rattle.cormcushion.proofs.Unpacking.{most_figure, found_reads, answer_reads}

-- ---- capacity: the level of a round, LEFT of a day
pub round_reads : {c : ℕ} {ws qs lent after : List ℕ} {packed : ℕ} (R : RoundPacked c ws qs lent packed after)
    → Unpacks packed (round_verdict R.round) (λ given. given.level)
round_reads {c} {ws} {qs} {lent} R =
    answer_reads (round_decided R.answers) (λ given. given.level) (round-placed c ws qs (length lent)) (omega arith)
    (λ accepted. omega (arith, (level_is (length ws) (col ws) (col qs) c).capped))
    round_answer of_round refl (λ refusal. refl) R.answers.answers R.packs

pub shares_reads : {T : Table} {firm auction lower_tier levels firm_after auction_after lower_tier_after levels_after : List ℕ}
    {packed : ℕ} (D : SharesPacked T firm auction lower_tier levels packed firm_after auction_after lower_tier_after levels_after)
    → Unpacks packed (shares_verdict D.day) (λ given. given.left.0)
shares_reads {T} D =
    answer_reads (day_decided D.answers) (λ given. given.left.0) (table-placed T _ _ _) (omega arith)
    (λ accepted. let B = (accepting T _ _ _ accepted).bounded in omega (arith, B.free_flow, B.compressor))
    shares_answer of_shares refl (λ refusal. refl) D.answers.answers D.packs

-- ---- a day's file: how many numbers it has
pub check_reads : (file : List ℕ) {packed : ℕ} → packed ≡ packed_check (file_check (walked file)) (numbers_in (walked file).counts)
    → Unpacks packed (check-verdict (file_check (walked file))) (λ none. numbers_in (walked file).counts)
check_reads file =
    found_reads (checked (file_numbered file) refl) (λ none. numbers_in (walked file).counts) (file-placed file) (omega arith)
    (λ accepted. omega (arith, numbers-most file))

pub reading_reads : {file day lent day_after after : List ℕ} {packed : ℕ} (R : ReadingPacked file day lent packed day_after after)
    → Unpacks packed (reading_verdict R.reading) (λ day. numbers_in day.counts)
reading_reads {file} {lent = lent} R =
    answer_reads (reading_decided R.answers) (λ day. numbers_in day.counts) (reading-placed file (length lent)) (omega arith)
    (λ accepted. omega (arith, numbers-most file)) reading_answer of_reading refl (λ refusal. refl) R.answers.answers R.packs

-- ---- listings: the size of a text
listing_reads : {tests : Check} {text lent after : List ℕ} {packed : ℕ} (L : ListingPacked tests text lent after packed)
    → PlacedTo most_file tests → (tests ≡ Ok tt → length text ≤ most_figure)
    → Decided (listing_check tests text (length lent)) (length text) 0 (listing_verdict L.listing)
    → Unpacks packed (listing_verdict L.listing) (λ size. size)
unfolding listing_check
listing_reads {text = text} {lent} L placed small D =
    answer_reads D (λ size. size) (listed-placed text (length lent) placed) (omega arith)
    (λ accepted. small (both-accepted _ _ accepted).0)
    listing_answer of_listing refl (λ refusal. refl) L.answers.answers L.packs

pub list-shares_reads : (file : List ℕ) {lent after : List ℕ} {packed : ℕ}
    (L : ListingPacked (file_check (walked file)) (shares_listing file) lent after packed)
    → Unpacks packed (listing_verdict L.listing) (λ size. size)
list-shares_reads file L =
    listing_reads L (file-placed file) (λ accepted. omega (arith, shares-sizes.text-most file accepted)) (shares_decided file L.answers)

pub list_charges_reads : (rate : ℕ) (file : List ℕ) {lent after : List ℕ} {packed : ℕ}
    (L : ListingPacked (charges_check (record { 0 = rate }) file) (charges_listing (record { 0 = rate }) file) lent after packed)
    → Unpacks packed (listing_verdict L.listing) (λ size. size)
list_charges_reads rate file L =
    listing_reads L (charges_placed _ file) (λ accepted. omega (arith, charges-sizes.text-most _ file accepted))
    (charges_decided _ file L.answers)

pub list_points_reads : (file : List ℕ) {lent after : List ℕ} {packed : ℕ}
    (L : ListingPacked (file_check (walked file)) (points_listing file) lent after packed)
    → Unpacks packed (listing_verdict L.listing) (λ size. size)
list_points_reads file L =
    listing_reads L (file-placed file) (λ accepted. omega (arith, points-sizes.text-most file accepted)) (points_decided file L.answers)

pub month_statement_reads : (numbers : List ℕ) {lent after : List ℕ} {packed : ℕ}
    (L : ListingPacked (month_check numbers) (month_listing numbers) lent after packed)
    → Unpacks packed (listing_verdict L.listing) (λ size. size)
month_statement_reads numbers L =
    listing_reads L (month_placed (omega arith) numbers) (λ accepted. omega (arith, month-sizes.text-most numbers accepted))
    (month_decided numbers L.answers)

-- ---- a shipper's day: the charge in cents
pub excused-charge_reads : (rate p m : ℕ) (yesterday delivered received schedules metered : List ℕ) (E : ExcusedHours)
    {lent after : List ℕ} {packed : ℕ}
    → ExcusedChargePacked rate (shipper_day p m yesterday delivered received schedules metered) E lent packed after
    → Unpacks packed (check-verdict (excused_charge_check rate (shipper_day p m yesterday delivered received schedules metered) E))
    (λ none. excused_charge_cents rate (shipper_day p m yesterday delivered received schedules metered) E)
excused-charge_reads rate p m yesterday delivered received schedules metered E C =
    let D = shipper_day p m yesterday delivered received schedules metered in
    found_reads (checked (charge_numbered rate p m yesterday delivered received schedules metered E) refl)
    (λ none. excused_charge_cents rate D E)
    (charge-placed rate p m yesterday delivered received schedules metered E) (omega arith)
    (λ accepted. omega (arith, charge-most rate D E accepted)) (C.answers ∙ charge-packs rate D E)

-- with nothing excused
pub charge_reads : (rate p m : ℕ) (yesterday delivered received schedules metered : List ℕ) {lent after : List ℕ} {packed : ℕ}
    → ChargePacked rate (shipper_day p m yesterday delivered received schedules metered) lent packed after
    → Unpacks packed (check-verdict (charge_check rate (shipper_day p m yesterday delivered received schedules metered)))
    (λ none. charge_cents rate (shipper_day p m yesterday delivered received schedules metered))
charge_reads rate p m yesterday delivered received schedules metered {lent} {after} {packed} C =
    let D = shipper_day p m yesterday delivered received schedules metered in
    let none : ExcusedChargePacked rate D nothing_excused lent packed after =
    record { answers = rw (day-nothing D) C.answers; leaves = rw (day-nothing D) C.leaves } in
    subst (λ found. Unpacks packed (check-verdict (rate_check rate then found)) (λ none. charge_cents rate D)) (check-nothing D)
    (subst (λ over. Unpacks packed (check-verdict (excused_charge_check rate D nothing_excused)) (λ none. cents_for rate over))
    (overruns-nothing D) (excused-charge_reads rate p m yesterday delivered received schedules metered nothing_excused none))

-- ---- a day of readings: the sum of its energies
pub gas_reads : {readings : List HourReading} {energies volumes energies_after volumes_after : List ℕ}
    {volume packed volume_after : ℕ} (G : DayGasPacked readings energies volumes volume packed energies_after volumes_after volume_after)
    → Unpacks packed (metered_verdict G.day) (λ gas. gas.energy.0)
gas_reads {readings} G =
    answer_reads (metered_decided readings G.answers) (λ gas. gas.energy.0) (readings-placed readings) (omega arith)
    (λ accepted. omega (arith, (sums_kept (gas-kept readings accepted)).0))
    metered_answer of_metered refl (λ refusal. refl) G.answers G.packs
