-- The shares of gas that is answered with number 0 spend the net gas, in the list that a caller holds.
use Rattle.std.specs.Prelude.{Result}
use mathlib.Core.Path.{◌≡◌, sym, ◌∙◌}
use mathlib.Core.List.{List}
use Prim.Native.Nat.{ℕ, ◌-◌}
use lib.ListN.{length}
use Rattle.columns.proofs.Lists.{made_row, made-sum, made-rest}
use Rattle.sharing.proofs.Parts.{parts_spent, parts_left}
use Rattle.usegas.specs.Share.{none, weights, gas_shares}
use Rattle.usegas.specs.General.{gas_verdict, GasAnswered}
use Rattle.usegas.specs.Heater.{HeaterAnswered}
use Rattle.usegas.specs.Promise.{GasKept}
use Rattle.usegas.proofs.Shares.{foundation-nothing}
use Rattle.usegas.proofs.Accepting.{accepting}
use Rattle.usegas.proofs.Decided.{general_decided}
use Rattle.units.specs.declared.Megajoules.{Megajoules}
use Rattle.units.specs.declared.refusal.Refusal.{Refusal}

pub general_kept : {sug fssug foundation : ℕ} {schedules lent after : List ℕ} {gas : Result Megajoules Refusal}
    → GasAnswered sug fssug foundation schedules lent gas after → (gas_verdict gas).number ≡ 0
    → GasKept sug fssug foundation schedules lent gas after
general_kept {sug} {fssug} {foundation} {schedules} {lent} {after} A zero =
    let accepted = (general_decided A).exactly zero in
    let told = ((general_decided A).accepted accepted).2 in
    let ready = accepting sug fssug foundation schedules (length lent) accepted in
    let n = length schedules in
    let net = sug - fssug in
    let given = gas_shares foundation schedules net in
    let scheduled = ready.shareable.scheduled in
    let is = rw accepted at A.leaves in
    record {
      total = rw told (sym (made-sum n given lent after ready.fits is));
      most = rw told (parts_spent n (weights foundation schedules) net scheduled).most;
      short = λ some. rw told (parts_left n (weights foundation schedules) net (scheduled some));
      excepted = λ l. made_row n given lent after ready.fits is foundation l ∙ foundation-nothing foundation schedules net;
      rest = made-rest n given lent after ready.fits is;
    }

-- nobody is excepted, and FSSUG is zero
pub heater_kept : {sug : ℕ} {schedules lent after : List ℕ} {gas : Result Megajoules Refusal} → HeaterAnswered sug schedules lent gas after
    → (gas_verdict gas).number ≡ 0 → GasKept sug 0 none schedules lent gas after
heater_kept A zero = general_kept A zero
