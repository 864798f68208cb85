-- The shares of an hour that is answered with number 0 spend its capacity, in the list that a caller holds.
use Rattle.std.specs.Prelude.{Result}
use mathlib.Core.Path.{◌≡◌, sym}
use mathlib.Core.List.{List}
use Prim.Native.Nat.{ℕ}
use lib.ListN.{length}
use Rattle.columns.specs.Column.{col}
use Rattle.columns.proofs.Lists.{made-sum, made-rest}
use Rattle.pointshares.specs.Share.{hour_shares}
use Rattle.pointshares.specs.Answer.{hour_verdict, HourAnswered}
use Rattle.pointshares.specs.Promise.{HourKept}
use Rattle.pointshares.proofs.Shares.{spent}
use Rattle.pointshares.proofs.Accepting.{accepting}
use Rattle.pointshares.proofs.Decided.{hour_decided}
use Rattle.units.specs.declared.Megajoules.{Megajoules}
use Rattle.units.specs.declared.refusal.Refusal.{Refusal}

pub hour-kept : {h : ℕ} {entitlements mdqs lent after : List ℕ} {hour : Result Megajoules Refusal}
    → HourAnswered h entitlements mdqs lent hour after
    → (hour_verdict hour).number ≡ 0 → HourKept h entitlements lent hour after
hour-kept {h} {entitlements} {mdqs} {lent} {after} A zero =
    let accepted = (hour_decided A).exactly zero in
    let told = ((hour_decided A).accepted accepted).2 in
    let ready = accepting h entitlements mdqs (length lent) accepted in
    let n = length entitlements in
    let given = hour_shares entitlements mdqs h in
    let capacity = spent n (col entitlements) (col mdqs) h ready.shareable.served in
    let is = rw accepted at A.leaves in
    record {
      total = rw told (sym (made-sum n given lent after ready.fits is));
      most = rw told capacity.most;
      short = rw told capacity.short;
      rest = made-rest n given lent after ready.fits is;
    }
