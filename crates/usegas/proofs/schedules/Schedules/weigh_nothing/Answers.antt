-- Every row weighs nothing exactly where the total is zero.
use mathlib.Core.Path.{◌≡◌, refl}
use native.Mathlib.Nat.{sub-zero}
use lib.ListN.{length}
use Rattle.std.proofs.Common.{rules, tests}
use Rattle.std.proofs.lemmas.Iterator.{cases_from_all, YieldsList-from_range}
use Rattle.usegas.specs.Share.{weights}
use Rattle.usegas.proofs.Scheduling.{total-nothing}
use Rattle.usegas.proofs.schedules.Schedules.weigh_nothing.Goals as goal

pub returns : goal.returns
returns c =
    let rows = c.args.self.now.rows.now in
    let weight = weights c.args.self.now.foundation rows in
    let each = YieldsList-from_range 0 (length rows) (length rows) refl (sub-zero (length rows)) in
    let by_call = cases_from_all _ _ _ (λ k. weight k ≡ 0) (λ k. weight k ≡ 0 → ⊥) c.all.ensures.ran each
    (λ x q k. search (rules, tests)) (λ x q k. search (rules, tests)) in
    total-nothing _ rows _ by_call
