-- Rows so few and small have totals that fit.
use mathlib.Core.Path.{◌∙◌}
use Prim.Native.Nat.{◌<◌, ◌^◌}
use native.Mathlib.Omega.{arith}
use Rattle.std.proofs.Common.{rules}
use Rattle.std.proofs.lemmas.Iterator.{YieldsList-from_slice}
use Rattle.std.proofs.lemmas.Iterator.Consumers.{sum_from_yields_List}
use Rattle.std.specs.List.{sum}
use Rattle.units.specs.Bound.{most_hour, most_gigajoules}
use Rattle.pointshares.proofs.Adding.{sum-total, total-small}
use Rattle.pointshares.proofs.totals.Totals.of.Goals as goal

pub sum-requires-clause-fits : goal.sum-requires-clause-fits
sum-requires-clause-fits c =
    let fits : sum c.args.entitlements.now < 2 ^ 64 = omega (arith, total-small _ most_hour c.requires.reserved) in
    search rules

pub sum-requires-2-clause-fits : goal.sum-requires-2-clause-fits
sum-requires-2-clause-fits c =
    let rows = c.requires in
    let small = total-small c.args.mdqs.now most_gigajoules (λ i l. rows.firm i (omega (arith, rows.same))) in
    let fits : sum c.args.mdqs.now < 2 ^ 32 = omega (arith, rows.same, small) in
    search rules

pub returns : goal.returns
returns c =
    let entitlement = sum_from_yields_List _ _ c.sum.ensures.ran (YieldsList-from_slice c.args.entitlements.now cc) in
    let mdq = sum_from_yields_List _ _ c.sum-2.ensures.ran (YieldsList-from_slice c.args.mdqs.now cc) in
    rw (entitlement ∙ sum-total c.args.entitlements.now, mdq ∙ sum-total c.args.mdqs.now)
