-- Each MDQ is zero exactly where TMDQ is, and what the entitlements leave is above zero exactly where H is above TRE.
use mathlib.Core.Path.{sym, ◌∙◌}
use native.Mathlib.Omega.{arith}
use borrow.Author.Tests.{ltb-true, leb-true}
use lib.Dec.{eqb}
use Rattle.std.proofs.Common.{rules, tests}
use Rattle.std.proofs.lemmas.Iterator.{YieldsList-from_slice}
use Rattle.std.proofs.lemmas.Iterator.Search.{all_from_yields_List}
use Rattle.pointshares.proofs.Adding.{all_zero}
use Rattle.pointshares.proofs.Stranding.{by_mdqs}
use Rattle.pointshares.proofs.stranded.is_stranded.Goals as goal
use Rattle.pointshares.proofs.stranded.is_stranded.Goals.{then-entitlements-ge2, else-entitlements-ge2}

pub returns-then-beyond-gt0 : goal.returns-then-beyond-gt0
returns-then-beyond-gt0 c =
    let none = all_from_yields_List (λ x. eqb x 0) _ _ c.all.result c.all.ensures.ran (YieldsList-from_slice c.args.mdqs.now cc)
    (λ x b q k. search (rules, tests)) ∙ all_zero c.args.mdqs.now in
    elim c.if-entitlements-ge2.branch [
      | then-entitlements-ge2 w ↦
          let some = ltb-true 0 w.beyond.result (sym w.value-is ∙ c.if-beyond-gt0.true) in
          none ∙ by_mdqs _ _ _ w.if-entitlements-ge2.true (omega arith)
      | else-entitlements-ge2 w ↦ absurd (omega (arith, leb-true 2 _ (sym w.value-is ∙ c.if-beyond-gt0.true)))
    ]
