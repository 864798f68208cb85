-- Taking the entitlements away one by one takes their total away.
use mathlib.Core.Path.{◌∙◌}
use Prim.Native.Nat.{◌-◌}
use Rattle.std.proofs.Common.{rules, tests}
use Rattle.std.proofs.lemmas.Iterator.{YieldsList-from_slice}
use Rattle.std.proofs.lemmas.Iterator.Consumers.{fold_from_yields_List}
use Rattle.pointshares.proofs.Adding.{total_taken}
use Rattle.pointshares.proofs.stranded.beyond.Goals as goal

pub returns : goal.returns
returns c =
    let entitlements = c.args.entitlements.now in
    fold_from_yields_List _ (λ left x. left - x) _ _ c.fold.ensures.ran (YieldsList-from_slice entitlements cc)
    (λ a x b q k. search (rules, tests))
    ∙ total_taken c.args.capacity entitlements
