use mathlib.Core.Path.{ap, ◌∙◌}
use Prim.Native.Nat.{min}
use lib.Seq.{sets}
use Rattle.columns.specs.Column.{col, listed}
use Rattle.columns.proofs.Lists.{filling_none, filling_next, filling_all}
use Rattle.pointhours.specs.HourText.{firm_mdq}
use Rattle.pointhours.specs.Parts.{most_number, entitlement_in, mdq_in}
use Rattle.pointhours.proofs.entries.read_entries.Goals as goal

pub loop-entry-init : goal.loop-entry-init
loop-entry-init c = (filling_none _ _, filling_none _ _)

pub loop-entry-preserved : goal.loop-entry-preserved
loop-entry-preserved c =
    let args = c.args in
    let now = c.loop-entry.invariant in (
      filling_next _ _ _ _ _ now.0 c.entitlement_in.ensures,
      filling_next _ _ _ _ _ now.1
          (c.firm_mdq.ensures
          ∙ ap (λ shipper. min (firm_mdq args.tables.counts (col args.tables.numbers.now) shipper) most_number)
          c.shipper_in.ensures),
    )

pub returns : goal.returns
returns c =
    let now = c.loop-entry in
    let args = c.args in
    record {
      entitlements =
          filling_all _ _ _ _ _ now.invariant.0 now.auto.entry-end c.loop-entry-test.false
          ∙ ap (λ many. sets args.entitlements.now 0 (listed many (entitlement_in args.part.now))) c.entries_in-entry-end.ensures.0;
      mdqs =
          filling_all _ _ _ _ _ now.invariant.1 now.auto.entry-end c.loop-entry-test.false
          ∙ ap (λ many. sets args.mdqs.now 0 (listed many (mdq_in args.tables.counts (col args.tables.numbers.now) args.part.now)))
          c.entries_in-entry-end.ensures.0;
    }
