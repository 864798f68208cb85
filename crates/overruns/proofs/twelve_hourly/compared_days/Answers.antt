-- Each hour is that metered, less what is excused.
use Rattle.std.proofs.Common.{rules, ◌-◌, sym, ap, ◌∙◌}
use Rattle.columns.specs.Column.{col, listed}
use Rattle.overruns.proofs.Made.{made}
use Rattle.overruns.proofs.twelve_hourly.compared_days.Goals as goal

pub returns : goal.returns
returns c =
    let metered = c.args.metered.now in
    let excused = c.args.excused.now in
    made _ _ (λ hour. col metered hour - col excused hour) _ 0 (λ hour y q k. search rules) 35 c.from_fn.ensures.items
    ∙ ap (λ n. listed n (λ hour. col metered hour - col excused hour)) (sym c.requires.0)
