-- Yesterday's numbers are copied to the front, and today's behind them.
use Rattle.std.proofs.Common.{rules, refl, ◌∙◌}
use Rattle.metered.proofs.Rows.{days-copied, length-figures}
use Rattle.metered.proofs.hours.both_days.Goals as goal

pub returns : goal.returns
returns c =
    days-copied _ _ _ _ _ refl (length-figures c.args.yesterday ∙ search rules)
    (c.copy_from_slice.ensures.after ∙ c.numbers_of.ensures)
    (c.copy_from_slice-2.ensures.after ∙ c.numbers_of-2.ensures)
