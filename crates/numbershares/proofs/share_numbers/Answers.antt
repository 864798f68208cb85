-- A refused figure refuses; the table of accepted ones is shared.
use mathlib.Core.Path.{sym, ◌∙◌}
use Rattle.std.proofs.lemmas.Result.{err_from_is_err_and}
use Rattle.numbershares.proofs.Answers.{figures_refuse, table_decides}
use Rattle.numbershares.proofs.share_numbers.Goals as goal

pub returns-in_err-check_figures : goal.returns-in_err-check_figures
returns-in_err-check_figures c =
    let p = err_from_is_err_and c.from_residual.result c.from_residual.ensures.1 in
    rw (p.1, p.2) (figures_refuse _ _ _ _ _ c.check_figures.ensures _ c.in_err-check_figures.was)

pub share_columns-requires : goal.share_columns-requires
share_columns-requires c = sym c.check_figures.ensures ∙ c.in_ok-check_figures.was

pub returns : goal.returns
returns c =
    table_decides _ _ _ _ _ c.check_figures.ensures c.in_ok-check_figures.was c.share_columns.ensures
