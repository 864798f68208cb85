-- A faulty account has no total and no statement; else the days and their sums are laid.
use Rattle.std.proofs.lemmas.Result.{err_from_is_err_and}
use Rattle.month.proofs.Closing.{faulty, sound, stated}
use Rattle.month.proofs.account.list_account.Goals as goal

pub returns-in_err-sums : goal.returns-in_err-sums
returns-in_err-sums c =
    let p = err_from_is_err_and c.from_residual.result c.from_residual.ensures.1 in
    rw (p.1, p.2) (faulty _ c.total_up.ensures c.in_err-sums.was _)

pub list_statement-requires : goal.list_statement-requires
list_statement-requires c = sound _ c.total_up.ensures c.in_ok-sums.was

pub returns : goal.returns
returns c = stated _ c.total_up.ensures c.in_ok-sums.was c.list_statement.ensures
