-- Rows that are not whole are refused, then the first day refused; the account of all others is closed.
use mathlib.Core.Path.{◌≡◌}
use Rattle.std.proofs.lemmas.Result.{err_from_is_err_and}
use Rattle.monthlisting.specs.Rows.{month_check}
use Rattle.monthlisting.proofs.Listing.{some-refused, all_listed}
use Rattle.monthlisting.proofs.list_month.Goals as goal

pub returns-in_err-examine : goal.returns-in_err-examine
unfolding month_check
returns-in_err-examine c =
    let tested : c.examine.result ≡ month_check c.args.numbers.now = rw (c.examine.ensures, c.hand_in-handed.ensures.found) in
    let p = err_from_is_err_and c.from_residual.result c.from_residual.ensures.1 in
    rw (p.1, p.2) (some-refused _ c.hand_in-handed.ensures tested _ c.in_err-examine.was)

pub returns : goal.returns
unfolding month_check
returns c =
    let tested : c.examine.result ≡ month_check c.args.numbers.now = rw (c.examine.ensures, c.hand_in-handed.ensures.found) in
    all_listed _ c.hand_in-handed.ensures tested c.in_ok-examine.was c.close.ensures
