-- Where the statement stands in the block the account is empty, else it is as it was.
use Rattle.month.proofs.Closing.{kept_open, closed}
use Rattle.month.proofs.account.Account.close.Goals as goal

pub returns-in-Err : goal.returns-in-Err
returns-in-Err c =
    kept_open _ c.list_account-listing.ensures c.in-Err.is

pub returns-in-Ok : goal.returns-in-Ok
returns-in-Ok c =
    closed _ c.list_account-listing.ensures c.in-Ok.is c.empty.ensures
