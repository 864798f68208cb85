-- A sound day is shared, and the shared lists make its text.
use Rattle.dayrows.specs.Private.{Sound}
use Rattle.sharelisting.proofs.TextIs.{never_refused, shared_of}
use Rattle.sharelisting.proofs.list.list_day.Goals as goal

pub returns-in_err-shares : goal.returns-in_err-shares
returns-in_err-shares c =
    let sound-of : Sound c.args.day c.args.numbers.now = c.requires in
    never_refused c.args.day c.args.numbers.now sound-of c.share_numbers.ensures _ c.in_err-shares.was

pub invariant_of-shared : goal.invariant_of-shared
invariant_of-shared c =
    let sound-of : Sound c.args.day c.args.numbers.now = c.requires in record {
      sound = sound-of;
      shared = shared_of c.args.day c.args.numbers.now sound-of c.share_numbers.ensures _ c.in_ok-shares.was;
    }
