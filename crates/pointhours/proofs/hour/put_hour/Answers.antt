-- The fronts of both lists are the entries' figures, so what is shared of them makes the lines.
use Prim.Native.Nat.{ℕ}
use native.Mathlib.Omega.{arith}
use lib.ListN.{length-replicate}
use Rattle.lines.proofs.Lining.{laid_from}
use Rattle.pointhours.specs.Parts.{most_entries}
use Rattle.pointhours.proofs.Hours.{front_is, front_long, hour-refused, hour-shared}
use Rattle.pointhours.proofs.hour.put_hour.Goals as goal

pub slice_bounds-share_hour-end : goal.slice_bounds-share_hour-end
slice_bounds-share_hour-end c =
    front_long _ _ (omega arith) c.entries_in-many.ensures.0 c.read_entries.ensures.entitlements

pub slice_bounds-share_hour-end-2 : goal.slice_bounds-share_hour-end-2
slice_bounds-share_hour-end-2 c = front_long _ _ (omega arith) c.entries_in-many.ensures.0 c.read_entries.ensures.mdqs

pub returns-in-Err : goal.returns-in-Err
returns-in-Err c = (
  hour-refused _ _ _ _ _ (omega arith)
      (front_is _ _ (omega arith) c.entries_in-many.ensures.0 c.read_entries.ensures.entitlements)
      (front_is _ _ (omega arith) c.entries_in-many.ensures.0 c.read_entries.ensures.mdqs) (length-replicate {A = ℕ} most_entries 0)
      c.share_hour-shared.ensures c.in-Err.is c.put_refusal.ensures.0,
  omega (arith, c.put_refusal.ensures.1),
)

pub returns-in-Ok : goal.returns-in-Ok
returns-in-Ok c = (
  hour-shared _ _ _ _ _ (omega arith)
      (front_is _ _ (omega arith) c.entries_in-many.ensures.0 c.read_entries.ensures.entitlements)
      (front_is _ _ (omega arith) c.entries_in-many.ensures.0 c.read_entries.ensures.mdqs) (length-replicate {A = ℕ} most_entries 0)
      c.share_hour-shared.ensures c.in-Ok.is (laid_from c.args.at c.min.ensures c.put_shares.ensures.0),
  c.put_shares.ensures.1,
)
