-- What acceptance says of an hour's input.
use Rattle.std.specs.Prelude.{Ok}
use mathlib.Core.Path.{◌≡◌, refl}
use mathlib.Core.List.{List}
use Prim.Native.Nat.{ℕ}
use native.Mathlib.Omega.{arith}
use borrow.Author.Tests.{leb-true, eqb-true, not-true}
use lib.ListN.{length}
use Rattle.units.proofs.Checks.{both-accepted, kept, all-within}
use Rattle.pointshares.specs.Private.{Ready}
use Rattle.pointshares.specs.Answer.{hour_check}
use Rattle.pointshares.proofs.Stranding.{not_stranded}

pub accepting : (h : ℕ) (entitlements mdqs : List ℕ) (room : ℕ)
    → hour_check h entitlements mdqs room ≡ Ok tt → Ready h entitlements mdqs room
unfolding hour_check
accepting h entitlements mdqs room e =
    let lent = both-accepted _ _ e in
    let apart = both-accepted _ _ lent.0 in
    let firm = both-accepted _ _ apart.0 in
    let reserved = both-accepted _ _ firm.0 in
    let count = both-accepted _ _ reserved.0 in
    let capacity = both-accepted _ _ count.0 in
    let lengths = both-accepted _ _ capacity.0 in
    let same : length entitlements ≡ length mdqs = eqb-true _ _ (kept _ _ lengths.1) in
    record {
      shareable =
          record {
            rows =
                record {
                  same = same;
                  few = leb-true _ _ (kept _ _ count.1);
                  reserved = all-within _ entitlements reserved.1;
                  firm = λ i l. all-within _ mdqs firm.1 i (omega arith);
                };
            added = refl;
            capacity = leb-true _ _ (kept _ _ capacity.1);
            served = λ two above. rw same (not_stranded entitlements mdqs h two (not-true _ (kept _ _ apart.1)) above);
          };
      fits = leb-true _ _ (kept _ _ lent.1);
    }
