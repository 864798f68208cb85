-- What acceptance says of a round's input, and what accepts it.
use Rattle.std.specs.Prelude.{Ok}
use mathlib.Core.Path.{◌≡◌, refl}
use mathlib.Core.List.{List}
use Prim.Native.Nat.{ℕ}
use native.Mathlib.Omega.{arith}
use borrow.Author.Tests.{leb-true, eqb-true, le-leb, eq-eqb}
use lib.ListN.{length}
use Rattle.units.proofs.Checks.{both-accepted, kept, all-within, accepts-both, accepts-kept, accepts-within}
use Rattle.rounds.specs.Private.{Ready}
use Rattle.rounds.specs.Answer.{round_check}

pub accepting : (c : ℕ) (ws qs : List ℕ) (room : ℕ) → round_check c ws qs room ≡ Ok tt → Ready c ws qs room
unfolding round_check
accepting c ws qs room e =
    let lent = both-accepted _ _ e in
    let needs = both-accepted _ _ lent.0 in
    let weights = both-accepted _ _ needs.0 in
    let count = both-accepted _ _ weights.0 in
    let capacity = both-accepted _ _ count.0 in
    let lengths = both-accepted _ _ capacity.0 in
    let same : length ws ≡ length qs = eqb-true _ _ (kept _ _ lengths.1) in
    record {
      rows =
          record {
            same = same;
            few = leb-true _ _ (kept _ _ count.1);
            weights = all-within _ ws weights.1;
            needs = λ i l. all-within _ qs needs.1 i (omega arith);
          };
      capacity = leb-true _ _ (kept _ _ capacity.1);
      fits = leb-true _ _ (kept _ _ lent.1);
    }

pub accepts : (c : ℕ) (ws qs : List ℕ) (room : ℕ) → Ready c ws qs room → round_check c ws qs room ≡ Ok tt
unfolding round_check
accepts c ws qs room A =
    accepts-both (accepts-both (accepts-both (accepts-both (accepts-both (accepts-both refl
    (accepts-kept 9 (eq-eqb _ _ A.rows.same)))
    (accepts-kept 3 (le-leb _ _ A.capacity)))
    (accepts-kept 3 (le-leb _ _ A.rows.few)))
    (accepts-within _ ws A.rows.weights))
    (accepts-within _ qs (λ i l. A.rows.needs i (omega (arith, A.rows.same)))))
    (accepts-kept 7 (le-leb _ _ A.fits))
