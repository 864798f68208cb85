-- The tests decide an answer of `share_day`, and one of number 0 keeps demand 3 in the lists that a caller holds.
use Rattle.std.specs.Prelude.{Result}
use mathlib.Core.Path.{◌≡◌, refl}
use mathlib.Core.List.{List}
use Prim.Native.Nat.{ℕ, ◌≤◌}
use native.Mathlib.Omega.{arith}
use lib.ListN.{length, take, drop, get_or-eq_default}
use lib.Seq.{sets}
use Rattle.columns.specs.Column.{col, listed}
use Rattle.columns.proofs.Lists.{made-col, made-rest}
use Rattle.units.specs.Verdict.{Decided}
use Rattle.units.proofs.Verdicts.{decided}
use Rattle.daytable.specs.Table.{Table, rows}
use Rattle.daytable.specs.Acceptance.{table_check}
use Rattle.daytable.proofs.Accepting.{accepting}
use Rattle.daytable.proofs.Decided.{check_numbered}
use Rattle.dayshares.specs.Given.{auction_held, auction_offered, lower_tier_held, lower_tier_offered}
use Rattle.dayshares.specs.Firm.{firm as firm_of}
use Rattle.dayshares.specs.Answer.{day_shares, shares_answer, shares_verdict, SharesAnswered}
use Rattle.dayshares.specs.Promise.{SharesKept}
use Rattle.dayshares.proofs.Classes.{class_le}
use Rattle.dayshares.proofs.Firms.{firm_le}
use Rattle.dayshares.proofs.Promises.{promises}
use Rattle.units.specs.declared.refusal.Refusal.{Refusal}
use Rattle.dayshares.specs.declared.Shares.{Shares}

-- of a class that gives no row more than its schedule, and so nothing past the rows: the front of its list, and the rest
front : (n : ℕ) (schedule lent : List ℕ) {after : List ℕ} {given : ℕ → ℕ} → ((i : ℕ) → given i ≤ col schedule i) → n ≡ length schedule
    → n ≤ length lent → after ≡ sets lent 0 (listed n given)
    → (col (take n after) ≡ given) × (drop n after ≡ drop n lent)
front n schedule lent {after} {given} low long fits is = (
  made-col n given lent after fits is (λ i past. omega (arith, low i, get_or-eq_default schedule 0 {n = i} (omega arith))),
  made-rest n given lent after fits is,
)

module _ {T : Table} {firm_lent auction_lent lower_tier_lent : List ℕ} {day : Result Shares Refusal} {firm_after auction_after lower_tier_after : List ℕ}
    (A : SharesAnswered T firm_lent auction_lent lower_tier_lent day firm_after auction_after lower_tier_after) where
  pub day_decided :
      Decided (table_check T (length firm_lent) (length auction_lent) (length lower_tier_lent)) (day_shares T)
      (record {
        levels = record { one = 0; two = 0; three = 0; auction = 0; lower_tier = 0 };
        firm = record { 0 = 0 };
        auction = record { 0 = 0 };
        lower_tier = record { 0 = 0 };
        left = record { 0 = 0 };
      })
      (shares_verdict day)
  day_decided = decided shares_answer shares_verdict refl (λ refusal. refl) (check_numbered T _ _ _) A.answers

  pub day-kept : (shares_verdict day).number ≡ 0
      → SharesKept T firm_lent auction_lent lower_tier_lent day firm_after auction_after lower_tier_after
  day-kept zero =
      let accepted = day_decided.exactly zero in
      let told = (day_decided.accepted accepted).2 in
      let L = accepting T _ _ _ accepted in
      let P = promises T _ _ _ accepted in
      let firm =
      front (rows T) T.firm_schedule firm_lent (firm_le (firm_of T)) L.long.firm_schedule L.firm_fits
      (rw accepted at A.leaves_firm)
      in
      let auction =
      front (rows T) T.auction_schedule auction_lent
      (class_le (rows T) (col T.auction_mdq) (col T.auction_schedule) (auction_offered T) (auction_held T))
      L.long.auction_schedule L.auction_fits (rw accepted at A.leaves_auction)
      in
      let lower_tier =
      front (rows T) T.lower_tier_schedule lower_tier_lent
      (class_le (rows T) (col T.lower_tier_schedule) (col T.lower_tier_schedule) (lower_tier_offered T) (lower_tier_held T))
      L.long.lower_tier_schedule L.lower_tier_fits (rw accepted at A.leaves_lower_tier)
      in
      record {
        promise = rw (firm.0, auction.0, lower_tier.0, told) P;
        firm_total = rw (firm.0, told);
        auction_total = rw (auction.0, told);
        lower_tier_total = rw (lower_tier.0, told);
        firm_rest = firm.1;
        auction_rest = auction.1;
        lower_tier_rest = lower_tier.1;
      }
