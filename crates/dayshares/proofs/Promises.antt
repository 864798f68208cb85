-- Demand 3, for every table that the opened routine accepts: a short class ends the day, and each round's own laws do the rest.
use Rattle.std.specs.Prelude.{Ok}
use mathlib.Core.Path.{◌≡◌, refl}
use mathlib.Core.Bool.{Bool, true, false, cond}
use Prim.Native.Nat.{ℕ, ◌≤◌, ◌<◌}
use native.Mathlib.Nat.{le_antisymm}
use native.Mathlib.Omega.{arith}
use Rattle.columns.specs.Column.{col}
use Rattle.daytable.specs.Table.{Table, rows}
use Rattle.daytable.specs.Acceptance.{table_check}
use Rattle.daytable.proofs.Accepting.{Accepting, accepting}
use Rattle.dayshares.specs.Class.{full}
use Rattle.dayshares.specs.Given.{firm_given, auction_held, auction_offered, auction_given, auction_total, lower_tier_held, lower_tier_offered, lower_tier_given, lower_tier_total, left}
use Rattle.dayshares.specs.Firm.{firm}
use Rattle.dayshares.specs.Promise.{Promise}
use Rattle.dayshares.specs.Private.{DayReady}
use Rattle.dayshares.proofs.Accepting.{ready}
use Rattle.dayshares.proofs.Classes.{class_le, class_fits, class_held, class_short, full-rows, short_row}
use Rattle.dayshares.proofs.Firms.{firm_le, firm_fits, firm_short, firm_floor}

-- lower tier is held where auction is held and full, and nowhere else
both : (a b : Bool) → cond a b false ≡ true → (a ≡ true) × (b ≡ true)
both true b e = (refl, e)
both false b e = let z : ◌≡◌ {A = ℕ} 0 1 = cc in absurd (omega arith)

and_held : (a b : Bool) → a ≡ true → b ≡ true → cond a b false ≡ true
and_held a b e f = rw (e, f)

module _ (T : Table) (firm_room auction_room lower_tier_room : ℕ) (A : Accepting T firm_room auction_room lower_tier_room) where
  R : DayReady T firm_room auction_room lower_tier_room
  R = ready T firm_room auction_room lower_tier_room A

  firm_full : auction_held T ≡ true → (j : ℕ) → j < rows T → firm_given T j ≡ col T.firm_schedule j
  firm_full e j l = le_antisymm (firm_le (firm T) j) (full-rows (rows T) (col T.firm_schedule) (firm_given T) e j l)

  auction_le : (i : ℕ) → auction_given T i ≤ col T.auction_schedule i
  auction_le = class_le (rows T) (col T.auction_mdq) (col T.auction_schedule) (auction_offered T) (auction_held T)

  auction_full : full (rows T) (col T.auction_schedule) (auction_given T) ≡ true
      → (j : ℕ) → j < rows T → auction_given T j ≡ col T.auction_schedule j
  auction_full e j l = le_antisymm (auction_le j) (full-rows (rows T) (col T.auction_schedule) (auction_given T) e j l)

  -- each class spends at most what it is offered
  auction_fits : auction_total T ≤ auction_offered T
  auction_fits = class_fits (rows T) (col T.auction_mdq) (col T.auction_schedule) (auction_offered T) (auction_held T)

  lower_tier_fits : lower_tier_total T ≤ lower_tier_offered T
  lower_tier_fits =
      class_fits (rows T) (col T.lower_tier_schedule) (col T.lower_tier_schedule) (lower_tier_offered T) (lower_tier_held T)

  -- ---- a short row of each class, the class above it full or not
  short-firm : (i : ℕ) → i < rows T → firm_given T i < col T.firm_schedule i → left T < rows T
  short-firm i l short =
      omega (arith, firm_short (firm T) R.firm.weights R.firm.needs A.firm-served i l short)

  firm_not_full : auction_held T ≡ false → left T < rows T
  firm_not_full e =
      let r = short_row (rows T) (col T.firm_schedule) (firm_given T) e in short-firm r.0 r.1 r.2

  short-auction : (held : Bool) → auction_held T ≡ held → (i : ℕ) → i < rows T → auction_given T i < col T.auction_schedule i
      → left T < rows T
  short-auction false e i l short = firm_not_full e
  short-auction true e i l short =
      omega (
        arith,
        class_short (rows T) (col T.auction_mdq) (col T.auction_schedule) (auction_offered T)
            (λ j k. R.auction.weights j (omega (arith, R.auction_same)))
            (λ j k. R.auction.needs j (omega (arith, R.auction_same))) A.auction-served (auction_held T) e i l short,
        auction_fits,
        firm_fits (firm T),
      )

  auction_not_full : full (rows T) (col T.auction_schedule) (auction_given T) ≡ false → left T < rows T
  auction_not_full e =
      let r = short_row (rows T) (col T.auction_schedule) (auction_given T) e in
      short-auction (auction_held T) refl r.0 r.1 r.2

  short-lower_tier : (a b : Bool) → auction_held T ≡ a → full (rows T) (col T.auction_schedule) (auction_given T) ≡ b
      → (i : ℕ) → i < rows T → lower_tier_given T i < col T.lower_tier_schedule i → left T < rows T
  short-lower_tier false b ea eb i l short = firm_not_full ea
  short-lower_tier true false ea eb i l short = auction_not_full eb
  short-lower_tier true true ea eb i l short =
      let held : lower_tier_held T ≡ true = and_held _ _ ea eb in
      omega (
        arith,
        class_short (rows T) (col T.lower_tier_schedule) (col T.lower_tier_schedule) (lower_tier_offered T)
            (λ j k. R.lower_tier.weights j (omega (arith, R.lower_tier_same)))
            (λ j k. R.lower_tier.needs j (omega (arith, R.lower_tier_same))) (λ j k need. need) (lower_tier_held T) held i l
            short,
        lower_tier_fits,
        auction_fits,
        firm_fits (firm T),
      )

-- every accepted table keeps demand 3
pub promises : (T : Table) (firm_room auction_room lower_tier_room : ℕ)
    → table_check T firm_room auction_room lower_tier_room ≡ Ok tt
    → Promise T (firm_given T) (auction_given T) (lower_tier_given T) (left T)
promises T firm_room auction_room lower_tier_room accepted =
    let A = accepting T firm_room auction_room lower_tier_room accepted in
    let R = ready T firm_room auction_room lower_tier_room A in
    record {
      firm_within = λ i l. firm_le (firm T) i;
      auction_within = λ i l. auction_le T _ _ _ A i;
      lower_tier_within =
          λ i l.
          class_le (rows T) (col T.lower_tier_schedule) (col T.lower_tier_schedule) (lower_tier_offered T) (lower_tier_held T) i;
      whole = omega (arith, lower_tier_fits T _ _ _ A, auction_fits T _ _ _ A, firm_fits (firm T));
      auction_last = λ i l gas. firm_full T _ _ _ A (class_held _ _ _ _ (auction_held T) i gas);
      lower_tier_last =
          λ i l gas j k.
          let held = both _ _ (class_held _ _ _ _ (lower_tier_held T) i gas) in
          (firm_full T _ _ _ A held.0 j k, auction_full T _ _ _ A held.1 j k);
      firm_short = short-firm T _ _ _ A;
      auction_short = short-auction T _ _ _ A (auction_held T) refl;
      lower_tier_short = short-lower_tier T _ _ _ A (auction_held T) _ refl refl;
      firm_least =
          firm_floor (firm T) R.firm.weights R.firm.needs (λ i l. omega arith);
    }
