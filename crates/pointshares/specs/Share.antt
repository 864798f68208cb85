-- 01, "An hour at a point" (cl. 6.2, 6.3): n shippers, reserved entitlements re, firm MDQs mdq, and the point's capacity h.
use Rattle.std.specs.Prelude.{Bool, cond, ◌&&◌, List, ℕ, ◌+◌, ◌-◌, leb, ltb, eqb, length}
use Rattle.columns.specs.Column.{col}
use Rattle.columns.specs.Sum.{sum}
use Rattle.sharing.specs.Part.{part}

-- one shipper has all of H; two or more have H × RE / TRE where TRE is above H, else RE + (H − TRE) × MDQ / TMDQ
unfoldable pub share : ℕ → (ℕ → ℕ) → (ℕ → ℕ) → ℕ → ℕ → ℕ
share n re mdq h i =
    cond (ltb n 2) h
    (cond (ltb h (sum n re))
    (part n re h i)
    (re i + part n mdq (h - sum n re) i))

-- the same of lists, one row for each shipper
abbrev pub hour_shares : List ℕ → List ℕ → ℕ → ℕ → ℕ
hour_shares entitlements mdqs h i = share (length entitlements) (col entitlements) (col mdqs) h i

-- TRE and TMDQ: the sum of a list
abbrev pub total : List ℕ → ℕ
total figures = sum (length figures) (col figures)

-- two or more at the point, H above TRE, TMDQ zero
unfoldable pub stranded : List ℕ → List ℕ → ℕ → Bool
stranded entitlements mdqs h = leb 2 (length entitlements) && ltb (total entitlements) h && eqb (total mdqs) 0
