-- The Free Flow MDQ as the code makes it is three quarters of the firm MDQ, at most the firm MDQ.
use mathlib.Core.Path.{◌≡◌, ap, sym}
use mathlib.Core.List.{List}
use Prim.Native.Nat.{ℕ, ◌≤◌}
use native.Mathlib.Omega.{arith}
use lib.ListN.{length, take, get_or-eq_default}
use lib.Seq.{sets}
use Rattle.columns.specs.Column.{col, listed}
use Rattle.columns.proofs.Lists.{made-long, made-col}
use Rattle.dayshares.specs.declared.firm.FirmGiven.{FirmGiven}
use Rattle.dayshares.specs.Firm.{three_quarters, firm_of}
use Rattle.dayshares.specs.Private.{Split, FirmHeld}

module _ (ms zeros made : List ℕ) (room : length ms ≤ length zeros)
    (is : made ≡ sets zeros 0 (listed (length ms) (λ i. three_quarters (col ms i)))) where
  quarters : col (take (length ms) made) ≡ (λ i. three_quarters (col ms i))
  quarters =
      made-col (length ms) (λ i. three_quarters (col ms i)) zeros made room is
      (λ i h. omega (arith, get_or-eq_default ms 0 {n = i} h))

  pub split-long : length ms ≡ length (take (length ms) made)
  split-long = made-long (length ms) (λ i. three_quarters (col ms i)) zeros made room is

  pub split : Split (take (length ms) made) ms
  split = record { same = sym split-long; part = λ i l. omega (arith, ap (λ f. f i) quarters) }

  pub quartered : (free_flow compressor : ℕ) (qs lent : List ℕ) (g : FirmGiven) (lent' : List ℕ)
      → FirmHeld (firm_of free_flow compressor (col (take (length ms) made)) ms qs) lent g lent'
      → FirmHeld (firm_of free_flow compressor (λ i. three_quarters (col ms i)) ms qs) lent g lent'
  quartered free_flow compressor qs lent g lent' H = rw quarters at H
