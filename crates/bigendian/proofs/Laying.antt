-- A number's bytes laid from the last on.
use mathlib.Core.Path.{◌≡◌, sym}
use mathlib.Core.List.{List}
use Prim.Native.Nat.{ℕ, zero, suc, ◌+◌, ◌-◌, ◌/◌, ◌%◌, ◌≤◌, ◌<◌}
use native.Mathlib.Omega.{arith}
use lib.ListN.{set}
use lib.Seq.{sets}
use Rattle.columns.proofs.Laying.{Laying, laying_last}
use Rattle.bigendian.specs.Number.{bytes}
use Rattle.bigendian.proofs.Numbers.{length-bytes, bytes-last}

module _ {whole lent : List ℕ} {at : ℕ} (rest : ℕ) {list : List ℕ} where
  pub number-next : (place : ℕ) {after : List ℕ} → 0 < place → Laying whole lent at (bytes place rest) list at
      → after ≡ set list (at + (place - 1)) (rest % 256) → Laying whole lent at (bytes (place - 1) (rest / 256)) after at
  number-next zero l L e = absurd (omega arith)
  number-next (suc place) l L e =
      let one : suc place - 1 ≡ place = omega arith in
      rw one
      (laying_last (rest % 256) place (sym (length-bytes place (rest / 256))) (rw bytes-last at L) (rw one at e))

  pub number-all : (place : ℕ) → place ≤ 0 → Laying whole lent at (bytes place rest) list at → list ≡ sets lent at whole
  unfolding bytes
  number-all zero l L = L.finishes
  number-all (suc place) l L = absurd (omega arith)
