-- A class that is held has a round's figures; one that is not has level 0 and zeros.
use mathlib.Core.Path.{◌≡◌, sym, ◌∙◌}
use mathlib.Core.Bool.{Bool, true, false}
use mathlib.Core.List.{List, ◌++◌}
use Prim.Native.Nat.{ℕ, ◌≤◌, ◌<◌}
use native.Mathlib.Nat.{zero-add}
use native.Mathlib.Omega.{arith}
use lib.ListN.{length, drop, replicate, length-replicate, get_or-replicate}
use lib.Seq.{sets, sets-eq, ext_get_or}
use Rattle.columns.specs.Column.{listed}
use Rattle.columns.proofs.Lists.{length-listed, col-listed}
use Rattle.columns.proofs.Sums.{sum_same}
use Rattle.rounds.specs.declared.Given.{Given}
use Rattle.dayshares.specs.Class.{class_level, class_given}
use Rattle.dayshares.specs.Private.{Held, Offered}

-- n zeros before what stood past the first n are n zeros written to the front
pub zeroed : (n : ℕ) (lent front : List ℕ) → n ≤ length lent → front ≡ replicate n 0
    → front ++ drop n lent ≡ sets lent 0 (listed n (λ i. 0))
zeroed n lent front h e =
    let zeros : replicate n 0 ≡ listed n (λ i. 0) =
    ext_get_or 0 (replicate n 0) (listed n (λ i. 0)) (length-replicate {A = ℕ} n 0 ∙ sym (length-listed {X = ℕ} n (λ i. 0)))
    (λ i l. let k : i < n = omega (arith, length-replicate {A = ℕ} n 0) in get_or-replicate n i 0 0 k ∙ sym (col-listed n (λ i. 0) i k)) in
    rw (e, zeros)
    (sym (sets-eq (listed n (λ i. 0)) lent 0 (omega (arith, length-listed {X = ℕ} n (λ i. 0))) ∙ rw (zero-add, length-listed)))

module _ (c : ℕ) (ws qs lent : List ℕ) where
  pub offers : (held : Bool) (g : Given) (lent' : List ℕ) → held ≡ true → Held c ws qs lent g lent' → Offered held c ws qs lent g lent'
  unfolding class_level class_given
  offers held g lent' e H =
      record { level = rw (e, H.gives); total = rw (e, H.gives); leaves = rw e H.leaves }

  pub withholds : (held : Bool) (lent' : List ℕ) → held ≡ false → lent' ≡ sets lent 0 (listed (length ws) (λ i. 0))
      → Offered held c ws qs lent (record { level = 0; total = record { 0 = 0 } }) lent'
  unfolding class_level class_given
  withholds held lent' e zeros =
      record { level = rw e; total = rw e (omega (arith, sum_same (length ws) 0)); leaves = rw e zeros }
