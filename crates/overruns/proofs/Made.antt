-- An array made place by place, by a closure that leaves what it captured as it was.
use mathlib.Core.Path.{◌≡◌, sym, ◌∙◌}
use mathlib.Core.List.{List}
use Prim.Native.Nat.{ℕ, zero, suc, ◌+◌, ◌<◌}
use native.Mathlib.Nat.{add-zero, zero-add}
use native.Mathlib.Omega.{arith}
use denote.Param.Members.{Mut}
use lib.ListN.{get_or}
use lib.Seq.{ext_get_or}
use Rattle.std.specs.Array.{IsFromFnResult, IsFromFnResultFrom}
use Rattle.std.specs.Fn.{Called}
use Rattle.columns.specs.Column.{listed}
use Rattle.columns.proofs.Lists.{length-listed, get_or-listed}

module _ {F B : Type 0} (g : Mut F (ℕ × Unit {0}) B) (f : F) (item : ℕ → B) (ys : List B) (past : B)
    (each : (i : ℕ) (y : B) (q : F) → Called g f (i, tt) y q → (q ≡ f) × (y ≡ item i)) where
  made_from : (n i k : ℕ) → IsFromFnResultFrom g f ys i n → k < n → get_or ys (i + k) past ≡ item (i + k)
  made_from zero i k made l = absurd (omega arith)
  made_from (suc n) i zero (q, y, here, call, rest) l = rw add-zero (here.1 past ∙ (each i y q call).1)
  made_from (suc n) i (suc k) (q, y, here, call, rest) l =
      let later = rw (each i y q call).0 at rest in
      let next : i + 1 + k ≡ i + suc k = omega arith in
      rw next at (made_from n (i + 1) k later (omega arith))

  pub made : (n : ℕ) → IsFromFnResult g f ys n → ys ≡ listed n item
  made n M =
      ext_get_or past ys (listed n item) (M.long ∙ sym (length-listed n item))
      (λ i l.
      let inside : i < n = omega (arith, M.long) in
      rw zero-add at (made_from n 0 i M.each inside) ∙ sym (get_or-listed n item i past inside))
