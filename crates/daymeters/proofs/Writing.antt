-- Hours that a loop has written to an array, and the array once its last hour is written.
use mathlib.Core.Path.{◌≡◌, refl, ap, sym, ◌∙◌}
use mathlib.Core.List.{List, [], ◌∷◌}
use Prim.Native.Nat.{ℕ, zero, suc, ◌+◌, ◌≤◌, ◌<◌}
use native.Mathlib.Omega.{arith}
use lib.ListN.{length, set}
use Rattle.columns.specs.Column.{listed}
use Rattle.columns.proofs.Lists.{Filling, filling_none, filling_next, filling_whole}
use Rattle.units.specs.declared.Megajoules.{Megajoules}
use Rattle.metered.specs.Hours.{bare_hours}
use Rattle.metered.proofs.Rows.{length-figures}
use Rattle.daymeters.specs.Hours.{megajoules}

figures-set : (hours : List Megajoules) (hour : ℕ) (x : Megajoules) → bare_hours (set hours hour x) ≡ set (bare_hours hours) hour x.0
figures-set [] hour x = refl
figures-set (h ∷ hours) zero x = refl
figures-set (h ∷ hours) (suc hour) x = ap (λ rest. h.0 ∷ rest) (figures-set hours hour x)

of_figures : (hours : List Megajoules) → megajoules (bare_hours hours) ≡ hours
of_figures [] = refl
of_figures (h ∷ hours) = ap (λ rest. h ∷ rest) (of_figures hours)

-- a loop has written the hours of f below `hour`, of n, to the front of an array
pub record Writing (start : List Megajoules) (n : ℕ) (f : ℕ → ℕ) (hour : ℕ) (hours : List Megajoules) : Type 0 where
  pub inside : hour ≤ n
  pub filling : Filling (bare_hours start) f hour (bare_hours hours)

module _ (start : List Megajoules) (n : ℕ) (f : ℕ → ℕ) where
  pub writing_none : Writing start n f 0 start
  writing_none = record { inside = omega arith; filling = filling_none (bare_hours start) f }

  module _ (hour : ℕ) (hours : List Megajoules) (W : Writing start n f hour hours) where
    pub writing_next : (x : Megajoules) → hour < n → x.0 ≡ f hour → Writing start n f (hour + 1) (set hours hour x)
    writing_next x l e =
        record {
          inside = omega arith;
          filling = rw (figures-set hours hour x) (filling_next (bare_hours start) f hour (bare_hours hours) x.0 W.filling e);
        }

    pub written : length start ≡ n → n ≤ hour → hours ≡ megajoules (listed n f)
    written e l =
        sym (of_figures hours)
        ∙ ap megajoules (filling_whole (bare_hours start) f n hour (bare_hours hours) W.filling (length-figures start ∙ e) W.inside l)
