-- Where the format puts an entry's shipper and its reserved entitlement.
use mathlib.Core.Path.{◌≡◌, ap, sym}
use mathlib.Core.List.{List}
use Prim.Native.Nat.{ℕ, ◌+◌, ◌*◌}
use lib.ListN.{take, drop}
use lib.Seq.{drop-drop}
use Rattle.columns.specs.Column.{listed}
use Rattle.bigendian.specs.Number.{value}
use Rattle.bigendian.specs.Row.{size}
use Rattle.dayformat.specs.Format.{column_in}
use Rattle.pointhours.specs.Parts.{shipper_in, entitlement_in}

module _ (part : List ℕ) (entry : ℕ) where
  pub shipper-here : value (take 2 (drop (entry * 12 + 6) part)) ≡ shipper_in part entry
  unfolding size listed column_in
  shipper-here = ap (λ rest. value (take 2 rest)) (sym (drop-drop 6 (entry * 12) part))

  pub entitlement-here : value (take 4 (drop (entry * 12 + 8) part)) ≡ entitlement_in part entry
  unfolding size listed column_in
  entitlement-here = ap (λ rest. value (take 4 rest)) (sym (drop-drop 8 (entry * 12) part))
