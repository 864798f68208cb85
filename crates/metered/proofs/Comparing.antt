-- Hours compared are those metered, each less what is excused: none is above its metered hour, and where nothing is excused all are equal.
use Rattle.std.specs.Prelude.{Ok}
use mathlib.Core.Path.{◌≡◌, sym, ◌∙◌}
use mathlib.Core.List.{List}
use Prim.Native.Nat.{ℕ, ◌-◌, ◌≤◌, ◌<◌}
use native.Mathlib.Decide.{dec_lt}
use native.Mathlib.Nat.{le_of_eq}
use native.Mathlib.Omega.{arith}
use borrow.Author.Tests.{le-ltb}
use lib.Dec.{ltb}
use lib.ListN.{length, replicate, length-replicate, get_or-replicate, get_or-eq_default}
use Rattle.columns.specs.Column.{col}
use Rattle.columns.proofs.Firsts.{first-none}
use Rattle.columns.proofs.Lists.{length-listed, col-listed, listed-col, listed_same}
use Rattle.units.specs.declared.Megajoules.{Megajoules}
use Rattle.units.proofs.Checks.{accepts-both, accepts-clear}
use Rattle.metered.specs.Hours.{delivered, received}
use Rattle.metered.specs.Private.{Within}
use Rattle.metered.specs.Excused.{both_have, excused_check, excused_hours_check, compared}

module _ (metered excused : List ℕ) where
  -- an hour less what is excused
  abbrev pub less : ℕ → ℕ
  less hour = col metered hour - col excused hour

  pub length-compared : length (compared metered excused) ≡ length metered
  length-compared = length-listed (length metered) less

  -- past the list there is nothing to take off
  pub compared_at : (hour : ℕ) → col (compared metered excused) hour ≡ less hour
  compared_at hour = by (dec_lt hour (length metered))
    where
      by : Dec (hour < length metered) → col (compared metered excused) hour ≡ less hour
      by (yes l) = col-listed (length metered) less hour l
      by (no past) =
          omega (
            arith,
            get_or-eq_default (compared metered excused) 0 {n = hour} (omega (arith, length-compared)),
            get_or-eq_default metered 0 {n = hour} (omega arith),
          )

  -- no hour compared is above the hour metered
  pub compared-most : (hour : ℕ) → col (compared metered excused) hour ≤ col metered hour
  compared-most hour = omega (arith, compared_at hour)

  pub compared-within : Within metered → Within (compared metered excused)
  compared-within low hour = omega (arith, low hour, compared-most hour)

  -- ---- what is excused within what was metered is accepted
  pub accepts-excused : ((hour : ℕ) → col excused hour ≤ col metered hour) → excused_check metered excused ≡ Ok tt
  accepts-excused low =
      accepts-clear _ _ _
      (le_of_eq (sym (first-none (λ hour. ltb (col metered hour) (col excused hour)) (both_have metered excused)
      (λ hour l. le-ltb (col metered hour) (col excused hour) (low hour)))))

  -- ---- nothing is excused
  module _ (nothing : (hour : ℕ) → col excused hour ≡ 0) where
    pub compared-all : compared metered excused ≡ metered
    compared-all = listed_same (length metered) less (col metered) (λ hour l. omega (arith, nothing hour)) ∙ listed-col metered

    pub accepts-nothing : excused_check metered excused ≡ Ok tt
    accepts-nothing = accepts-excused (λ hour. omega (arith, nothing hour))

-- the same of both sides' hours
pub accepts-excused_hours : (hours excused : List (List Megajoules))
    → ((hour : ℕ) → col (delivered excused) hour ≤ col (delivered hours) hour)
    → ((hour : ℕ) → col (received excused) hour ≤ col (received hours) hour)
    → excused_hours_check hours excused ≡ Ok tt
unfolding excused_hours_check
accepts-excused_hours hours excused d r =
    accepts-both (accepts-excused (delivered hours) (delivered excused) d) (accepts-excused (received hours) (received excused) r)

-- a list of zeros has zero in every hour
pub zero-hours : (n hour : ℕ) → col (replicate n 0) hour ≡ 0
zero-hours n hour = by (dec_lt hour n)
  where
    by : Dec (hour < n) → col (replicate n 0) hour ≡ 0
    by (yes l) = get_or-replicate n hour 0 0 l
    by (no past) = get_or-eq_default (replicate n 0) 0 {n = hour} (omega (arith, length-replicate {A = ℕ} n 0))
