-- A part of the hours, and the periods of twelve that lie in it.
use mathlib.Core.Path.{◌≡◌, ap, ◌∙◌}
use mathlib.Core.List.{List}
use Prim.Native.Nat.{ℕ, ◌+◌, ◌-◌, ◌≤◌, ◌<◌}
use native.Mathlib.Nat.{zero-add}
use native.Mathlib.Omega.{arith}
use lib.ListN.{length, take, drop, length-take, length-drop}
use lib.Seq.{get_or-take, get_or-drop}
use Rattle.columns.specs.Column.{col}
use Rattle.columns.specs.Sum.{sum}
use Rattle.columns.proofs.Sums.{sum_cong}
use Rattle.excesses.specs.TwelveHourly.{period_gas}
use Rattle.metered.specs.Private.{Within}
use Rattle.metered.proofs.Accepting.{every-hour}

-- hours within their bound stay so in a part
module _ (n : ℕ) (hours : List ℕ) (low : Within hours) where
  pub taken-within : Within (take n hours)
  taken-within =
      every-hour (take n hours)
      (λ hour l. let e : hour < n = omega (arith, simp length-take at l) in omega (arith, get_or-take n hours hour 0 e, low hour))

  pub dropped_within : Within (drop n hours)
  dropped_within hour = omega (arith, get_or-drop n hours hour 0, low (n + hour))

pub ruleset parts_within = (taken-within, dropped_within)

-- n hours from one on
module _ (hours : List ℕ) (from n : ℕ) where
  abbrev part : List ℕ
  part = take n (drop from hours)

  part-col : (k : ℕ) → k < n → col part k ≡ col hours (from + k)
  part-col k l = rw (get_or-take, get_or-drop)

  -- the period that begins with an hour of the part
  pub part_period : (hour h : ℕ) → hour + 12 ≤ n → from + hour ≡ h - 1 → sum 12 (λ k. col part (hour + k)) ≡ period_gas (col hours) h
  part_period hour h enough e =
      sum_cong 12 _ _ (λ k l. part-col (hour + k) (omega arith) ∙ ap (col hours) (omega (arith, e)))

  -- the one that begins with its first hour
  pub part-first : (h : ℕ) → 12 ≤ n → from ≡ h - 1 → sum 12 (col part) ≡ period_gas (col hours) h
  part-first h enough e = simp zero-add at (part_period 0 h (omega arith) (omega (arith, e)))

  module _ (inside : from + n ≤ length hours) where
    pub part_length : length part ≡ n
    part_length = simp (length-take, length-drop) (omega arith)

    -- twelve hours, all of them added up
    pub part-gas : {gas : ℕ} (h : ℕ) → n ≡ 12 → from ≡ h - 1 → gas ≡ sum (length part) (col part) → gas ≡ period_gas (col hours) h
    part-gas h twelve e g = g ∙ ap (λ long. sum long (col part)) (part_length ∙ twelve) ∙ part-first h (omega (arith, twelve)) e
