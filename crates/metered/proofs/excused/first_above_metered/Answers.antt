-- Where not all hours keep within those metered, the search over both lists side by side stops at the first beyond.
use Rattle.std.proofs.Common.{◌≡◌, ℕ, ◌<◌, ◌≤◌, false, List, length, zip, Option, Some, None, sym, ◌∙◌, rules, tests, arith}
use Rattle.std.specs.List.{HoldsAt, AllWithin}
use Rattle.std.specs.Option.{MatchOption, unwrap_or}
use Rattle.std.proofs.lemmas.Iterator.{IsFirst-from_position, YieldsList-from_zip, YieldsList-from_slice}
use Rattle.std.proofs.lemmas.Slice.Zip.{length-zip, get_or-zip}
use borrow.Author.Tests.{lt-ltb, le-ltb}
use lib.Dec.{ltb}
use Rattle.columns.specs.Column.{col}
use Rattle.columns.proofs.Firsts.{first-none, first_found}
use Rattle.metered.specs.Excused.{both_have, first_above_metered}
use Rattle.metered.proofs.excused.first_above_metered.Goals as goal

abbrev Above : ℕ × ℕ → Type 0
Above p = p.0 < p.1

abbrev Kept : ℕ × ℕ → Type 0
Kept p = p.1 ≤ p.0

module _ (metered excused : List ℕ) where
  abbrev hours : List (ℕ × ℕ)
  hours = zip metered excused

  many : length hours ≡ both_have metered excused
  many = length-zip metered excused

  kept_at : (upto k : ℕ) → AllWithin Kept hours 0 upto → upto ≤ length hours → k < upto → ltb (col metered k) (col excused k) ≡ false
  kept_at upto k h most l =
      le-ltb _ _ (rw (get_or-zip metered excused k (0, 0) (omega (arith, many)) (omega (arith, many))) at (h k (0, 0) (omega arith) l))

  found : (r : Option ℕ)
      → MatchOption r (AllWithin Kept hours 0 (length hours)) (λ i. (i < length hours) × HoldsAt Above hours i × AllWithin Kept hours 0 i)
      → unwrap_or r (both_have metered excused) ≡ first_above_metered metered excused
  found None kept = sym (first-none _ _ (λ k l. kept_at (length hours) k kept (omega arith) (omega (arith, many))))
  found (Some i) (l, here, before) =
      sym
      (first_found _ _ i (omega (arith, many)) (λ k h. kept_at i k before (omega arith) h)
      (lt-ltb _ _ (rw (get_or-zip metered excused i (0, 0) (omega (arith, many)) (omega (arith, many))) at (here (0, 0)))))

pub returns-then-excused_keep : goal.returns-then-excused_keep
returns-then-excused_keep c = c.min-hours.ensures ∙ c.excused_keep.ensures c.if-excused_keep.true

pub returns : goal.returns
returns c =
    let metered = c.args.metered.now in
    let excused = c.args.excused.now in
    c.unwrap_or.ensures ∙ rw c.min-hours.ensures
    (found metered excused c.position.result
    (IsFirst-from_position {v = λ p. (p.0.now, p.1.now)} c.position.new.self _ _ Above Kept c.position.ensures.ran
    (YieldsList-from_zip (YieldsList-from_slice metered cc) (YieldsList-from_slice excused cc))
    (λ x q k. search (rules, tests))
    (λ x q k. search (rules, tests))))
