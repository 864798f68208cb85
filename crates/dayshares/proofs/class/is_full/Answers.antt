-- No schedule is above what its row is given where the first such row would be past them all.
use Rattle.std.proofs.Common.{◌≡◌, ℕ, ◌<◌, ◌≤◌, Bool, true, false, List, length, zip, sym, MatchBool, rules, tests, arith}
use Rattle.std.specs.List.{HoldsAt, AllWithin}
use Rattle.std.proofs.lemmas.Iterator.{cases_from_all, YieldsList-from_zip, YieldsList-from_slice}
use Rattle.std.proofs.lemmas.Slice.Zip.{length-zip, get_or-zip}
use borrow.Author.Tests.{le-ltb, le-leb, lt-leb, ltb-false}
use native.Mathlib.Decide.{dec_lt}
use lib.Dec.{ltb}
use Rattle.columns.specs.Column.{col}
use Rattle.columns.specs.First.{first}
use Rattle.columns.proofs.Firsts.{first-none, first-before}
use Rattle.dayshares.specs.Class.{full}
use Rattle.dayshares.proofs.class.is_full.Goals as goal

abbrev Enough : ℕ × ℕ → Type 0
Enough p = p.0 ≤ p.1

abbrev Short : ℕ × ℕ → Type 0
Short p = p.1 < p.0

module _ (needs had : List ℕ) (fits : length needs ≤ length had) where
  long : length (zip needs had) ≡ length needs
  long = omega (arith, length-zip needs had)

  abbrev short : ℕ → Bool
  short i = ltb (col had i) (col needs i)

  full_by : (r : Bool) → MatchBool r (AllWithin Enough (zip needs had) 0 (length (zip needs had)))
      ((k : ℕ) × (k < length (zip needs had)) × HoldsAt Short (zip needs had) k)
      → r ≡ full (length needs) (col needs) (col had)
  full_by true enough =
      let none = first-none short (length needs)
      (λ k l. le-ltb _ _ (rw (get_or-zip needs had k (0, 0) l (omega arith)) at (enough k (0, 0) (omega arith) (omega (arith, long))))) in
      sym (le-leb _ _ (omega (arith, none)))
  full_by false (k, l, h) =
      let here = rw (get_or-zip needs had k (0, 0) (omega (arith, long)) (omega (arith, long))) at (h (0, 0)) in
      let stops : first (length needs) short < length needs =
      elim (dec_lt k (first (length needs) short)) [
        | yes before ↦ absurd (omega (arith, ltb-false _ _ (first-before short (length needs) k before), here))
        | no past ↦ omega (arith, long)
      ] in
      sym (lt-leb _ _ stops)

pub returns : goal.returns
returns c =
    let needs = c.args.schedule.now in
    let had = c.args.given.now in
    full_by needs had c.requires c.all.result
    (cases_from_all {v = λ p. (p.0.now, p.1.now)} c.all.new.self _ _ Enough Short c.all.ensures.ran
    (YieldsList-from_zip (YieldsList-from_slice needs cc) (YieldsList-from_slice had cc))
    (λ x q k. search (rules, tests))
    (λ x q k. search (rules, tests)))
