-- The first test that a row fails.
use mathlib.Core.Path.{◌≡◌, refl}
use mathlib.Core.Bool.{Bool, true, false, cond}
use Prim.Native.Nat.{ℕ}
use Rattle.std.specs.Prelude.{Ok, Err}
use Rattle.dayformat.specs.declared.form.Tag.{Tag}
use Rattle.dayformat.specs.declared.layout.Counts.{Counts}
use Rattle.dayrows.specs.declared.fault.Fault.TheVariants as Fault
use Rattle.dayrows.specs.declared.Source.{Source}
use Rattle.dayrows.specs.declared.Source.TheVariants.{File}
use Rattle.dayrows.specs.declared.Test.{Test}
use Rattle.dayrows.specs.declared.Test.TheVariants.{Bounds, Key, Mdq}
use Rattle.dayrows.specs.Fault.{Found}
use Rattle.dayrows.specs.Test.{passes, fault}
use Rattle.dayrows.proofs.Finding.{fault-not-none}

-- there is no fault only where every test passes
all-passed : (bounds key mdq : Bool)
    → ◌≡◌ {A = Found} (cond bounds (cond key (cond mdq (Ok tt) (Err Fault.Mdq)) (Err Fault.Key)) (Err Fault.Beyond)) (Ok tt)
    → (bounds ≡ true) × (key ≡ true) × (mdq ≡ true)
all-passed true true true none = (refl, refl, refl)
all-passed true true false none = absurd (fault-not-none none)
all-passed true false mdq none = absurd (fault-not-none none)
all-passed false key mdq none = absurd (fault-not-none none)

module _ (source : Source) (counts : Counts) (numbers : ℕ → ℕ) (tag : Tag) (row : ℕ) where
  abbrev passed : Test → Bool
  passed test = passes test source counts numbers tag row

  abbrev found : Found
  found = fault source counts numbers tag row

  pub fault-none : found ≡ Ok tt → (test : Test) → passed test ≡ true
  unfolding fault
  fault-none none Bounds = (all-passed (passed Bounds) (passed Key) (passed Mdq) none).0
  fault-none none Key = (all-passed (passed Bounds) (passed Key) (passed Mdq) none).1
  fault-none none Mdq = (all-passed (passed Bounds) (passed Key) (passed Mdq) none).2

  pub none-fault : ((test : Test) → passed test ≡ true) → found ≡ Ok tt
  unfolding fault
  none-fault all = rw (all Bounds, all Key, all Mdq)

  -- the test of MDQs does not ask where rows stand
  pub mdq_any : passed Mdq ≡ passes Mdq File counts numbers tag row
  unfolding passes
  mdq_any = refl
