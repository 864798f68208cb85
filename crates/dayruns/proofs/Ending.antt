-- What follows the last field, and what a walk without a fault says.
use Rattle.std.specs.Prelude.{Ok, Err, is_ok}
use mathlib.Core.Path.{◌≡◌, refl}
use mathlib.Core.Bool.{Bool, true, false, cond}
use mathlib.Core.List.{List}
use Prim.Native.Nat.{ℕ, ◌+◌, ◌-◌, ◌≤◌, ◌<◌}
use native.Mathlib.Omega.{arith}
use borrow.Author.Tests.{lt-ltb, le-ltb, lt-leb, leb-true}
use lib.Dec.{leb, ltb}
use lib.ListN.{length}
use Rattle.units.proofs.Checks.{no_acceptance}
use Rattle.dayrows.specs.declared.fault.Fault.TheVariants.{Cut, Foreign}
use Rattle.dayrows.specs.Fault.{Found}
use Rattle.dayrows.proofs.Finding.{fault-not-none, none-ok, ok-none, not_ok-some}
use Rattle.dayruns.specs.declared.walk.Walk.{Walk}
use Rattle.dayruns.specs.Walk.{ended, refused_at, file_check}

-- what follows the last field
module _ (file : List ℕ) (walk : Walk) (none : walk.found ≡ Ok tt) (more : walk.place < length file) where
  pub ended-cut : length file - walk.place < 3 → record { found = Err Cut; place = walk.place; counts = walk.counts } ≡ ended file walk
  unfolding ended
  ended-cut l =
      rw (none-ok none, lt-leb (length file) walk.place more, lt-ltb (length file) (walk.place + 3) (omega (arith, l)))

  pub ended-other : 3 ≤ length file - walk.place
      → record { found = Err Foreign; place = walk.place; counts = walk.counts } ≡ ended file walk
  unfolding ended
  ended-other l =
      rw (none-ok none, lt-leb (length file) walk.place more, le-ltb (length file) (walk.place + 3) (omega (arith, l)))

-- ---- the end: a file without a fault has none before, and nothing left
module _ (file : List ℕ) (walk : Walk) where
  pub ended-none : (ended file walk).found ≡ Ok tt → (walk.found ≡ Ok tt) × (length file ≤ walk.place) × (ended file walk ≡ walk)
  unfolding ended
  ended-none = by (is_ok walk.found) (leb (length file) walk.place) (ltb (length file) (walk.place + 3)) refl refl
    where
      left : Bool → Walk
      left cut = record { found = cond cut (Err Cut) (Err Foreign); place = walk.place; counts = walk.counts }

      by : (sound all cut : Bool) → is_ok walk.found ≡ sound → leb (length file) walk.place ≡ all
          → (cond sound (cond all walk (left cut)) walk).found ≡ Ok tt
          → (walk.found ≡ Ok tt) × (length file ≤ walk.place) × (cond sound (cond all walk (left cut)) walk ≡ walk)
      by false all cut s a e = absurd (not_ok-some _ s e)
      by true true cut s a e = (ok-none _ s, leb-true _ _ a, refl)
      by true false true s a e = absurd (fault-not-none e)
      by true false false s a e = absurd (fault-not-none e)

-- a file is accepted only without a fault
pub faultless : (walk : Walk) → file_check walk ≡ Ok tt → walk.found ≡ Ok tt
faultless walk = by walk.found
  where
    by : (found : Found) → refused_at walk.place found ≡ Ok tt → found ≡ Ok tt
    by (Ok x) e = refl
    by (Err fault) e = no_acceptance e
