-- A walk's fault decides its check. Anyone can make a walk, so the check's theorem asks that its fault has one of 01's numbers; the
-- fault of a run has one of 1 to 5, and so has that of what follows it.
use Rattle.std.specs.Prelude.{Ok, Err, is_ok}
use mathlib.Core.Path.{◌≡◌, refl, sym}
use mathlib.Core.Bool.{Bool, true, false, cond}
use mathlib.Core.List.{List}
use Prim.Native.Nat.{ℕ, suc, ◌+◌, ◌≤◌}
use native.Mathlib.Omega.{arith}
use lib.Dec.{T, leb, ltb, eqb, lit≤}
use lib.ListN.{length, take, drop}
use Rattle.columns.specs.Column.{col}
use Rattle.units.specs.declared.refusal.Refusal.{Refusal}
use Rattle.units.specs.Refusals.{at_byte, Check}
use Rattle.units.specs.Verdict.{of_check, Numbered, Decided}
use Rattle.units.proofs.Checks.{no_acceptance, refusal_is}
use Rattle.units.proofs.Verdicts.{Refuses, AllNumbered, checked}
use Rattle.bigendian.specs.Number.{value}
use Rattle.dayformat.specs.declared.form.Tag.{Tag}
use Rattle.dayformat.specs.declared.layout.Counts.{Counts}
use Rattle.dayformat.specs.Format.{field_size, form}
use Rattle.dayrows.specs.declared.Source.{Source}
use Rattle.dayrows.specs.declared.Test.TheVariants as Test
use Rattle.dayrows.specs.declared.fault.Fault.{Fault}
use Rattle.dayrows.specs.declared.fault.Fault.TheVariants.{Cut, Foreign, Beyond, Key, Mdq}
use Rattle.dayrows.specs.Fault.{Found, number}
use Rattle.dayrows.specs.Test.{passes, fault}
use Rattle.dayrows.specs.Whole.{broken}
use Rattle.dayrows.proofs.Finding.{fault-not-none}
use Rattle.dayruns.specs.declared.walk.Walk.{Walk}
use Rattle.dayruns.specs.Run.{Fields, place_of, field_fault, begun, run_rows, run_of}
use Rattle.dayruns.specs.Walk.{ended, refused_at, file_check}

-- what the refusal of a walk has
pub refuses_walk : (P : Refusal → Type 0) (walk : Walk)
    → ((fault : Fault) → walk.found ≡ Err fault → P (at_byte (number fault) walk.place)) → Refuses P (file_check walk)
refuses_walk P walk p = by walk.found p
  where
    by : (found : Found) → ((fault : Fault) → found ≡ Err fault → P (at_byte (number fault) walk.place))
        → Refuses P (refused_at walk.place found)
    by (Ok x) p refusal is = no_acceptance (sym is)
    by (Err fault) p refusal is = rw (← refusal_is is) (p fault refl)

-- a fault that is found has a number from 1 to a highest
abbrev pub UpTo : ℕ → Found → Type 0
UpTo most found = (fault : Fault) → found ≡ Err fault → (1 ≤ number fault) × (number fault ≤ most)

pub walk_numbered : (walk : Walk) → UpTo 11 walk.found → AllNumbered (file_check walk)
walk_numbered walk numbered =
    refuses_walk Numbered walk (λ fault is. let told = numbered fault is in record { least = told.0; most = told.1 })

pub walk_decided : (walk : Walk) → UpTo 11 walk.found → {found : Check} → found ≡ file_check walk
    → Decided (file_check walk) tt tt (of_check found)
walk_decided walk numbered = checked (walk_numbered walk numbered)

-- ---- the numbers that a run can find: 1 and 2 of a field, 3, 5 and 4 of its row
abbrev pub Known : Found → Type 0
Known = UpTo 5

pub known-numbered : {found : Found} → Known found → UpTo 11 found
known-numbered known fault is = let told = known fault is in (told.0, omega (arith, told.1))

fault_is : {x y : Fault} → ◌≡◌ {A = Found} (Err x) (Err y) → x ≡ y
fault_is e = cc

known : (fault : Fault) → T (leb 1 (number fault)) → T (leb (number fault) 5) → Known (Err fault)
known fault least most other is = rw (← fault_is is) (lit≤ least, lit≤ most)

nothing : Known (Ok tt)
nothing fault is = absurd (fault-not-none (sym is))

either : (first : Bool) {m n : Found} → Known m → Known n → Known (cond first m n)
either true one other = one
either false one other = other

broken-known : (file : List ℕ) (tag : Tag) (at : ℕ) → Known (broken file tag at)
unfolding broken
broken-known file tag at =
    either (ltb (length file) (at + 3)) (known Cut tt tt)
    (either (cond (eqb (col file at) (form tag).byte) (eqb (value (take 2 (drop (at + 1) file))) (form tag).size) false)
    (either (ltb (length file) (at + field_size tag)) (known Cut tt tt) nothing)
    (known Foreign tt tt))

row-known : (source : Source) (counts : Counts) (numbers : ℕ → ℕ) (tag : Tag) (row : ℕ) → Known (fault source counts numbers tag row)
unfolding fault
row-known source counts numbers tag row =
    either (passes Test.Bounds source counts numbers tag row)
    (either (passes Test.Key source counts numbers tag row)
    (either (passes Test.Mdq source counts numbers tag row) nothing (known Mdq tt tt))
    (known Key tt tt))
    (known Beyond tt tt)

module _ (F : Fields) (read : ℕ → ℕ → ℕ) where
  pub field-known : (row : ℕ) → Known (field_fault F read row)
  unfolding field_fault
  field-known row =
      either (is_ok (broken F.file F.tag (place_of F row)))
      (row-known F.source F.counts (read (suc row)) F.tag row)
      (broken-known F.file F.tag (place_of F row))

  pub run-known : Known (run_of F read).found
  run-known = either (begun F.file F.tag (place_of F (run_rows F read))) (field-known (run_rows F read)) nothing

-- at the end a walk is as it was, or what follows it is refused where it begins
pub ended-has : (P : Walk → Type 0) (file : List ℕ) (walk : Walk) → P walk
    → ((fault : Fault) → Known (Err fault) → P (record { found = Err fault; place = walk.place; counts = walk.counts }))
    → P (ended file walk)
unfolding ended
ended-has P file walk p more =
    by (is_ok walk.found) (leb (length file) walk.place) (ltb (length file) (walk.place + 3))
  where
    by : (sound all cut : Bool)
        → P (cond sound
        (cond all walk (record { found = cond cut (Err Cut) (Err Foreign); place = walk.place; counts = walk.counts }))
        walk)
    by true true cut = p
    by true false true = more Cut (known Cut tt tt)
    by true false false = more Foreign (known Foreign tt tt)
    by false all cut = p
