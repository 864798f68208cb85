-- What the reader finds is the definition's check, and what it copies are the tables' numbers.
use Rattle.std.specs.Prelude.{Ok, Err}
use mathlib.Core.Path.{◌≡◌, ap, sym, ◌∙◌}
use mathlib.Core.List.{List}
use Prim.Native.Nat.{ℕ, ◌≤◌}
use native.Mathlib.Omega.{arith}
use borrow.Author.Tests.{leb-true}
use lib.Dec.{leb}
use lib.ListN.{length}
use lib.Seq.{sets}
use Rattle.columns.specs.Column.{col, listed}
use Rattle.columns.proofs.Lists.{listed-col}
use Rattle.units.specs.declared.refusal.Refusal.{Refusal}
use Rattle.units.specs.Refusals.{◌then◌, keep, Check}
use Rattle.units.proofs.Checks.{both-accepted, kept}
use Rattle.dayformat.specs.declared.day.Head.{Head}
use Rattle.dayformat.specs.Layout.{numbers_in}
use Rattle.dayruns.specs.declared.walk.Walk.{Walk}
use Rattle.dayruns.specs.Walk.{file_check}
use Rattle.dayruns.proofs.Ending.{faultless}
use Rattle.dayfile.specs.File.{head_of, tables}
use Rattle.dayfile.specs.Private.{Walked}
use Rattle.dayfile.specs.Answer.{reading_check, ReadingAnswered}

-- what stands after the tests: the file walked through, its numbers counted, and what is found
pub record Tested : Type 0 where
  pub file : List ℕ
  pub lent : List ℕ
  pub numbers : List ℕ
  pub walk : Walk
  pub walked : Walked file numbers walk
  pub count : ℕ
  pub counted : count ≡ numbers_in walk.counts
  pub found : Check
  pub finds : found ≡ (file_check walk then keep (leb (numbers_in walk.counts) (length lent)) 7)

module _ (t : Tested) where
  is : t.found ≡ reading_check t.file (length t.lent)
  unfolding reading_check
  is = t.finds ∙ rw t.walked.answers

  pub refuses : (x : Refusal) → t.found ≡ Err x → ReadingAnswered t.file t.lent t.lent (Err x)
  refuses x e = let no = sym is ∙ e in record { answers = rw no; leaves = rw no }

  module _ (yes : t.found ≡ Ok tt) where
    both : (file_check t.walk ≡ Ok tt) × (keep (leb (numbers_in t.walk.counts) (length t.lent)) 7 ≡ Ok tt)
    both = both-accepted (file_check t.walk) (keep (leb (numbers_in t.walk.counts) (length t.lent)) 7) (sym t.finds ∙ yes)

    pub accepted-fits : t.count ≤ length t.lent
    accepted-fits = rw t.counted (leb-true _ _ (kept _ _ both.1))

    sound : t.walk.found ≡ Ok tt
    sound = faultless t.walk both.0

    pub accepted-there : t.count ≤ length t.numbers
    accepted-there = omega (arith, t.counted, t.walked.fits sound)

    copied : listed t.count (col t.numbers) ≡ (tables t.file).numbers
    copied =
        ap (λ f. listed t.count f) (t.walked.holds sound)
        ∙ ap (λ n. listed n (col (tables t.file).numbers)) (t.counted ∙ sym (t.walked.counts sound))
        ∙ listed-col (tables t.file).numbers

    pub reads : {after : List ℕ} {head : Head} → after ≡ sets t.lent 0 (listed t.count (col t.numbers)) → head ≡ head_of t.file
        → ReadingAnswered t.file t.lent after (Ok (record { head = head; counts = t.walk.counts }))
    reads e h =
        let on = sym is ∙ yes in
        record { answers = rw (on, h, t.walked.answers); leaves = rw (on, ← copied) e }
