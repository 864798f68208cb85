-- Where a field is broken off, or is another's.
use mathlib.Core.Path.{◌≡◌, refl, ap, sym, ◌∙◌}
use mathlib.Core.Bool.{Bool, true, false, cond}
use mathlib.Core.List.{List}
use Prim.Native.Nat.{ℕ, ◌+◌, ◌-◌, ◌≤◌, ◌<◌}
use native.Mathlib.Omega.{arith}
use borrow.Author.Tests.{lt-ltb, le-ltb, eq-eqb, ne_eqb, ltb-false, eqb-true}
use lib.Dec.{ltb, eqb}
use Rattle.std.specs.Prelude.{Ok, Err}
use lib.ListN.{length, take, drop}
use Rattle.columns.specs.Column.{col}
use Rattle.bigendian.specs.Number.{value}
use Rattle.dayformat.specs.declared.form.Tag.{Tag}
use Rattle.dayformat.specs.declared.form.Form.{Form}
use Rattle.dayformat.specs.Format.{field_size, form}
use Rattle.dayrows.specs.declared.fault.Fault.TheVariants.{Cut, Foreign}
use Rattle.dayrows.specs.Fault.{Found}
use Rattle.dayrows.specs.Whole.{broken}
use Rattle.dayrows.proofs.Finding.{fault-not-none}

-- past the file there is no header
pub past : (file : List ℕ) (tag : Tag) (at : ℕ) → length file < at → Err Cut ≡ broken file tag at
unfolding broken
past file tag at l = rw (lt-ltb (length file) (at + 3) (omega arith))

module _ (file : List ℕ) (tag : Tag) (at : ℕ) (inside : at ≤ length file) where
  pub header-cut : length file - at < 3 → Err Cut ≡ broken file tag at
  unfolding broken
  header-cut l = rw (lt-ltb (length file) (at + 3) (omega arith))

  module _ {F : Form} (is : F ≡ form tag) (whole : 3 ≤ length file - at) where
    pub other_tag : (col file at ≡ F.byte → ⊥) → Err Foreign ≡ broken file tag at
    unfolding broken
    other_tag h =
        rw (
          le-ltb (length file) (at + 3) (omega arith),
          ne_eqb (col file at) (form tag).byte (λ e. h (e ∙ sym (ap (λ f. f.byte) is))),
        )

    module _ (same : col file at ≡ F.byte) {long : ℕ} (read : long ≡ value (take 2 (drop (at + 1) file))) where
      pub other_length : (long ≡ F.size → ⊥) → Err Foreign ≡ broken file tag at
      unfolding broken
      other_length h =
          rw (
            le-ltb (length file) (at + 3) (omega arith),
            eq-eqb (col file at) (form tag).byte (same ∙ ap (λ f. f.byte) is),
            ← read,
            ne_eqb long (form tag).size (λ e. h (e ∙ sym (ap (λ f. f.size) is))),
          )

      module _ (length_is : long ≡ F.size) where
        pub body-cut : length file - at < 3 + F.size → Err Cut ≡ broken file tag at
        unfolding broken
        body-cut l =
            rw (
              le-ltb (length file) (at + 3) (omega arith),
              eq-eqb (col file at) (form tag).byte (same ∙ ap (λ f. f.byte) is),
              ← read,
              eq-eqb long (form tag).size (length_is ∙ ap (λ f. f.size) is),
              lt-ltb (length file) (at + (3 + (form tag).size)) (omega (arith, ap (λ f. f.size) is)),
            )

        pub unbroken : 3 + F.size ≤ length file - at → Ok tt ≡ broken file tag at
        unfolding broken
        unbroken l =
            rw (
              le-ltb (length file) (at + 3) (omega arith),
              eq-eqb (col file at) (form tag).byte (same ∙ ap (λ f. f.byte) is),
              ← read,
              eq-eqb long (form tag).size (length_is ∙ ap (λ f. f.size) is),
              le-ltb (length file) (at + (3 + (form tag).size)) (omega (arith, ap (λ f. f.size) is)),
            )

-- ---- a field that is not broken stands there whole, and the other way round
pub record Whole (file : List ℕ) (tag : Tag) (at : ℕ) : Type 0 where
  pub there : at + field_size tag ≤ length file
  pub tagged : col file at ≡ (form tag).byte
  pub sized : value (take 2 (drop (at + 1) file)) ≡ (form tag).size

module _ (file : List ℕ) (tag : Tag) (at : ℕ) where
  pub broken-none : broken file tag at ≡ Ok tt → Whole file tag at
  unfolding broken
  broken-none =
      by (ltb (length file) (at + 3)) (eqb (col file at) (form tag).byte) (eqb (value (take 2 (drop (at + 1) file))) (form tag).size)
      (ltb (length file) (at + field_size tag)) refl refl refl
    where
      by : (header tagged sized body : Bool) → eqb (col file at) (form tag).byte ≡ tagged
          → eqb (value (take 2 (drop (at + 1) file))) (form tag).size ≡ sized → ltb (length file) (at + field_size tag) ≡ body
          → ◌≡◌ {A = Found} (cond header (Err Cut) (cond (cond tagged sized false) (cond body (Err Cut) (Ok tt)) (Err Foreign))) (Ok tt)
          → Whole file tag at
      by true tagged sized body t s b e = absurd (fault-not-none e)
      by false false sized body t s b e = absurd (fault-not-none e)
      by false true false body t s b e = absurd (fault-not-none e)
      by false true true true t s b e = absurd (fault-not-none e)
      by false true true false t s b e =
          record { there = ltb-false _ _ b; tagged = eqb-true _ _ t; sized = eqb-true _ _ s }

  pub whole-none : Whole file tag at → broken file tag at ≡ Ok tt
  unfolding broken
  whole-none W =
      rw (
        le-ltb (length file) (at + 3) (omega (arith, W.there)),
        eq-eqb (col file at) (form tag).byte W.tagged,
        eq-eqb (value (take 2 (drop (at + 1) file))) (form tag).size W.sized,
        le-ltb (length file) (at + field_size tag) W.there,
      )
