-- What follows a run begins with another tag, or there is nothing.
use mathlib.Core.Path.{◌≡◌, refl, ap}
use mathlib.Core.Bool.{true, false}
use mathlib.Core.List.{List, [], ◌∷◌, ◌++◌, append-nil}
use Prim.Native.Nat.{ℕ, zero, suc, ◌<◌}
use native.Mathlib.Nat.{le_step, lt-suc_self}
use native.Mathlib.Omega.{arith}
use borrow.Author.Tests.{lt-ltb, le-ltb, eq-eqb, ne_eqb}
use lib.ListN.{length, length-append}
use lib.Seq.{get_or_at}
use Rattle.columns.specs.Column.{col, joined}
use Rattle.dayformat.specs.declared.form.Tag.{Tag}
use Rattle.dayformat.specs.Format.{form}
use Rattle.dayrows.proofs.Breaking.{Whole}
use Rattle.dayruns.specs.Run.{begun}

abbrev pub Apart : ℕ → List ℕ → Type 0
Apart byte [] = Unit {0}
Apart byte (first ∷ rest) = first ≡ byte → ⊥

apart-append : (byte : ℕ) (list rest : List ℕ) → Apart byte list → Apart byte rest → Apart byte (list ++ rest)
apart-append byte [] rest first then = then
apart-append byte (x ∷ list) rest first then = first

pub apart-joined : (byte n : ℕ) (f : ℕ → List ℕ) → ((i : ℕ) → i < n → Apart byte (f i)) → Apart byte (joined n f)
unfolding joined
apart-joined byte zero f each = tt
apart-joined byte (suc n) f each =
    apart-append byte (joined n f) (f n) (apart-joined byte n f (λ i l. each i (le_step l))) (each n (lt-suc_self n))

pub begun-apart : (ahead rest : List ℕ) (tag : Tag) → Apart (form tag).byte rest → begun (ahead ++ rest) tag (length ahead) ≡ false
unfolding begun
begun-apart ahead [] tag apart =
    rw (le-ltb (length ahead) (length (ahead ++ [])) (omega (arith, ap length (append-nil ahead))))
begun-apart ahead (first ∷ rest) tag apart =
    rw (
      lt-ltb (length ahead) (length (ahead ++ (first ∷ rest))) (omega (arith, length-append ahead (first ∷ rest))),
      get_or_at ahead first rest 0 (length ahead) refl,
      ne_eqb first (form tag).byte apart,
    )

-- where a whole field stands, one begins
pub whole-begun : (file : List ℕ) (tag : Tag) (at : ℕ) → Whole file tag at → begun file tag at ≡ true
unfolding begun
whole-begun file tag at W =
    rw (lt-ltb at (length file) (omega (arith, W.there)), eq-eqb (col file at) (form tag).byte W.tagged)
