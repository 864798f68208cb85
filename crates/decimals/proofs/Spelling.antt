-- The first byte of a word that is no digit, and what its first digits spell, up to the first number beyond a bound.
use Rattle.std.specs.Prelude.{Ok}
use mathlib.Core.Path.{◌≡◌, refl, ap, sym, ◌∙◌}
use mathlib.Core.Bool.{not}
use mathlib.Core.List.{List, [], ◌∷◌}
use Prim.Native.Nat.{ℕ, zero, suc, ◌+◌, ◌-◌, ◌*◌, ◌≤◌, ◌<◌, min}
use native.Mathlib.Numerals.{add-one}
use native.Mathlib.Decide.{dec_lt}
use native.Mathlib.Omega.{arith}
use borrow.Author.Tests.{leb-true, le-leb, lt-leb, lt-ltb, le-ltb}
use lib.Dec.{leb}
use lib.ListN.{length, take}
use lib.Seq.{take_all}
use Rattle.std.specs.Char.{is_ascii_digit}
use Rattle.std.specs.List.{position_or_len}
use Rattle.columns.specs.Column.{col}
use Rattle.columns.specs.First.{first}
use Rattle.columns.proofs.Firsts.{first-same, position-first}
use Rattle.units.proofs.Checks.{both-accepted, kept}
use Rattle.text.specs.Text.{value_after, value}
use Rattle.decimals.specs.Word.{is_digit, word_check}

-- ---- the library's digits are those of a word
digit-is : (byte : ℕ) → is_ascii_digit byte ≡ is_digit byte
unfolding is_digit
digit-is byte = by (dec_lt byte 48)
  where
    by : Dec (byte < 48) → is_ascii_digit byte ≡ is_digit byte
    by (yes l) = rw (lt-leb 48 byte l, lt-ltb byte 48 l)
    by (no h) = rw (le-leb 48 byte (omega arith), le-ltb byte 48 (omega arith))

-- so its search finds the first byte that is none
pub first-other : (word : List ℕ) → position_or_len (λ byte. not (is_ascii_digit byte)) word
    ≡ first (length word) (λ place. not (is_digit (col word place)))
first-other word =
    position-first (λ byte. not (is_ascii_digit byte)) word
    ∙ first-same (length word) _ _ (λ i l. ap not (digit-is (col word i)))

-- ---- one digit more
value-more : (above : ℕ) (word : List ℕ) (place : ℕ) → place < length word
    → value_after above (take (suc place) word) ≡ value_after above (take place word) * 10 + (col word place - 48)
unfolding value_after
value-more above [] place l = absurd (omega arith)
value-more above (byte ∷ word) zero l = refl
value-more above (byte ∷ word) (suc place) l = value-more (above * 10 + (byte - 48)) word place (omega arith)

-- a number beyond the bound stays beyond it
capped : (spelled most digit : ℕ) → min (min spelled (most + 1) * 10 + digit) (most + 1) ≡ min (spelled * 10 + digit) (most + 1)
capped spelled most digit = by (dec_lt most spelled)
  where
    by : Dec (most < spelled) → min (min spelled (most + 1) * 10 + digit) (most + 1) ≡ min (spelled * 10 + digit) (most + 1)
    by (yes l) = omega arith
    by (no h) = omega arith

pub record Spelled (word : List ℕ) (most number place : ℕ) : Type 0 where
  pub inside : place ≤ length word
  pub low : number ≤ most + 1
  pub is : number ≡ min (value (take place word)) (most + 1)

module _ (word : List ℕ) (most : ℕ) where
  pub spelled_none : Spelled word most 0 0
  unfolding value_after
  spelled_none = record { inside = omega arith; low = omega arith; is = omega arith }

  pub spelled-more : {number next place : ℕ} → Spelled word most number place → place < length word
      → next ≡ min (number * 10 + (col word place - 48)) (most + 1) → Spelled word most next (place + 1)
  spelled-more {number} {next} {place} S l e =
      let more : value (take (place + 1) word) ≡ value (take place word) * 10 + (col word place - 48) =
      rw add-one (value-more 0 word place l)
      in
      record {
        inside = omega arith;
        low = omega (arith, e);
        is = rw (more, e, S.is) (capped (value (take place word)) most (col word place - 48));
      }

  pub spelled-all : {number place : ℕ} → Spelled word most number place → length word ≤ place → number ≡ min (value word) (most + 1)
  spelled-all {number} {place} S h = S.is ∙ rw (take_all place word h)

-- ---- within the bound the capped number is the word's, beyond it both are
module _ (spelled most : ℕ) {number : ℕ} (is : number ≡ min spelled (most + 1)) where
  pub same_test : leb number most ≡ leb spelled most
  same_test = by (dec_lt most spelled)
    where
      by : Dec (most < spelled) → leb number most ≡ leb spelled most
      by (yes l) = lt-leb number most (omega (arith, is)) ∙ sym (lt-leb spelled most l)
      by (no h) = le-leb number most (omega (arith, is)) ∙ sym (le-leb spelled most (omega arith))

  pub same_number : spelled ≤ most → number ≡ spelled
  same_number h = omega (arith, is)

pub spells_within : (word : List ℕ) (most : ℕ) → word_check word most ≡ Ok tt → value word ≤ most
unfolding word_check
spells_within word most e = leb-true _ _ (kept _ _ (both-accepted _ _ e).1)
