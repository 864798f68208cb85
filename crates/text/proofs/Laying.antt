-- Bytes laid one after another, from the front or from the back.
use mathlib.Core.Path.{◌≡◌, refl, ap, sym, ◌∙◌}
use mathlib.Core.List.{List, [], ◌++◌, append_assoc}
use Prim.Native.Nat.{ℕ, zero, suc, ◌+◌, ◌-◌, ◌/◌, ◌≤◌, ◌<◌, min}
use native.Mathlib.Nat.{add-zero, add-suc}
use native.Mathlib.Numerals.{add-one, sub-one}
use native.Mathlib.Decide.{dec_lt}
use native.Mathlib.Omega.{arith}
use borrow.Rule.Slice.PartMut.{put_mid, Post-is}
use lib.ListN.{length, set, take, drop, length-append, length-set, take-append-drop, drop_of_length-le}
use lib.Seq.{sets, sets-eq, length-sets, take_all, length-take-le, drop-cons}
use Rattle.columns.specs.Column.{col}
use Rattle.columns.proofs.Lists.{sets-append}
use Rattle.columns.proofs.Laying.{Laying, laying_none, laying_last, sets-past}
use Rattle.text.specs.Text.{last_digit, decimal, Laid}
use Rattle.text.proofs.Decimals.{decimal-one, decimal-more, length_more, some_byte, one_digit, more_digits}

-- for callers: what is laid where another text ended makes one text with it
pub laid_both : {xs ys lent between after : List ℕ} {at m n : ℕ}
    → Laid xs lent at m between → Laid ys between (at + m) n after → Laid (xs ++ ys) lent at (m + n) after
laid_both {xs} {ys} {lent} {between} {after} {at} a b =
    record {
      counts = omega (arith, a.counts, b.counts, length-append xs ys);
      lays = b.lays ∙ rw (a.lays, a.counts) (sym (sets-append xs ys lent at));
    }

-- ---- for callers: a word, from its first byte on
module _ (bytes lent : List ℕ) (at : ℕ) where
  pub word_none : Laying bytes lent at bytes lent (at + 0)
  word_none = rw add-zero laying_none

  module _ (place : ℕ) {list : List ℕ} (L : Laying bytes lent at (drop place bytes) list (at + place)) where
    pub word_next : {after : List ℕ} → place < length bytes → after ≡ set list (at + place) (col bytes place)
        → Laying bytes lent at (drop (place + 1) bytes) after (at + (place + 1))
    word_next l e =
        record {
          finishes = rw (e, add-one, add-suc) (rw (drop-cons bytes place 0 l) at L.finishes);
          long = ap length e ∙ length-set list (at + place) (col bytes place) ∙ L.long;
        }

    pub word-all : length bytes ≤ place → list ≡ sets lent at bytes
    word-all h = rw (drop_of_length-le bytes h) at L.finishes

-- ---- a word, as far as the block goes: what lies past its end is dropped
-- from the block's end on nothing is laid
pub nothing_laid : {bytes lent : List ℕ} {at r : ℕ} → length lent ≤ at → r ≡ length bytes → Laid bytes lent at r lent
nothing_laid {bytes} {lent} {at} h e = record { counts = e; lays = sym (sets-past bytes lent at h) }

module _ (bytes lent : List ℕ) (at : ℕ) where
  cut-laid : (count : ℕ) → count ≡ min (length bytes) (length lent - at) → sets lent at bytes ≡ sets lent at (take count bytes)
  cut-laid count few = by (dec_lt count (length bytes))
    where
      by : Dec (count < length bytes) → sets lent at bytes ≡ sets lent at (take count bytes)
      by (yes l) =
          ap (sets lent at) (sym (take-append-drop count bytes))
          ∙ sets-append (take count bytes) (drop count bytes) lent at
          ∙ sets-past (drop count bytes) (sets lent at (take count bytes)) (at + length (take count bytes))
          (omega (arith, few, length-sets lent at (take count bytes), length-take-le count bytes (omega (arith, l))))
      by (no h) = ap (sets lent at) (sym (take_all count bytes (omega arith)))

  pub word_there : (count : ℕ) {part : List ℕ} → at < length lent → count ≡ min (length bytes) (length lent - at)
      → part ≡ take count bytes → put_mid at (at + count - at) lent part ≡ sets lent at bytes
  word_there count {part} here few is =
      let long : length part ≡ count = ap length is ∙ length-take-le count bytes (omega (arith, few)) in
      let behind = Post-is at (at + count) lent (omega arith) in
      rw (behind, ← append_assoc)
      (sym
      (cut-laid count few ∙ rw (← is) (sets-eq part lent at (omega (arith, long, few)) ∙ rw long)))

-- ---- a number, from its last digit on
-- the digits still to lay are those of the rest, and at the end there are none
abbrev pub ahead : ℕ → ℕ → List ℕ
ahead zero rest = []
ahead (suc left) rest = decimal rest

pub record Left (number : ℕ) (lent : List ℕ) (at left rest : ℕ) (list : List ℕ) : Type 0 where
  pub counts : left ≡ length (ahead left rest)
  pub lays : Laying (decimal number) lent at (ahead left rest) list at

module _ {number : ℕ} {lent : List ℕ} {at : ℕ} where
  pub number_none : (left : ℕ) → left ≡ length (decimal number) → Left number lent at left number lent
  number_none zero e = absurd (omega (arith, e, some_byte number))
  number_none (suc left) e = record { counts = e; lays = laying_none }

  number-less : (left rest : ℕ) {list after : List ℕ} → suc left ≡ length (decimal rest)
      → Laying (decimal number) lent at (decimal rest) list at → after ≡ set list (at + left) (last_digit rest)
      → Left number lent at left (rest / 10) after
  number-less zero rest n L e =
      let last = decimal-one rest (one_digit rest (omega (arith, n))) in
      record { counts = refl; lays = laying_last (last_digit rest) 0 refl (rw last at L) e }
  number-less (suc left) rest n L e =
      let more : 9 < rest = more_digits rest (omega (arith, n)) in
      let fewer : suc left ≡ length (decimal (rest / 10)) = omega (arith, n, length_more rest more) in
      record { counts = fewer; lays = laying_last (last_digit rest) (suc left) fewer (rw (decimal-more rest more) at L) e }

  pub number-next : (left rest : ℕ) {list after : List ℕ} → 0 < left → Left number lent at left rest list
      → after ≡ set list (at + (left - 1)) (last_digit rest) → Left number lent at (left - 1) (rest / 10) after
  number-next zero rest l L e = absurd (omega arith)
  number-next (suc left) rest l L e = rw sub-one (number-less left rest L.counts L.lays (rw sub-one at e))

  pub number-all : (left rest : ℕ) {list : List ℕ} → left ≤ 0 → Left number lent at left rest list → list ≡ sets lent at (decimal number)
  number-all zero rest h L = L.lays.finishes
  number-all (suc left) rest h L = absurd (omega arith)
