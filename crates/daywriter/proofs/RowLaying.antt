-- The numbers of a row laid into a block one after another.
use mathlib.Core.Path.{◌≡◌, ap, sym, ◌∙◌}
use mathlib.Core.List.{List}
use Prim.Native.Nat.{ℕ, zero, suc, ◌+◌, ◌-◌, ◌*◌, ◌/◌, ◌%◌, ◌^◌, ◌≤◌, ◌<◌, min}
use native.Mathlib.Nat.{zero-add, suc-add, one-mul, mul_assoc, pow-succ', div-add-mod'}
use native.Mathlib.Numerals.{add-one}
use native.Mathlib.Omega.{arith}
use lib.ListN.{length, drop, drop_of_length-le}
use lib.Seq.{sets, length-sets, drop-cons}
use Rattle.columns.specs.Column.{col}
use Rattle.columns.proofs.Lists.{length-listed, col-listed, sets-append}
use Rattle.columns.proofs.Laying.{Laying, laying_none}
use Rattle.bigendian.specs.Number.{bytes, widest}
use Rattle.bigendian.specs.Row.{encode}
use Rattle.bigendian.proofs.Numbers.{length-bytes, bytes-above}
use Rattle.dayformat.specs.declared.form.Tag.{Tag}
use Rattle.dayformat.specs.declared.body.Column.{Column}
use Rattle.dayformat.specs.Format.{body, column_in, widths, form}
use Rattle.dayformat.specs.DayBytes.{row_from}
use Rattle.dayformat.proofs.Small.{narrow}

-- ---- what a u32 loses of a number leaves no trace in four bytes or fewer
power_both : (k w : ℕ) → 256 ^ (k + w) ≡ 256 ^ k * 256 ^ w
power_both zero w = rw zero-add (sym (one-mul (256 ^ w)))
power_both (suc k) w = rw (suc-add, pow-succ' 256 (k + w), power_both k w, pow-succ', mul_assoc)

bytes_lowest : (w k n : ℕ) → bytes w (n % 256 ^ (k + w)) ≡ bytes w n
bytes_lowest w k n =
    let whole : n ≡ n / 256 ^ (k + w) * 256 ^ k * 256 ^ w + n % 256 ^ (k + w) =
    rw (mul_assoc, ← power_both) (sym (div-add-mod' n (256 ^ (k + w))))
    in sym (ap (bytes w) whole ∙ bytes-above w (n / 256 ^ (k + w) * 256 ^ k) (n % 256 ^ (k + w)))

-- ---- a row's numbers, one after another
module _ (numbers : ℕ → ℕ) (tag : Tag) (from : ℕ) (lent : List ℕ) (at : ℕ) where
  abbrev row : List ℕ
  row = row_from numbers tag from

  -- the numbers from `place` on are still to lay, from `byte` on
  abbrev pub Lays : ℕ → ℕ → List ℕ → Type 0
  Lays place byte list = Laying (encode (widths tag) row) lent at (encode (drop place (widths tag)) (drop place row)) list byte

  pub lays-none : Lays 0 at lent
  lays-none = laying_none

  module _ (place byte : ℕ) {list : List ℕ} (L : Lays place byte list) where
    pub lays-next : {column : Column} {number : ℕ} {after : List ℕ} → place < (form tag).columns → column ≡ column_in (body tag) place
        → number ≡ numbers (from + place) → after ≡ sets list byte (bytes (min column.width widest) (number % 256 ^ widest))
        → Lays (place + 1) (byte + column.width) after
    unfolding encode
    lays-next {column} {number} l is n e =
        let w = column.width in
        let few : w ≤ widest = omega (arith, narrow tag place, ap (λ c. c.width) is) in
        let all : min w widest ≡ w = omega arith in
        let up : widest - w + w ≡ widest = omega arith in
        let laid : bytes (min w widest) (number % 256 ^ widest) ≡ bytes w number = rw all (rw up at (bytes_lowest w (widest - w) number)) in
        let width : col (widths tag) place ≡ w = col-listed _ _ place l ∙ ap (λ c. c.width) (sym is) in
        let figure : col row place ≡ number = col-listed _ _ place l ∙ sym n in
        let head = drop-cons (widths tag) place 0 (rw length-listed l) in
        let tail = drop-cons row place 0 (rw length-listed l) in
        record {
          finishes = rw (e, laid, add-one) (rw (head, tail, width, figure, sets-append, length-bytes) at L.finishes);
          long = rw (e, length-sets) L.long;
        }

    pub lays_all : (form tag).columns ≤ place → list ≡ sets lent at (encode (widths tag) row)
    unfolding encode
    lays_all h =
        let none : length (widths tag) ≤ place = rw length-listed h in
        rw (drop_of_length-le (widths tag) none) at L.finishes
