-- A number read byte after byte, or four at once.
use mathlib.Core.Path.{◌≡◌, ap, sym, ◌∙◌}
use mathlib.Core.List.{List, [], ◌∷◌}
use Prim.Native.Nat.{ℕ, ◌+◌, ◌-◌, ◌*◌, ◌/◌, ◌%◌, ◌^◌, ◌≤◌, ◌<◌, min}
use native.Mathlib.Nat.{le_of_lt, lt_of_lt_of_le, pow-le-pow_right}
use native.Mathlib.Numerals.{add-one}
use native.Mathlib.Omega.{arith}
use lib.ListN.{length, take, drop, length-drop, drop_of_length-le}
use lib.Seq.{take-suc, take-nil, drop-cons, length-take-le}
use Rattle.std.specs.Int.{w32, from_le_bytes, swap_bytes}
use Rattle.columns.specs.Column.{col}
use Rattle.bigendian.specs.Number.{value, AreBytes, widest}
use Rattle.bigendian.proofs.Numbers.{value-last, value-take_lt, take-bytes, drop-bytes}

-- ---- the bytes of a list, one after another
module _ (part : List ℕ) (place : ℕ) {number : ℕ} (there : place < length part) (read : number ≡ value (take place part)) where
  pub reading-next : number * 256 + col part place ≡ value (take (place + 1) part)
  reading-next = rw (read, add-one, take-suc part place 0 there, value-last)

  -- there is room for one more while fewer are read than a u32 has
  reading-room : AreBytes part → length part ≤ widest → number * 256 + col part place < 2 ^ 32
  reading-room are few =
      let below = value-take_lt place part are (le_of_lt there) in
      let most = pow-le-pow_right {n = 256} (omega arith) {i = place} {j = 3} (omega (arith, there, few)) in
      omega (arith, read, lt_of_lt_of_le below most, are place)

-- ---- a part of a file
module _ (file : List ℕ) (at count : ℕ) (inside : count ≤ length file - at) where
  part-is : take (at + count - at) (drop at file) ≡ take count (drop at file)
  part-is = let back : at + count - at ≡ count = omega arith in rw back

  pub part-room : AreBytes file → count ≤ widest → (place : ℕ) {number : ℕ} → place < length (take (at + count - at) (drop at file))
      → number ≡ value (take place (take (at + count - at) (drop at file)))
      → number * 256 + col (take (at + count - at) (drop at file)) place < 2 ^ 32
  part-room are few place there read =
      let long = ap length part-is ∙ length-take-le count (drop at file) (rw length-drop (omega (arith, inside))) in
      reading-room _ place there read (take-bytes _ _ (drop-bytes at file are)) (omega (arith, long, few))

-- ---- four bytes at once
module _ (part : List ℕ) (are : AreBytes part) (long : length part ≡ widest) where
  four_bytes : part ≡ col part 0 ∷ col part 1 ∷ col part 2 ∷ col part 3 ∷ []
  four_bytes =
      drop-cons part 0 0 (omega (arith, long))
      ∙ rw (
        drop-cons part 1 0 (omega (arith, long)),
        drop-cons part 2 0 (omega (arith, long)),
        drop-cons part 3 0 (omega (arith, long)),
        drop_of_length-le part {i = 4} (omega (arith, long)),
      )

  -- the number that has them lowest first, swapped
  pub reading-four : {number r : ℕ} → number ≡ from_le_bytes w32 (col part 0 ∷ col part 1 ∷ col part 2 ∷ col part 3 ∷ [])
      → r ≡ swap_bytes w32 number → r ≡ value part
  unfolding value
  reading-four {number} {r} n e =
      let sum : number ≡ col part 0 + col part 1 * 256 + col part 2 * 65536 + col part 3 * 16777216 = n in
      let swapped : r ≡ number % 256 * 16777216 + number / 256 % 256 * 65536 + number / 65536 % 256 * 256 + number / 16777216 % 256 = e in
      let past_first : number / 256 ≡ col part 1 + col part 2 * 256 + col part 3 * 65536 = omega (arith, sum, are 0) in
      let past_second : number / 65536 ≡ col part 2 + col part 3 * 256 = omega (arith, sum, are 0, are 1) in
      let past_third : number / 16777216 ≡ col part 3 = omega (arith, sum, are 0, are 1, are 2) in
      let first : number % 256 ≡ col part 0 = omega (arith, sum, are 0) in
      let second : number / 256 % 256 ≡ col part 1 = rw past_first (omega (arith, are 1)) in
      let third : number / 65536 % 256 ≡ col part 2 = rw past_second (omega (arith, are 2)) in
      let fourth : number / 16777216 % 256 ≡ col part 3 = rw past_third (omega (arith, are 3)) in
      swapped ∙ rw (first, second, third, fourth) (omega arith ∙ ap value (sym four_bytes))

-- ---- past a file's end there is no byte
pub reading-past : (file : List ℕ) (at width : ℕ) → length file ≤ at → 0 ≡ value (take (min width widest) (drop at file))
unfolding value
reading-past file at width h = rw (drop_of_length-le file h, take-nil)
