-- The laws of a number and its bytes.
use mathlib.Core.Path.{◌≡◌, refl, ap, ap₂, sym, ◌∙◌}
use mathlib.Core.List.{List, [], ◌∷◌, ◌++◌}
use Prim.Native.Nat.{ℕ, zero, suc, ◌+◌, ◌*◌, ◌/◌, ◌%◌, ◌^◌, ◌≤◌, ◌<◌}
use native.Mathlib.Nat.{pow-suc, pow-succ', mod-eq_of_lt, mul_assoc, add_comm, add-mul-div_right, div-div-eq-div-mul, div-one}
use native.Mathlib.Numerals.{add-one}
use native.Mathlib.Omega.{arith}
use lib.ListN.{length, take, drop, length-append}
use lib.Arith.{digits_lt, digits_div, mod-mul}
use lib.Seq.{length-take-le, get_or-drop}
use Rattle.bigendian.specs.Number.{value, bytes, AreBytes}

power_some : (w : ℕ) → 0 < 256 ^ w
power_some zero = omega arith
power_some (suc w) = rw pow-suc (omega (arith, power_some w))

-- ---- bytes, and what a part of them is
pub drop-bytes : (n : ℕ) (list : List ℕ) → AreBytes list → AreBytes (drop n list)
drop-bytes n list are i = rw (get_or-drop n list i 0) (are (n + i))

pub take-bytes : (n : ℕ) (list : List ℕ) → AreBytes list → AreBytes (take n list)
take-bytes zero list are i = omega arith
take-bytes (suc n) [] are i = omega arith
take-bytes (suc n) (b ∷ list) are zero = are 0
take-bytes (suc n) (b ∷ list) are (suc i) = take-bytes n list (λ j. are (suc j)) i

-- ---- what a number's bytes are
pub length-bytes : (w n : ℕ) → length (bytes w n) ≡ w
unfolding bytes
length-bytes zero n = refl
length-bytes (suc w) n = ap suc (length-bytes w n)

pub bytes-are : (w n : ℕ) → AreBytes (bytes w n)
unfolding bytes
bytes-are zero n i = omega arith
bytes-are (suc w) n zero = omega arith
bytes-are (suc w) n (suc i) = bytes-are w n i

-- the last byte is what 256 leaves, and those before it spell how often 256 goes
pub bytes-last : (w n : ℕ) → bytes (suc w) n ≡ bytes w (n / 256) ++ (n % 256 ∷ [])
unfolding bytes
bytes-last zero n = ap (λ k. k % 256 ∷ []) (div-one n)
bytes-last (suc w) n =
    ap₂ (λ k rest. k % 256 ∷ rest) (rw pow-succ' (sym (div-div-eq-div-mul n 256 (256 ^ w)))) (bytes-last w n)

-- what lies above the width leaves no trace
pub bytes-above : (w k n : ℕ) → bytes w (k * 256 ^ w + n) ≡ bytes w n
unfolding bytes
bytes-above zero k n = refl
bytes-above (suc w) k n =
    let split : k * 256 ^ suc w + n ≡ k * 256 * 256 ^ w + n = rw (pow-succ', mul_assoc) in
    let goes : (k * 256 * 256 ^ w + n) / 256 ^ w ≡ n / 256 ^ w + k * 256 =
    ap (λ m. m / 256 ^ w) (add_comm (k * 256 * 256 ^ w) n) ∙ add-mul-div_right n (k * 256) (power_some w)
    in rw split (ap₂ (λ byte rest. byte ∷ rest) (rw goes (omega arith)) (bytes-above w (k * 256) n))

-- ---- what bytes spell
pub value_lt : (list : List ℕ) → AreBytes list → value list < 256 ^ length list
unfolding value
value_lt [] are = omega arith
value_lt (b ∷ list) are = rw pow-succ' (digits_lt (are 0) (value_lt list (λ i. are (suc i))))

pub value-take_lt : (w : ℕ) (list : List ℕ) → AreBytes list → w ≤ length list → value (take w list) < 256 ^ w
value-take_lt w list are l = rw length-take-le at (value_lt (take w list) (take-bytes w list are))

-- one byte more
pub value-last : (list : List ℕ) (byte : ℕ) → value (list ++ (byte ∷ [])) ≡ value list * 256 + byte
unfolding value
value-last [] byte = omega arith
value-last (b ∷ list) byte =
    ap₂ (λ k rest. b * 256 ^ k + rest) (length-append list (byte ∷ []) ∙ add-one (length list)) (value-last list byte)
    ∙ rw (pow-suc, ← mul_assoc) (omega arith)

-- ---- there and back; of a number too large there comes back what its lowest bytes spell
pub value_lowest : (w n : ℕ) → value (bytes w n) ≡ n % 256 ^ w
unfolding value bytes
value_lowest zero n = omega arith
value_lowest (suc w) n = rw (length-bytes w n, value_lowest w n, pow-succ') (sym (mod-mul n {m = 256} (omega arith) (power_some w)))

pub value-bytes : (w n : ℕ) → n < 256 ^ w → value (bytes w n) ≡ n
value-bytes w n h = value_lowest w n ∙ mod-eq_of_lt h

all-bytes : (list : List ℕ) → AreBytes list → bytes (length list) (value list) ≡ list
unfolding value bytes
all-bytes [] are = refl
all-bytes (b ∷ list) are =
    let lower = value_lt list (λ i. are (suc i)) in
    rw (digits_div b lower, mod-eq_of_lt (are 0), bytes-above (length list) b (value list), all-bytes list (λ i. are (suc i)))

pub bytes-value : (w : ℕ) (list : List ℕ) → AreBytes list → length list ≡ w → bytes w (value list) ≡ list
bytes-value w list are e = ap (λ k. bytes k (value list)) (sym e) ∙ all-bytes list are
