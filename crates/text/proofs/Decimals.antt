-- The laws of a number's spelling.
use mathlib.Core.Path.{◌≡◌, refl, ap, sym, ◌∙◌}
use mathlib.Core.List.{List, [], ◌∷◌, ◌++◌}
use mathlib.Core.Logic.{⊎_elim}
use Prim.Native.Nat.{ℕ, zero, suc, ◌+◌, ◌-◌, ◌*◌, ◌/◌, ◌^◌, ◌≤◌, ◌<◌, max}
use native.Mathlib.Nat.{pow-suc, one-le-pow, le_of_suc-le-suc, eq-or-lt_of_le}
use native.Mathlib.Numerals.{add-one}
use native.Mathlib.Decide.{dec_lt}
use native.Mathlib.Omega.{arith}
use lib.ListN.{length, length-append, get_or-append}
use lib.Seq.{get_or_at}
use Rattle.columns.specs.Column.{col}
use Rattle.text.specs.Text.{last_digit, digits, decimal, value_after, value}

-- ---- below ten a number is its digit; from ten on it is its tens and its last digit
-- as many digits as the number counts are enough
enough : (f g n : ℕ) → n ≤ f → n ≤ g → digits f n ≡ digits g n
unfolding digits
enough zero zero zero h k = refl
enough zero (suc g) zero h k = refl
enough (suc f) zero zero h k = refl
enough (suc f) (suc g) zero h k = refl
enough zero g (suc n) h k = absurd (omega arith)
enough (suc f) zero (suc n) h k = absurd (omega arith)
enough (suc f) (suc g) (suc n) h k =
    ap (λ ds. ds ++ (last_digit (suc n) ∷ [])) (enough f g (suc n / 10) (omega arith) (omega arith))

digits-some : (f n : ℕ) → 0 < n → n ≤ f → digits f n ≡ decimal n
unfolding digits decimal
digits-some f zero h k = absurd (omega arith)
digits-some zero (suc n) h k = absurd (omega arith)
digits-some (suc f) (suc n) h k =
    ap (λ ds. ds ++ (last_digit (suc n) ∷ [])) (enough f (suc n) (suc n / 10) (omega arith) (omega arith))

pub decimal-one : (n : ℕ) → n ≤ 9 → decimal n ≡ last_digit n ∷ []
unfolding digits decimal
decimal-one n h =
    let none : n / 10 ≡ 0 = omega arith in
    ap (λ ds. ds ++ (last_digit n ∷ [])) (ap (digits n) none ∙ enough n 0 0 (omega arith) (omega arith))

pub decimal-more : (n : ℕ) → 9 < n → decimal n ≡ decimal (n / 10) ++ (last_digit n ∷ [])
unfolding digits decimal
decimal-more n h = ap (λ ds. ds ++ (last_digit n ∷ [])) (digits-some n (n / 10) (omega arith) (omega arith))

one_or_more : {X : Type 0} (n : ℕ) → (n ≤ 9 → X) → (9 < n → X) → X
one_or_more {X} n one more = by (dec_lt 9 n)
  where
    by : Dec (9 < n) → X
    by (yes l) = more l
    by (no h) = one (omega arith)

-- so what holds of the numbers below ten, and of a number where it holds of its tens, holds of all
by_tens : (P : ℕ → Type 0) → ((n : ℕ) → n ≤ 9 → P n) → ((n : ℕ) → 9 < n → P (n / 10) → P n) → (n : ℕ) → P n
by_tens P one more n = go n n (omega arith)
  where
    go : (most n : ℕ) → n ≤ most → P n
    go zero n h = one n (omega arith)
    go (suc most) n h = one_or_more n (one n) (λ l. more n l (go most (n / 10) (omega arith)))

-- ---- how long it is
pub length-one : (n : ℕ) → n ≤ 9 → length (decimal n) ≡ 1
length-one n h = rw (decimal-one n h)

pub length_more : (n : ℕ) → 9 < n → length (decimal n) ≡ length (decimal (n / 10)) + 1
length_more n h = rw (decimal-more n h) (length-append (decimal (n / 10)) (last_digit n ∷ []))

pub some_byte : (n : ℕ) → 1 ≤ length (decimal n)
some_byte = by_tens (λ n. 1 ≤ length (decimal n)) (λ n h. omega (arith, length-one n h)) (λ n h p. omega (arith, length_more n h))

-- one digit spells a number below ten, and more digits spell one from ten on
pub one_digit : (n : ℕ) → length (decimal n) ≤ 1 → n ≤ 9
one_digit n h = one_or_more n (λ l. l) (λ l. omega (arith, length_more n l, some_byte (n / 10)))

pub more_digits : (n : ℕ) → 1 < length (decimal n) → 9 < n
more_digits n h = one_or_more n (λ l. omega (arith, length-one n l)) (λ l. l)

-- so many digits are enough for a number below that power of ten
pub length-below : (k n : ℕ) → n < 10 ^ suc k → length (decimal n) ≤ suc k
length-below zero n h = omega (arith, length-one n (omega arith))
length-below (suc k) n h =
    one_or_more n (λ l. omega (arith, length-one n l))
    (λ l. omega (arith, length_more n l, length-below k (n / 10) (omega (arith, pow-suc 10 (suc k)))))

-- and from that power of ten on one more is needed
length-from : (k n : ℕ) → 10 ^ k ≤ n → suc k ≤ length (decimal n)
length-from zero n h = some_byte n
length-from (suc k) n h =
    let tens : 10 ^ suc k ≡ 10 ^ k * 10 = pow-suc 10 k in
    let some : 1 ≤ 10 ^ k = one-le-pow k 10 (omega arith) in
    omega (arith, length_more n (omega (arith, tens, some)), length-from k (n / 10) (omega (arith, tens)))

-- so the power of ten that a number reaches says how long it is, and zero is as long as one
pub length-reached : (n k : ℕ) → 10 ^ k ≤ max n 1 → max n 1 < 10 * 10 ^ k → k + 1 ≡ length (decimal n)
length-reached n k reached below = by (dec_lt 0 n)
  where
    by : Dec (0 < n) → k + 1 ≡ length (decimal n)
    by (yes l) =
        let tens : 10 ^ suc k ≡ 10 ^ k * 10 = pow-suc 10 k in
        omega (arith, tens, length-below k n (omega (arith, tens)), length-from k n (omega arith))
    by (no h) = none k (omega arith) (omega arith)
      where
        none : (k : ℕ) → n ≤ 0 → 10 ^ k ≤ 1 → k + 1 ≡ length (decimal n)
        none zero zeros one = omega (arith, length-one n (omega arith))
        none (suc k) zeros one = omega (arith, pow-suc 10 k, one-le-pow k 10 (omega arith))

pub at_most_twenty : (n : ℕ) → n < 2 ^ 64 → length (decimal n) ≤ 20
at_most_twenty n h = length-below 19 n (omega arith)

-- ---- every byte is a digit, and the first is zero's for zero alone
abbrev pub Digit : ℕ → Type 0
Digit byte = (48 ≤ byte) × (byte ≤ 57)

all-last : (xs : List ℕ) (x : ℕ) → ((i : ℕ) → i < length xs → Digit (col xs i)) → Digit x
    → (i : ℕ) → i < length (xs ++ (x ∷ [])) → Digit (col (xs ++ (x ∷ [])) i)
all-last xs x all d i l =
    ⊎_elim (λ e. rw (get_or_at xs x [] 0 i (sym e)) d) (λ k. rw (get_or-append xs (x ∷ []) 0 i k) (all i k))
    (eq-or-lt_of_le (le_of_suc-le-suc (simp (length-append, add-one) at l)))

pub all_digits : (n i : ℕ) → i < length (decimal n) → Digit (col (decimal n) i)
all_digits = by_tens (λ n. (i : ℕ) → i < length (decimal n) → Digit (col (decimal n) i)) one more
  where
    one : (n : ℕ) → n ≤ 9 → (i : ℕ) → i < length (decimal n) → Digit (col (decimal n) i)
    one n h = rw (decimal-one n h) (all-last [] (last_digit n) (λ i l. absurd (omega arith)) (omega arith, omega arith))

    more : (n : ℕ) → 9 < n → ((i : ℕ) → i < length (decimal (n / 10)) → Digit (col (decimal (n / 10)) i))
        → (i : ℕ) → i < length (decimal n) → Digit (col (decimal n) i)
    more n h p = rw (decimal-more n h) (all-last (decimal (n / 10)) (last_digit n) p (omega arith, omega arith))

pub no_leading_zero : (n : ℕ) → 0 < n → 48 < col (decimal n) 0
no_leading_zero = by_tens (λ n. 0 < n → 48 < col (decimal n) 0) one more
  where
    one : (n : ℕ) → n ≤ 9 → 0 < n → 48 < col (decimal n) 0
    one n h l = rw (decimal-one n h) (omega arith)

    more : (n : ℕ) → 9 < n → (0 < n / 10 → 48 < col (decimal (n / 10)) 0) → 0 < n → 48 < col (decimal n) 0
    more n h p l = rw (decimal-more n h, get_or-append (decimal (n / 10)) (last_digit n ∷ []) 0 0 (some_byte (n / 10))) (p (omega arith))

-- ---- the digits spell the number, so different numbers are spelled differently
value-last : (above : ℕ) (bytes : List ℕ) (byte : ℕ)
    → value_after above (bytes ++ (byte ∷ [])) ≡ value_after above bytes * 10 + (byte - 48)
unfolding value_after
value-last above [] byte = refl
value-last above (b ∷ bytes) byte = value-last (above * 10 + (b - 48)) bytes byte

pub value-decimal : (n : ℕ) → value (decimal n) ≡ n
unfolding value_after
value-decimal = by_tens (λ n. value (decimal n) ≡ n) one more
  where
    one : (n : ℕ) → n ≤ 9 → value (decimal n) ≡ n
    one n h = rw (decimal-one n h) (omega arith)

    more : (n : ℕ) → 9 < n → value (decimal (n / 10)) ≡ n / 10 → value (decimal n) ≡ n
    more n h p = rw (decimal-more n h, value-last, p) (omega arith)

pub decimal_injective : (m n : ℕ) → decimal m ≡ decimal n → m ≡ n
decimal_injective m n e = sym (value-decimal m) ∙ ap value e ∙ value-decimal n
