-- The laws of a row and its bytes: over any widths each undoes the other, and what follows the row is left alone.
use mathlib.Core.Path.{◌≡◌, refl, ap, ◌∙◌}
use mathlib.Core.List.{List, [], ◌∷◌, ◌++◌}
use Prim.Native.Nat.{ℕ, zero, suc, ◌^◌, ◌≤◌, ◌<◌, suc-le-suc}
use native.Mathlib.Omega.{arith}
use lib.ListN.{length, take, drop, length-append, length-drop}
use lib.Seq.{take_at, drop_at, length-take-le, take-add, take-append-le, drop-append-le}
use Rattle.columns.specs.Column.{col}
use Rattle.bigendian.specs.Number.{bytes, AreBytes}
use Rattle.bigendian.specs.Row.{size, decode, encode, Fit}
use Rattle.bigendian.proofs.Numbers.{length-bytes, value-bytes, bytes-value, value-take_lt, drop-bytes, take-bytes}

pub length-decode : (ws list : List ℕ) → length (decode ws list) ≡ length ws
unfolding decode
length-decode [] list = refl
length-decode (w ∷ ws) list = ap suc (length-decode ws (drop w list))

pub length-encode : (ws ns : List ℕ) → length ns ≡ length ws → length (encode ws ns) ≡ size ws
unfolding encode size
length-encode [] ns e = refl
length-encode (w ∷ ws) [] e = absurd (omega (arith, e))
length-encode (w ∷ ws) (n ∷ ns) e = rw (length-append, length-bytes, length-encode ws ns (omega (arith, e)))

-- ---- where the bytes of a row are there, so are those of its first number and of the rest
module _ (w : ℕ) (ws list : List ℕ) (l : size (w ∷ ws) ≤ length list) where
  first-there : w ≤ length list
  unfolding size
  first-there = omega (arith, l)

  rest-there : size ws ≤ length (drop w list)
  unfolding size
  rest-there = rw length-drop (omega (arith, l))

-- ---- going on after the row
pub decode-past : (ws list rest : List ℕ) → size ws ≤ length list → decode ws (list ++ rest) ≡ decode ws list
unfolding decode
decode-past [] list rest l = refl
decode-past (w ∷ ws) list rest l =
    let first = first-there w ws list l in
    rw (
      take-append-le w list rest first,
      drop-append-le w list rest first,
      decode-past ws (drop w list) rest (rest-there w ws list l),
    )

pub encode-past : (ws ns rest : List ℕ) → length ns ≡ length ws → drop (size ws) (encode ws ns ++ rest) ≡ rest
encode-past ws ns rest e = drop_at (encode ws ns) rest (size ws) (length-encode ws ns e)

-- ---- there and back
fit_rest : {w n : ℕ} {ws ns : List ℕ} → Fit (w ∷ ws) (n ∷ ns) → Fit ws ns
fit_rest F = record { as_many = omega (arith, F.as_many); below = λ i l. F.below (suc i) (suc-le-suc l) }

pub decode-encode : (ws ns : List ℕ) → Fit ws ns → decode ws (encode ws ns) ≡ ns
unfolding decode encode
decode-encode [] [] F = refl
decode-encode [] (n ∷ ns) F = absurd (omega (arith, F.as_many))
decode-encode (w ∷ ws) [] F = absurd (omega (arith, F.as_many))
decode-encode (w ∷ ws) (n ∷ ns) F =
    rw (
      take_at (bytes w n) (encode ws ns) w (length-bytes w n),
      drop_at (bytes w n) (encode ws ns) w (length-bytes w n),
      value-bytes w n (F.below 0 (omega arith)),
      decode-encode ws ns (fit_rest F),
    )

pub decode-encode-past : (ws ns rest : List ℕ) → Fit ws ns → decode ws (encode ws ns ++ rest) ≡ ns
decode-encode-past ws ns rest F =
    decode-past ws (encode ws ns) rest (omega (arith, length-encode ws ns F.as_many)) ∙ decode-encode ws ns F

pub encode-decode : (ws list : List ℕ) → AreBytes list → size ws ≤ length list → encode ws (decode ws list) ≡ take (size ws) list
unfolding decode encode size
encode-decode [] list are l = refl
encode-decode (w ∷ ws) list are l =
    rw (
      bytes-value w (take w list) (take-bytes w list are) (length-take-le w list (first-there w ws list l)),
      encode-decode ws (drop w list) (drop-bytes w list are) (rest-there w ws list l),
      take-add,
    )

pub fit_decode : (ws list : List ℕ) → AreBytes list → size ws ≤ length list → Fit ws (decode ws list)
unfolding decode
fit_decode ws list are l = record { as_many = length-decode ws list; below = below ws list are l }
  where
    below : (ws list : List ℕ) → AreBytes list → size ws ≤ length list
        → (i : ℕ) → i < length ws → col (decode ws list) i < 256 ^ col ws i
    below [] list are l i k = absurd (omega arith)
    below (w ∷ ws) list are l zero k = value-take_lt w list are (first-there w ws list l)
    below (w ∷ ws) list are l (suc i) k = below ws (drop w list) (drop-bytes w list are) (rest-there w ws list l) i (omega arith)
