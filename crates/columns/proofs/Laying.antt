-- A list laid into a lent one element by element, from the front or from the back.
use mathlib.Core.Path.{◌≡◌, refl, ap, ◌∙◌}
use mathlib.Core.List.{List, [], ◌∷◌, ◌++◌}
use Prim.Native.Nat.{ℕ, suc, ◌+◌, ◌≤◌}
use native.Mathlib.Nat.{add-zero, add-suc, suc-add}
use native.Mathlib.Omega.{arith}
use lib.ListN.{length, set, length-set}
use lib.Seq.{sets, set_comm, set_out}

-- past the block's end nothing is laid
pub sets-past : (bytes list : List ℕ) (from : ℕ) → length list ≤ from → sets list from bytes ≡ list
sets-past [] list from h = refl
sets-past (byte ∷ bytes) list from h = rw (set_out list from byte h) (sets-past bytes list (suc from) (omega arith))

-- a byte may be laid before those ahead of it
sets_back : (list : List ℕ) (from byte : ℕ) (ahead : List ℕ)
    → sets (set list (from + length ahead) byte) from ahead ≡ sets list from (ahead ++ (byte ∷ []))
sets_back list from byte [] = rw add-zero
sets_back list from byte (x ∷ ahead) =
    rw (set_comm list (from + suc (length ahead)) from byte x (λ e. omega arith), add-suc, ← suc-add)
    (sets_back (set list from x) (suc from) byte ahead)

-- a loop that lays `bytes` from `at` on has still to lay what is ahead, from `from` on
pub record Laying (bytes lent : List ℕ) (at : ℕ) (ahead list : List ℕ) (from : ℕ) : Type 0 where
  pub finishes : sets list from ahead ≡ sets lent at bytes
  pub long : length list ≡ length lent

pub laying_none : {bytes lent : List ℕ} {at : ℕ} → Laying bytes lent at bytes lent at
laying_none = record { finishes = refl; long = refl }

-- of what is ahead the last byte may be laid next
pub laying_last : {bytes lent ahead list after : List ℕ} {at : ℕ} (byte place : ℕ) → place ≡ length ahead
    → Laying bytes lent at (ahead ++ (byte ∷ [])) list at → after ≡ set list (at + place) byte → Laying bytes lent at ahead after at
laying_last {ahead = ahead} {list = list} {at = at} byte place here L e =
    record {
      finishes = rw (e, here) (sets_back list at byte ahead ∙ L.finishes);
      long = ap length e ∙ length-set list (at + place) byte ∙ L.long;
    }
