-- A row has the same share up to where weight × level comes to one gigajoule more, so the rows together have the same total up to the
-- least of these levels.
use mathlib.Core.Path.{◌≡◌, ap}
use mathlib.Core.Logic.{⊎_elim}
use Prim.Native.Nat.{ℕ, ◌+◌, ◌*◌, ◌-◌, ◌/◌, ◌≤◌, ◌<◌}
use native.Mathlib.Nat.{eq-zero-or-pos, div-mul-le_self, le-div_iff_mul-le, lt_of_mul-lt-mul_right}
use native.Mathlib.Omega.{arith}
use borrow.Author.Count.{below_more}
use Rattle.columns.proofs.Sums.{sum_mono}
use Rattle.sharing.specs.Round.{share, total}
use Rattle.sharing.proofs.Levels.{share_mono}

-- a row that is given anything has a weight
pub weighted : (w q t : ℕ) → 0 < share w q t → 0 < w
weighted w q t l = ⊎_elim (λ none. omega (arith, ap (λ k. k * t) none)) (λ some. some) (eq-zero-or-pos w)

-- where the level `last` gives a row more than `low` does, the last level that does not
pub last-same : (w q low last s : ℕ) → s ≡ share w q low → s < share w q last
    → (low ≤ ((s + 1) * 1_000_000 - 1) / w)
    × (((s + 1) * 1_000_000 - 1) / w ≤ last)
    × (share w q (((s + 1) * 1_000_000 - 1) / w) ≤ share w q low)
last-same w q low last s is more = (
  (le-div_iff_mul-le (weighted w q last (omega arith))).1 (omega arith),
  omega (arith, lt_of_mul-lt-mul_right w {m = ((s + 1) * 1_000_000 - 1) / w} {n = last} (omega (arith, under))),
  omega (arith, under),
)
  where
    under : ((s + 1) * 1_000_000 - 1) / w * w ≤ (s + 1) * 1_000_000 - 1
    under = div-mul-le_self ((s + 1) * 1_000_000 - 1) w

-- a loop has lowered `last` so that no row below `row` is given more at it than at `low`
pub record Lasting (n : ℕ) (w q : ℕ → ℕ) (low high row last : ℕ) : Type 0 where
  pub inside : row ≤ n
  pub from : low ≤ last
  pub below : last < high
  pub same : (i : ℕ) → i < row → share (w i) (q i) last ≤ share (w i) (q i) low

module _ (n : ℕ) (w q : ℕ → ℕ) (low high : ℕ) where
  pub lasting_none : low < high → Lasting n w q low high 0 (high - 1)
  lasting_none l = record { inside = omega arith; from = omega arith; below = omega arith; same = λ i k. omega arith }

  module _ {row last : ℕ} (L : Lasting n w q low high row last) where
    pub lasting_next : (next : ℕ) → row < n → low ≤ next → next ≤ last
        → share (w row) (q row) next ≤ share (w row) (q row) low → Lasting n w q low high (row + 1) next
    lasting_next next l from down stays =
        record {
          inside = omega arith;
          from = from;
          below = omega (arith, L.below);
          same =
              below_more (λ i. share (w i) (q i) next ≤ share (w i) (q i) low) row
              (λ i h. omega (arith, share_mono (w i) (q i) down, L.same i h)) stays;
        }

    pub lasting_all : n ≤ row → total n w q last ≤ total n w q low
    lasting_all h = sum_mono n _ _ (λ i l. L.same i (omega arith))
