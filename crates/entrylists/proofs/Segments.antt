-- A test that marks rows of one segment only is searched there as in the whole; and lists one after another, cut out of more.
use mathlib.Core.Path.{◌≡◌, ap, sym, ◌∙◌}
use mathlib.Core.Logic.{⊎_elim}
use mathlib.Core.Bool.{Bool, true, false, not}
use mathlib.Core.List.{List}
use Prim.Native.Nat.{ℕ, ◌+◌, ◌-◌, ◌*◌, ◌≤◌, ◌<◌}
use native.Mathlib.Nat.{eq-or-lt_of_le, add_assoc}
use native.Mathlib.Decide.{dec_lt}
use native.Mathlib.Omega.{arith}
use lib.ListN.{length, take, drop}
use lib.Seq.{take_at, drop_at}
use Rattle.columns.specs.Column.{joined}
use Rattle.columns.specs.First.{first}
use Rattle.columns.proofs.Firsts.{first_found, first-none, first_le, first-before, first-marked}
use Rattle.columns.proofs.Joined.{joined_same, joined-more, length-joined}

-- the rows past so many change nothing where the first of them is marked
first_longer : (p : ℕ → Bool) (m n : ℕ) → m ≤ n → (m < n → p m ≡ true) → first n p ≡ first m p
first_longer p m n h past = ⊎_elim last found (eq-or-lt_of_le (first_le p m))
  where
    found : first m p < m → first n p ≡ first m p
    found l = first_found p n (first m p) (omega (arith, h, l)) (λ k b. first-before p m k b) (first-marked p m l)

    none : (k : ℕ) → first m p ≡ m → k < m → p k ≡ false
    none k e l = first-before p m k (omega (arith, e, l))

    last : first m p ≡ m → first n p ≡ first m p
    last e =
        ⊎_elim (λ same. ap (λ n. first n p) (sym same))
        (λ more. first_found p n m more (λ k l. none k e l) (past more) ∙ sym e) (eq-or-lt_of_le h)

-- ---- a test of `all` rows that marks none before `from` and none from `from + many` on
module _ (p : ℕ → Bool) (from many all : ℕ) (inside : from + many ≤ all) (before : (row : ℕ) → row < from → p row ≡ false)
    (after : (row : ℕ) → from + many ≤ row → row < all → p row ≡ false) where
  abbrev start : ℕ
  start = first many (λ i. p (from + i))

  abbrev long : ℕ
  long = first (many - start) (λ more. not (p (from + (start + more))))

  abbrev whole_start : ℕ
  whole_start = first all p

  abbrev whole_long : ℕ
  whole_long = first (all - whole_start) (λ more. not (p (whole_start + more)))

  unmarked : (end row : ℕ) → end ≤ start → row < from + end → p row ≡ false
  unmarked end row h l = by (dec_lt row from)
    where
      by : Dec (row < from) → p row ≡ false
      by (yes k) = before row k
      by (no k) =
          let at : from + (row - from) ≡ row = omega (arith, k) in
          ap p (sym at) ∙ first-before (λ i. p (from + i)) many (row - from) (omega (arith, h, l, k))

  -- the segment has none of them: nor has the whole
  module _ (none : start ≡ many) where
    whole-none : whole_start ≡ all
    whole-none = first-none p all (λ row l. by row l (dec_lt row (from + many)))
      where
        by : (row : ℕ) → row < all → Dec (row < from + many) → p row ≡ false
        by row l (yes k) = unmarked many row (omega (arith, none)) k
        by row l (no k) = after row (omega (arith, k)) l

    long-none : (long ≡ 0) × (whole_long ≡ 0)
    long-none = (
      omega (arith, none, first_le (λ more. not (p (from + (start + more)))) (many - start)),
      omega (arith, whole-none, first_le (λ more. not (p (whole_start + more))) (all - whole_start)),
    )

  -- it has some: they are those of the whole
  module _ (some : start < many) where
    pub whole-some : whole_start ≡ from + start
    whole-some =
        first_found p all (from + start) (omega (arith, some, inside)) (λ row l. unmarked start row (omega arith) l)
        (first-marked (λ i. p (from + i)) many some)

    pub long-some : whole_long ≡ long
    long-some =
        let shifted : whole_long ≡ first (all - (from + start)) (λ more. not (p (from + start + more))) =
        ap (λ row. first (all - row) (λ more. not (p (row + more)))) whole-some in
        let regrouped : first (all - (from + start)) (λ more. not (p (from + start + more)))
        ≡ first (all - (from + start)) (λ more. not (p (from + (start + more)))) = simp add_assoc
        in shifted ∙ regrouped
        ∙ first_longer (λ more. not (p (from + (start + more)))) (many - start) (all - (from + start)) (omega (arith, inside))
        (λ l. ap not (after (from + (start + (many - start))) (omega (arith, some)) (omega (arith, l, some))))

  pub segment_alike : (g : ℕ → List ℕ) → joined long (λ k. g (from + (start + k))) ≡ joined whole_long (λ k. g (whole_start + k))
  unfolding joined
  segment_alike g = ⊎_elim none some (eq-or-lt_of_le (first_le (λ i. p (from + i)) many))
    where
      none : start ≡ many → joined long (λ k. g (from + (start + k))) ≡ joined whole_long (λ k. g (whole_start + k))
      none e =
          ap (λ n. joined n (λ k. g (from + (start + k)))) (long-none e).0
          ∙ sym (ap (λ n. joined n (λ k. g (whole_start + k))) (long-none e).1)

      some : start < many → joined long (λ k. g (from + (start + k))) ≡ joined whole_long (λ k. g (whole_start + k))
      some l =
          joined_same long _ _ (λ k h. ap g (omega (arith, whole-some l)))
          ∙ ap (λ n. joined n (λ k. g (whole_start + k))) (sym (long-some l))

-- ---- of lists one after another, each as long: so many from the front, those behind, and a part in between
module _ (g : ℕ → List ℕ) (long : ℕ) (each : (i : ℕ) → length (g i) ≡ long) where
  pub joined-front : (m n : ℕ) → m ≤ n → take (m * long) (joined n g) ≡ joined m g
  joined-front m n h =
      let all : m + (n - m) ≡ n = omega (arith, h) in
      ap (λ n. take (m * long) (joined n g)) (sym all)
      ∙ ap (take (m * long)) (joined-more g m (n - m))
      ∙ take_at (joined m g) (joined (n - m) (λ i. g (m + i))) (m * long) (length-joined g long each m)

  pub joined-behind : (m n : ℕ) → m ≤ n → drop (m * long) (joined n g) ≡ joined (n - m) (λ i. g (m + i))
  joined-behind m n h =
      let all : m + (n - m) ≡ n = omega (arith, h) in
      ap (λ n. drop (m * long) (joined n g)) (sym all)
      ∙ ap (drop (m * long)) (joined-more g m (n - m))
      ∙ drop_at (joined m g) (joined (n - m) (λ i. g (m + i))) (m * long) (length-joined g long each m)

pub joined-part : (g : ℕ → List ℕ) (long : ℕ) → ((i : ℕ) → length (g i) ≡ long) → (from many n : ℕ) → from + many ≤ n
    → take (many * long) (drop (from * long) (joined n g)) ≡ joined many (λ i. g (from + i))
joined-part g long each from many n h =
    ap (take (many * long)) (joined-behind g long each from n (omega (arith, h)))
    ∙ joined-front (λ i. g (from + i)) long (λ i. each (from + i)) many (n - from) (omega (arith, h))
