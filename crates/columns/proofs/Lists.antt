-- A column as a list, and as what a loop writes to a lent list row by row.
use mathlib.Core.Path.{◌≡◌, refl, ap, sym, ◌∙◌, fun_ext}
use mathlib.Core.Logic.{⊎_elim}
use mathlib.Core.List.{List, [], ◌∷◌, ◌++◌, append-nil}
use Prim.Native.Nat.{ℕ, zero, suc, ◌+◌, ◌-◌, ◌≤◌, ◌<◌}
use native.Mathlib.Nat.{le_antisymm, eq-or-lt_of_le, le_of_suc-le-suc, lt-suc_self, le_step, add-suc, suc-add, add-zero, zero-add}
use native.Mathlib.Numerals.{add-one}
use native.Mathlib.Decide.{dec_lt}
use native.Mathlib.Omega.{arith}
use lib.ListN.{length, get_or, take, drop, set, length-append, length-set, drop_of_length-le, get_or-append, get_or-eq_default}
use lib.Seq.{sets, sets-eq, length-sets, ext_get_or, get_or_at, get_or-drop, get_or-append-add, take_at, drop_at}
use Rattle.columns.specs.Column.{col, listed}
use Rattle.columns.specs.Sum.{sum}
use Rattle.columns.proofs.Sums.{sum_cong}

pub length-listed : {X : Type 0} (n : ℕ) (f : ℕ → X) → length (listed n f) ≡ n
unfolding listed
length-listed zero f = refl
length-listed (suc n) f = length-append (listed n f) (f n ∷ []) ∙ ap (λ k. k + 1) (length-listed n f) ∙ add-one n

pub get_or-listed : {X : Type 0} (n : ℕ) (f : ℕ → X) (i : ℕ) (past : X) → i < n → get_or (listed n f) i past ≡ f i
unfolding listed
get_or-listed zero f i past l = absurd (omega arith)
get_or-listed (suc n) f i past l =
    let last = get_or_at (listed n f) (f n) [] past n (length-listed n f) in
    ⊎_elim (λ e. ap (λ k. get_or (listed n f ++ (f n ∷ [])) k past) e ∙ last ∙ ap f (sym e))
    (λ k. get_or-append (listed n f) (f n ∷ []) past i (rw length-listed k) ∙ get_or-listed n f i past k)
    (eq-or-lt_of_le (le_of_suc-le-suc l))

-- what holds of each row, and of what stands past them, holds at every place
pub listed-each : {X : Type 0} (P : X → Type 0) (n : ℕ) (f : ℕ → X) (past : X) → ((i : ℕ) → i < n → P (f i)) → P past
    → (i : ℕ) → P (get_or (listed n f) i past)
listed-each P n f past each after i = by (dec_lt i n)
  where
    by : Dec (i < n) → P (get_or (listed n f) i past)
    by (yes l) = rw (get_or-listed n f i past l) (each i l)
    by (no h) = rw (get_or-eq_default (listed n f) past {n = i} (rw length-listed (omega arith))) after

pub col-listed : (n : ℕ) (f : ℕ → ℕ) (i : ℕ) → i < n → col (listed n f) i ≡ f i
col-listed n f i l = get_or-listed n f i 0 l

-- a column that is zero past its rows is what its list holds
pub col-whole : (n : ℕ) (f : ℕ → ℕ) → ((i : ℕ) → n ≤ i → f i ≡ 0) → col (listed n f) ≡ f
col-whole n f zeros = fun_ext (λ i. by i (dec_lt i n))
  where
    by : (i : ℕ) → Dec (i < n) → col (listed n f) i ≡ f i
    by i (yes l) = col-listed n f i l
    by i (no h) = get_or-eq_default (listed n f) 0 (rw length-listed (omega arith)) ∙ sym (zeros i (omega arith))

-- columns that agree on the rows are one list
pub listed_same : (n : ℕ) (f g : ℕ → ℕ) → ((i : ℕ) → i < n → f i ≡ g i) → listed n f ≡ listed n g
unfolding listed
listed_same zero f g h = refl
listed_same (suc n) f g h = rw (listed_same n f g (λ i l. h i (le_step l)), h n (lt-suc_self n))

pub listed-col : (xs : List ℕ) → listed (length xs) (col xs) ≡ xs
listed-col xs =
    ext_get_or 0 (listed (length xs) (col xs)) xs (length-listed (length xs) (col xs))
    (λ i l. col-listed (length xs) (col xs) i (rw length-listed at l))

-- ---- stores to a lent list, row after row; two runs of stores, one after the other, are one
pub sets-append : {X : Type 0} (xs ys l : List X) (i : ℕ) → sets l i (xs ++ ys) ≡ sets (sets l i xs) (i + length xs) ys
sets-append [] ys l i = rw add-zero
sets-append (x ∷ xs) ys l i = sets-append xs ys (set l i x) (suc i) ∙ rw (add-suc, suc-add)

-- a loop has written the rows of f below `row` to the front of a lent list
pub record Filling {X : Type 0} (lent : List X) (f : ℕ → X) (row : ℕ) (list : List X) : Type 0 where
  pub front : list ≡ sets lent 0 (listed row f)
  pub long : length list ≡ length lent

module _ {X : Type 0} (lent : List X) (f : ℕ → X) where
  pub filling_none : Filling lent f 0 lent
  unfolding listed
  filling_none = record { front = refl; long = refl }

  sets-next : (row : ℕ) → sets lent 0 (listed (row + 1) f) ≡ set (sets lent 0 (listed row f)) row (f row)
  unfolding listed
  sets-next row = rw add-one (sets-append (listed row f) (f row ∷ []) lent 0 ∙ rw (zero-add, length-listed))

  pub filling_next : (row : ℕ) (list : List X) (figure : X) → Filling lent f row list → figure ≡ f row
      → Filling lent f (row + 1) (set list row figure)
  filling_next row list figure F e =
      record { front = rw (F.front, e) (sym (sets-next row)); long = length-set list row figure ∙ F.long }

  pub filling_all : (n row : ℕ) (list : List X) → Filling lent f row list → row ≤ n → n ≤ row → list ≡ sets lent 0 (listed n f)
  filling_all n row list F h k = F.front ∙ ap (λ m. sets lent 0 (listed m f)) (le_antisymm h k)

-- ---- what a filled list holds
sets-front : {X : Type 0} (n : ℕ) (f : ℕ → X) (l : List X) → n ≤ length l → sets l 0 (listed n f) ≡ listed n f ++ drop n l
sets-front n f l h = sets-eq (listed n f) l 0 (simp (length-listed, zero-add) h) ∙ rw (zero-add, length-listed)

-- a list as long as what is written to its front is that
pub filling_whole : {X : Type 0} (lent : List X) (f : ℕ → X) (n row : ℕ) (list : List X) → Filling lent f row list → length lent ≡ n
    → row ≤ n → n ≤ row → list ≡ listed n f
filling_whole lent f n row list F long h k =
    let rest : drop n lent ≡ [] = drop_of_length-le lent {i = n} (omega (arith, long)) in
    filling_all lent f n row list F h k ∙ sets-front n f lent (omega (arith, long)) ∙ rw rest (append-nil (listed n f))

pub col-sets : (n : ℕ) (f : ℕ → ℕ) (l : List ℕ) → n ≤ length l → (i : ℕ) → i < n → col (sets l 0 (listed n f)) i ≡ f i
col-sets n f l h i k =
    ap (λ m. col m i) (sets-front n f l h)
    ∙ get_or-append (listed n f) (drop n l) 0 i (rw length-listed k)
    ∙ col-listed n f i k

pub length-sets-listed : (n : ℕ) (f : ℕ → ℕ) (l : List ℕ) → length (sets l 0 (listed n f)) ≡ length l
length-sets-listed n f l = length-sets l 0 (listed n f)

-- a row past those written is as it was
pub past-sets : (n : ℕ) (f : ℕ → ℕ) (l : List ℕ) → n ≤ length l → (i : ℕ) → n ≤ i → col (sets l 0 (listed n f)) i ≡ col l i
past-sets n f l h i k =
    let at : length (listed n f) + (i - n) ≡ i = omega (arith, length-listed n f) in
    let from : n + (i - n) ≡ i = omega arith in
    ap (λ m. col m i) (sets-front n f l h)
    ∙ ap (col (listed n f ++ drop n l)) (sym at)
    ∙ get_or-append-add (listed n f) (drop n l) (i - n) 0
    ∙ get_or-drop n l (i - n) 0
    ∙ ap (col l) from

pub filling_past : (f : ℕ → ℕ) (row : ℕ) (lent list : List ℕ) → Filling lent f row list → row ≤ length lent
    → (i : ℕ) → row ≤ i → col list i ≡ col lent i
filling_past f row lent list F h i k = ap (λ m. col m i) F.front ∙ past-sets row f lent h i k

pub take-sets : (n : ℕ) (f : ℕ → ℕ) (l : List ℕ) → n ≤ length l → take n (sets l 0 (listed n f)) ≡ listed n f
take-sets n f l h = ap (take n) (sets-front n f l h) ∙ take_at (listed n f) (drop n l) n (length-listed n f)

-- and what follows the rows written is as it was
pub drop-sets : (n : ℕ) (f : ℕ → ℕ) (l : List ℕ) → n ≤ length l → drop n (sets l 0 (listed n f)) ≡ drop n l
drop-sets n f l h = ap (drop n) (sets-front n f l h) ∙ drop_at (listed n f) (drop n l) n (length-listed n f)

-- ---- the part that is filled, as a list of its own
module _ (n : ℕ) (f : ℕ → ℕ) (lent made : List ℕ) (room : n ≤ length lent) (is : made ≡ sets lent 0 (listed n f)) where
  pub made-part : take n made ≡ listed n f
  made-part = ap (take n) is ∙ take-sets n f lent room

  pub made-long : n ≡ length (take n made)
  made-long = sym (ap length made-part ∙ length-listed n f)

  pub made-col : ((i : ℕ) → n ≤ i → f i ≡ 0) → col (take n made) ≡ f
  made-col zeros = ap col made-part ∙ col-whole n f zeros

  pub made_row : (i : ℕ) → i < n → col (take n made) i ≡ f i
  made_row i l = ap (λ xs. col xs i) made-part ∙ col-listed n f i l

  pub made-sum : sum n (col (take n made)) ≡ sum n f
  made-sum = sum_cong n (col (take n made)) f made_row

  -- and what follows it is as it was
  pub made-rest : drop n made ≡ drop n lent
  made-rest = ap (drop n) is ∙ drop-sets n f lent room

-- the rows written last stand
pub sets-again : (n : ℕ) (f g : ℕ → ℕ) (l : List ℕ) → n ≤ length l → sets (sets l 0 (listed n f)) 0 (listed n g) ≡ sets l 0 (listed n g)
sets-again n f g l h =
    sets-front n g (sets l 0 (listed n f)) (rw length-sets-listed h)
    ∙ ap (λ rest. listed n g ++ rest) (drop-sets n f l h)
    ∙ sym (sets-front n g l h)
