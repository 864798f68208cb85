-- Lists one after another: how long they are, and what stands where.
use mathlib.Core.Path.{◌≡◌, refl, ap, sym, ◌∙◌}
use mathlib.Core.Logic.{⊎_elim}
use mathlib.Core.List.{List, [], ◌∷◌, ◌++◌, append_assoc, append-nil}
use Prim.Native.Nat.{ℕ, zero, suc, ◌+◌, ◌*◌, ◌<◌}
use native.Mathlib.Nat.{lt-suc_self, le_step, le_of_suc-le-suc, eq-or-lt_of_le, mul-le-mul_right, zero-mul, add-zero, add-suc}
use native.Mathlib.Omega.{arith}
use lib.ListN.{length, take, drop, length-append, get_or-append}
use lib.Seq.{take-add, get_or-append-add}
use Rattle.columns.specs.Column.{col, listed, joined}
use Rattle.columns.specs.Sum.{sum}

pub joined_same : (n : ℕ) (f g : ℕ → List ℕ) → ((i : ℕ) → i < n → f i ≡ g i) → joined n f ≡ joined n g
unfolding joined
joined_same zero f g same = refl
joined_same (suc n) f g same = rw (joined_same n f g (λ i l. same i (le_step l)), same n (lt-suc_self n))

-- lists are together as long as each
pub length-joined-sum : (n : ℕ) (f : ℕ → List ℕ) → length (joined n f) ≡ sum n (λ i. length (f i))
unfolding joined sum
length-joined-sum zero f = refl
length-joined-sum (suc n) f = omega (arith, length-append (joined n f) (f n), length-joined-sum n f)

module _ (f : ℕ → List ℕ) (long : ℕ) (each : (i : ℕ) → length (f i) ≡ long) where
  pub length-joined : (n : ℕ) → length (joined n f) ≡ n * long
  unfolding joined
  length-joined zero = omega arith
  length-joined (suc n) = omega (arith, length-append (joined n f) (f n), length-joined n, each n)

  -- the numbers of a row stand where its place among the rows says
  pub col-joined : (n i place : ℕ) → i < n → place < long → col (joined n f) (i * long + place) ≡ col (f i) place
  unfolding joined
  col-joined zero i place l k = absurd (omega arith)
  col-joined (suc n) i place l k =
      ⊎_elim
      (λ e.
      ap (λ k. col (joined n f ++ f n) (k * long + place)) e
      ∙ ap (λ k. col (joined n f ++ f n) (k + place)) (sym (length-joined n))
      ∙ get_or-append-add (joined n f) (f n) place 0
      ∙ ap (λ k. col (f k) place) (sym e))
      (λ h.
      get_or-append (joined n f) (f n) 0 (i * long + place) (omega (arith, length-joined n, mul-le-mul_right long h))
      ∙ col-joined n i place h k)
      (eq-or-lt_of_le (le_of_suc-le-suc l))

-- a list cut into parts of one length is those parts one after another
pub joined_parts : (n long : ℕ) (list : List ℕ) → joined n (λ i. take long (drop (i * long) list)) ≡ take (n * long) list
unfolding joined
joined_parts zero long list = rw (zero-mul long)
joined_parts (suc n) long list =
    let more : suc n * long ≡ n * long + long = omega arith in
    ap (λ front. front ++ take long (drop (n * long) list)) (joined_parts n long list) ∙ rw more (sym (take-add (n * long) long list))

-- fewer of the lists stand at the front
pub joined-more : (f : ℕ → List ℕ) (m more : ℕ) → joined (m + more) f ≡ joined m f ++ joined more (λ i. f (m + i))
unfolding joined
joined-more f m zero = ap (λ n. joined n f) (add-zero m) ∙ sym (append-nil (joined m f))
joined-more f m (suc more) =
    ap (λ n. joined n f) (add-suc m more)
    ∙ ap (λ front. front ++ f (m + more)) (joined-more f m more)
    ∙ append_assoc (joined m f) (joined more (λ i. f (m + i))) (f (m + more))

-- one of the lists, between those before and those after it
pub joined-split : (f : ℕ → List ℕ) (i more : ℕ) → joined (i + suc more) f ≡ joined i f ++ (f i ++ joined more (λ k. f (i + suc k)))
unfolding joined
joined-split f i zero =
    joined-more f i 1 ∙ ap (λ one. joined i f ++ one) (ap f (add-zero i) ∙ sym (append-nil (f i)))
joined-split f i (suc more) =
    ap (λ n. joined n f) (add-suc i (suc more))
    ∙ ap (λ front. front ++ f (i + suc more)) (joined-split f i more)
    ∙ append_assoc (joined i f) (f i ++ joined more (λ k. f (i + suc k))) (f (i + suc more))
    ∙ ap (λ rest. joined i f ++ rest) (append_assoc (f i) (joined more (λ k. f (i + suc k))) (f (i + suc more)))

-- rows cut out of a column, one after another, are the column
pub listed_more : (m n : ℕ) (f : ℕ → ℕ) → listed (m + n) f ≡ listed m f ++ listed n (λ i. f (m + i))
unfolding listed
listed_more m zero f = ap (λ n. listed n f) (add-zero m) ∙ sym (append-nil (listed m f))
listed_more m (suc n) f =
    ap (λ n. listed n f) (add-suc m n)
    ∙ ap (λ front. front ++ (f (m + n) ∷ [])) (listed_more m n f)
    ∙ append_assoc (listed m f) (listed n (λ i. f (m + i))) (f (m + n) ∷ [])

pub joined-listed : (n long : ℕ) (f : ℕ → ℕ) → joined n (λ i. listed long (λ place. f (i * long + place))) ≡ listed (n * long) f
unfolding joined listed
joined-listed zero long f = rw (zero-mul long)
joined-listed (suc n) long f =
    let more : suc n * long ≡ n * long + long = omega arith in
    ap (λ front. front ++ listed long (λ place. f (n * long + place))) (joined-listed n long f)
    ∙ sym (ap (λ k. listed k f) more ∙ listed_more (n * long) long f)
