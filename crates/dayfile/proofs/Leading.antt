-- A list that stands at the front of another: its places read alike.
use mathlib.Core.Path.{◌≡◌, ap, sym, ◌∙◌}
use mathlib.Core.List.{List, ◌++◌, append_assoc}
use Prim.Native.Nat.{ℕ, ◌+◌, ◌-◌, ◌*◌, ◌≤◌, ◌<◌}
use native.Mathlib.Nat.{mul-le-mul_right}
use native.Mathlib.Decide.{dec_lt}
use native.Mathlib.Omega.{arith}
use lib.ListN.{length, length-append, get_or-append}
use lib.Seq.{ext_get_or, get_or-append-add}
use Rattle.columns.specs.Column.{col, listed, joined}
use Rattle.columns.proofs.Lists.{length-listed, col-listed, listed_same}
use Rattle.columns.proofs.Joined.{joined_same, joined-more, joined-listed, length-joined, col-joined}

abbrev pub Leads : List ℕ → List ℕ → Type 0
Leads xs ys = (length xs ≤ length ys) × ((place : ℕ) → place < length xs → col ys place ≡ col xs place)

pub leads-append : (xs ys : List ℕ) → Leads xs (xs ++ ys)
leads-append xs ys = (omega (arith, length-append xs ys), λ place l. get_or-append xs ys 0 place l)

pub leads_trans : (xs ys zs : List ℕ) → Leads xs ys → Leads ys zs → Leads xs zs
leads_trans xs ys zs a b =
    (omega (arith, a.0, b.0), λ place l. b.1 place (omega (arith, l, a.0)) ∙ a.1 place l)

-- after what is known come rows of one length; a row's numbers stand where its place among them says
module _ (known : List ℕ) (row : ℕ → List ℕ) (long : ℕ) (each : (i : ℕ) → length (row i) ≡ long) (n : ℕ) (numbers : List ℕ)
    (leads : Leads (known ++ joined n row) numbers) where
  place_inside : (i place : ℕ) → i < n → place < long → length known + (i * long + place) < length (known ++ joined n row)
  place_inside i place l k =
      omega (arith, length-append known (joined n row), length-joined row long each n, k, mul-le-mul_right long l)

  pub number_stands : (i place : ℕ) → i < n → place < long → col numbers (length known + (i * long + place)) ≡ col (row i) place
  number_stands i place l k =
      leads.1 (length known + (i * long + place)) (place_inside i place l k)
      ∙ get_or-append-add known (joined n row) (i * long + place) 0
      ∙ col-joined row long each n i place l k

  pub row_stands : (i from : ℕ) → i < n → from ≡ length known + i * long → listed long (λ place. col numbers (from + place)) ≡ row i
  row_stands i from l e =
      ext_get_or 0 (listed long (λ place. col numbers (from + place))) (row i) (length-listed _ _ ∙ sym (each i))
      (λ place k.
      let inside : place < long = omega (arith, k, length-listed long (λ place. col numbers (from + place))) in
      let same : from + place ≡ length known + (i * long + place) = omega (arith, e) in
      col-listed long (λ place. col numbers (from + place)) place inside
      ∙ ap (col numbers) same
      ∙ number_stands i place l inside)

-- fewer rows stand at the front of more
pub leads-rows : (known : List ℕ) (row : ℕ → List ℕ) (m n : ℕ) → m ≤ n → Leads (known ++ joined m row) (known ++ joined n row)
leads-rows known row m n l =
    let all : m + (n - m) ≡ n = omega (arith, l) in
    let rest = joined (n - m) (λ i. row (m + i)) in
    let parts : known ++ joined n row ≡ known ++ joined m row ++ rest =
    ap (λ k. known ++ joined k row) (sym all)
    ∙ ap (λ rows. known ++ rows) (joined-more row m (n - m))
    ∙ sym (append_assoc known (joined m row) rest)
    in rw parts (leads-append (known ++ joined m row) rest)

-- rows cut out of a list follow what stands before them there
pub leads-more : (known numbers : List ℕ) (start long : ℕ) (row : ℕ → List ℕ) → Leads known numbers → length known ≡ start
    → ((i : ℕ) → row i ≡ listed long (λ place. col numbers (start + i * long + place))) → (m : ℕ) → start + m * long ≤ length numbers
    → Leads (known ++ joined m row) numbers
leads-more known numbers start long row leads begins cut m room =
    (omega (arith, whole), λ place l. by place l (dec_lt place (length known)))
  where
    all : joined m row ≡ listed (m * long) (λ place. col numbers (start + place))
    all =
        joined_same m row (λ i. listed long (λ place. col numbers (start + (i * long + place))))
        (λ i l. cut i ∙ listed_same long _ _ (λ place k. ap (col numbers) (omega arith)))
        ∙ joined-listed m long (λ place. col numbers (start + place))

    length-all : length (joined m row) ≡ m * long
    length-all = ap length all ∙ length-listed _ _

    whole : length (known ++ joined m row) ≤ length numbers
    whole = omega (arith, length-append known (joined m row), length-all, begins, room)

    by : (place : ℕ) → place < length (known ++ joined m row) → Dec (place < length known)
        → col numbers place ≡ col (known ++ joined m row) place
    by place l (yes k) = leads.1 place k ∙ sym (get_or-append known (joined m row) 0 place k)
    by place l (no h) =
        let past : length known + (place - length known) ≡ place = omega (arith, h) in
        let inside : place - length known < m * long = omega (arith, h, l, length-append known (joined m row), length-all) in
        ap (col numbers) (sym past)
        ∙ ap (λ from. col numbers (from + (place - length known))) begins
        ∙ sym (col-listed (m * long) (λ place. col numbers (start + place)) (place - length known) inside)
        ∙ ap (λ list. col list (place - length known)) (sym all)
        ∙ sym (get_or-append-add known (joined m row) (place - length known) 0)
        ∙ ap (col (known ++ joined m row)) past
