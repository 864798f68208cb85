-- Numbers at the front of a list of zeros: what is put after them follows them.
use mathlib.Core.Path.{◌≡◌, refl, ap, sym, ◌∙◌, fun_ext}
use mathlib.Core.List.{List, [], ◌∷◌, ◌++◌, append_assoc, append-nil}
use Prim.Native.Nat.{ℕ, suc, ◌+◌, ◌≤◌, ◌<◌}
use native.Mathlib.Decide.{dec_lt}
use native.Mathlib.Omega.{arith}
use lib.ListN.{length, set, replicate, length-append, length-set, length-replicate, get_or-replicate, get_or-append, get_or-eq_default}
use lib.Seq.{sets, get_or-set_same, get_or-set_other, get_or_at}
use Rattle.columns.specs.Column.{col}

module _ (known numbers : List ℕ) (front : col numbers ≡ col known) where
  at_front : (i : ℕ) → col numbers i ≡ col known i
  at_front i = ap (λ f. f i) front

  front-one : (x : ℕ) → length known < length numbers → col (set numbers (length known) x) ≡ col (known ++ (x ∷ []))
  front-one x room = fun_ext (λ i. by i (dec_lt i (length known)) (dec_lt (length known) i))
    where
      by : (i : ℕ) → Dec (i < length known) → Dec (length known < i)
          → col (set numbers (length known) x) i ≡ col (known ++ (x ∷ [])) i
      by i (yes l) d =
          get_or-set_other numbers (length known) i x 0 (λ e. omega (arith, e, l))
          ∙ at_front i
          ∙ sym (get_or-append known (x ∷ []) 0 i l)
      by i (no h) (yes l) =
          get_or-set_other numbers (length known) i x 0 (λ e. omega (arith, e, l))
          ∙ at_front i
          ∙ get_or-eq_default known 0 (omega (arith, l))
          ∙ sym (get_or-eq_default (known ++ (x ∷ [])) 0 (omega (arith, l, length-append known (x ∷ []))))
      by i (no h) (no g) =
          let e : i ≡ length known = omega (arith, h, g) in
          ap (col (set numbers (length known) x)) e
          ∙ get_or-set_same numbers (length known) x 0 room
          ∙ sym (ap (col (known ++ (x ∷ []))) e ∙ get_or_at known x [] 0 (length known) refl)

pub front-more : (more known numbers : List ℕ) → col numbers ≡ col known → length known + length more ≤ length numbers
    → col (sets numbers (length known) more) ≡ col (known ++ more)
front-more [] known numbers front room = front ∙ ap col (sym (append-nil known))
front-more (x ∷ more) known numbers front room =
    let one = front-one known numbers front x (omega (arith, room)) in
    let long : length (known ++ (x ∷ [])) ≡ suc (length known) = omega (arith, length-append known (x ∷ [])) in
    let rest =
    front-more more (known ++ (x ∷ [])) (set numbers (length known) x) one
    (omega (arith, room, long, length-set numbers (length known) x))
    in ap (λ at. col (sets (set numbers (length known) x) at more)) (sym long)
    ∙ rest
    ∙ ap col (append_assoc known (x ∷ []) more)

-- a list of zeros has nothing at its front
pub front-none : (many : ℕ) → col (replicate many 0) ≡ col []
front-none many = fun_ext (λ i. by i (dec_lt i many))
  where
    by : (i : ℕ) → Dec (i < many) → col (replicate many 0) i ≡ col [] i
    by i (yes l) = get_or-replicate many i 0 0 l
    by i (no h) = get_or-eq_default (replicate many 0) 0 (omega (arith, h, length-replicate {A = ℕ} many 0))
