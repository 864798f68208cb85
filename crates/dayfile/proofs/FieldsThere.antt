-- A field's bytes where a whole field stands, and a whole field where such bytes stand.
use mathlib.Core.Path.{◌≡◌, refl, ap, ap₂, sym, ◌∙◌}
use mathlib.Core.List.{List, [], ◌∷◌, ◌++◌, append_assoc}
use Prim.Native.Nat.{ℕ, ◌+◌, ◌≤◌}
use native.Mathlib.Omega.{arith}
use lib.ListN.{length, take, drop, length-append, length-drop}
use lib.Seq.{take_at, drop_at, take-add, drop-drop, take-suc, get_or-drop, length-take-le}
use Rattle.columns.specs.Column.{col}
use Rattle.columns.proofs.Lists.{length-listed}
use Rattle.bigendian.specs.Number.{value, bytes, AreBytes}
use Rattle.bigendian.specs.Row.{decode, encode, Fit}
use Rattle.bigendian.proofs.Numbers.{length-bytes, value-bytes, bytes-value, drop-bytes, take-bytes}
use Rattle.bigendian.proofs.Rows.{decode-encode-past, encode-decode}
use Rattle.dayformat.specs.declared.form.Tag.{Tag}
use Rattle.dayformat.specs.Format.{widths, field_size, form, field}
use Rattle.dayformat.proofs.Small.{small}
use Rattle.dayformat.proofs.Sizes.{length-field}
use Rattle.dayrows.proofs.Breaking.{Whole}

module _ (file : List ℕ) (are : AreBytes file) (tag : Tag) (at : ℕ) (W : Whole file tag at) where
  -- the bytes from a place on that are there
  there : (from many : ℕ) → from + many ≤ length file → many ≤ length (drop from file)
  there from many l = rw length-drop (omega (arith, l))

  tag-there : take 1 (drop at file) ≡ (form tag).byte ∷ []
  tag-there =
      take-suc (drop at file) 0 0 (there at 1 (omega (arith, W.there)))
      ∙ ap (λ byte. byte ∷ []) (get_or-drop at file 0 0 ∙ ap (col file) (omega arith) ∙ W.tagged)

  length-there : take 2 (drop (at + 1) file) ≡ bytes 2 (form tag).size
  length-there =
      sym
      (bytes-value 2 (take 2 (drop (at + 1) file)) (take-bytes 2 (drop (at + 1) file) (drop-bytes (at + 1) file are))
      (length-take-le 2 (drop (at + 1) file) (there (at + 1) 2 (omega (arith, W.there)))))
      ∙ ap (bytes 2) W.sized

  body-there : take (form tag).size (drop (at + 3) file) ≡ encode (widths tag) (decode (widths tag) (drop (at + 3) file))
  body-there =
      sym (encode-decode (widths tag) (drop (at + 3) file) (drop-bytes (at + 3) file are)
      (there (at + 3) (form tag).size (omega (arith, W.there))))

  pub field-there : take (field_size tag) (drop at file) ≡ field tag (decode (widths tag) (drop (at + 3) file))
  field-there =
      let header = take-add 1 (2 + (form tag).size) (drop at file) in
      let rest = take-add 2 (form tag).size (drop 1 (drop at file)) in
      let parts : field_size tag ≡ 1 + (2 + (form tag).size) = omega arith in
      let again : at + 1 + 2 ≡ at + 3 = omega arith in
      let one : drop 1 (drop at file) ≡ drop (at + 1) file = drop-drop 1 at file in
      let three : drop 2 (drop 1 (drop at file)) ≡ drop (at + 3) file =
      ap (drop 2) one ∙ drop-drop 2 (at + 1) file ∙ ap (λ k. drop k file) again
      in ap (λ many. take many (drop at file)) parts
      ∙ header
      ∙ ap₂ (λ x y. x ++ y) tag-there
      (rest ∙ ap₂ (λ x y. x ++ y) (ap (take 2) one ∙ length-there) (ap (take (form tag).size) three ∙ body-there))

-- ---- and back
module _ (tag : Tag) (row : List ℕ) (F : Fit (widths tag) row) where
  module _ (ahead rest : List ℕ) where
    abbrev file : List ℕ
    file = ahead ++ (field tag row ++ rest)

    abbrev at : ℕ
    at = length ahead

    from-tag : drop at file ≡ field tag row ++ rest
    from-tag = drop_at ahead (field tag row ++ rest) at refl

    from-length : drop (at + 1) file ≡ bytes 2 (form tag).size ++ (encode (widths tag) row ++ rest)
    from-length = sym (drop-drop 1 at file) ∙ ap (drop 1) from-tag ∙ append_assoc (bytes 2 (form tag).size) (encode (widths tag) row) rest

    from-body : drop (at + 3) file ≡ encode (widths tag) row ++ rest
    from-body =
        let again : at + 1 + 2 ≡ at + 3 = omega arith in
        ap (λ k. drop k file) (sym again)
        ∙ sym (drop-drop 2 (at + 1) file)
        ∙ ap (drop 2) from-length
        ∙ drop_at (bytes 2 (form tag).size) (encode (widths tag) row ++ rest) 2 (length-bytes 2 (form tag).size)

    pub whole-there : Whole file tag at
    whole-there =
        record {
          there = omega (
            arith,
            length-append ahead (field tag row ++ rest),
            length-append
                (field tag row) rest,
            length-field tag row (F.as_many ∙ length-listed _ _),
          );
          tagged = ap (col file) (omega arith) ∙ sym (get_or-drop at file 0 0) ∙ ap (λ list. col list 0) from-tag;
          sized =
              ap (λ list. value (take 2 list)) from-length
              ∙ ap value (take_at (bytes 2 (form tag).size) (encode (widths tag) row ++ rest) 2 (length-bytes 2 (form tag).size))
              ∙ value-bytes 2 (form tag).size (omega (arith, (small tag).size));
        }

    pub row-there : decode (widths tag) (drop (at + 3) file) ≡ row
    row-there = ap (decode (widths tag)) from-body ∙ decode-encode-past (widths tag) row rest F
