-- The line fits the buffer, so it is laid, and stands whole at its front.
use Rattle.std.proofs.Common.{◌≡◌, ℕ, ◌^◌, ◌<◌, ◌≤◌, List, length, take, ap, ◌∙◌, arith, length-take-le}
use Rattle.std.specs.Prelude.{Result, Ok}
use Rattle.std.specs.Result.{result_unwrap_or}
use Rattle.units.specs.declared.refusal.Refusal.{Refusal}
use Rattle.lines.specs.Line.{refused}
use Rattle.lines.specs.Answer.{ListingAnswered}
use Rattle.lines.proofs.Answers.{listed, listed-front}
use Rattle.lines.proofs.Sizes.{refused-within}
use Rattle.streams.proofs.print_refusal.Goals as goal

module _ {refusal : Refusal} {lent after : List ℕ} {listing : Result ℕ Refusal} {size : ℕ}
    (L : ListingAnswered (Ok tt) (refused refusal) lent after listing) (is : size ≡ result_unwrap_or listing 0)
    (number : refusal.number < 256) (place : refusal.place < 2 ^ 64) (room : 33 ≤ length lent) where
  fits : length (refused refusal) ≤ length lent
  fits = omega (arith, room, refused-within refusal (omega (arith, number)) (omega (arith, place)))

  whole : size ≡ length (refused refusal)
  whole = is ∙ ap (λ listing. result_unwrap_or listing 0) (listed L fits)

  inside : length after ≡ length lent → (size ≤ length after) × (length (take size after) ≡ size)
  inside long = let short : size ≤ length after = omega (arith, whole, fits, long) in (short, length-take-le size after short)

  front : take size after ≡ refused refusal
  front = ap (λ n. take n after) whole ∙ listed-front L fits

pub slice_bounds-line-end : goal.slice_bounds-line-end
slice_bounds-line-end g c =
    let told = c.well_formed.1.0.1.1 in
    let part = inside c.refusal_line.ensures c.unwrap_or-size.ensures told.0.1 told.1.0.1 (omega arith) c.refusal_line.auto.lent in
    omega (arith, part.0)

pub slice_bounds-write_all-end : goal.slice_bounds-write_all-end
slice_bounds-write_all-end g c =
    let told = c.well_formed.1.0.1.1 in
    let part = inside c.refusal_line.ensures c.unwrap_or-size.ensures told.0.1 told.1.0.1 (omega arith) c.refusal_line.auto.lent in
    omega (arith, part.1)

pub returns : goal.returns
returns g c =
    let told = c.well_formed.1.0.1.1 in
    rw (front c.refusal_line.ensures c.unwrap_or-size.ensures told.0.1 told.1.0.1 (omega arith)) at c.write_all.ensures.bytes
