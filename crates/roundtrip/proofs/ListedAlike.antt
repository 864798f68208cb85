-- Accepted files that differ in tag 9 fields alone have the same listing of shares, and of points: neither looks past what they share.
use native.Mathlib.Omega.{arith}
use Rattle.columns.specs.Column.{col}
use Rattle.dayformat.specs.declared.form.Tag.TheVariants.{Excused}
use Rattle.dayformat.specs.Format.{table_place}
use Rattle.dayfile.specs.File.{tables}
use Rattle.dayfile.specs.Answer.{day_of}
use Rattle.dayfile.specs.Excused.{Regardless}
use Rattle.sharelisting.specs.SharesText.{shares_listing}
use Rattle.sharelisting.proofs.Earlier.{shares_text-same}
use Rattle.pointlisting.specs.PointsText.{points_listing}
use Rattle.pointlisting.proofs.Earlier.{points_text-same}
use Rattle.roundtrip.proofs.SameFront.{same-front}

pub shares_regardless : Regardless shares_listing
shares_regardless file other are other-are accepted other-accepted same =
    let S = same-front (table_place Excused) (omega arith) file other are other-are accepted other-accepted same in
    shares_text-same (day_of file) (day_of other) (col (tables file).numbers) (col (tables other).numbers)
    S.head S.agree S.numbers

pub points_regardless : Regardless points_listing
points_regardless file other are other-are accepted other-accepted same =
    let S = same-front (table_place Excused) (omega arith) file other are other-are accepted other-accepted same in
    points_text-same (day_of file) (day_of other) (col (tables file).numbers) (col (tables other).numbers)
    S.head S.agree S.numbers
