-- Bits that are not beyond infinity's are no pattern of what is not a number.
use mathlib.Core.Bool.{Bool, not}
use mathlib.Core.Path.{sym, subst, ◌∙◌}
use borrow.Author.Tests.{le-ltb}
use lib.Dec.{T}
use lib.Ieee.{binary64}
use lib.Ieee.Bits.{nan_bits_above}
use Rattle.readingvectors.proofs.hours.number_of.Goals as goal

pub float_from_bits-result : goal.float_from_bits-result
float_from_bits-result c =
    let within = nan_bits_above binary64 c.args.bits ∙ le-ltb _ _ c.if-bits-gt-INFINITE.false in
    subst (λ (b : Bool). T (not b)) (sym within) tt
