use mathlib.Core.Path.{refl}
use native.Mathlib.Omega.{arith}
use Rattle.bigendian.specs.Number.{value}
use Rattle.bigendian.proofs.Reading.{reading-next, part-room, reading-past}
use Rattle.bigendian.proofs.number_at.Goals as goal

pub returns-then-file-at : goal.returns-then-file-at
returns-then-file-at c = reading-past _ _ _ c.if-file-at.true

pub loop-byte-init : goal.loop-byte-init
unfolding value
loop-byte-init c = refl

pub overflow_mul-number : goal.overflow_mul-number
overflow_mul-number c =
    omega (
      arith,
      part-room _ _ c.min-count.result (omega arith) (λ i. (c.type_inv.file i).fits) (omega arith) _ c.loop-byte-test.true
          c.loop-byte.invariant,
    )

pub overflow_add-number : goal.overflow_add-number
overflow_add-number c =
    record {
      fits =
          part-room _ _ c.min-count.result (omega arith) (λ i. (c.type_inv.file i).fits) (omega arith) _ c.loop-byte-test.true
          c.loop-byte.invariant;
    }

pub loop-byte-preserved : goal.loop-byte-preserved
loop-byte-preserved c = reading-next _ _ c.loop-byte-test.true c.loop-byte.invariant
