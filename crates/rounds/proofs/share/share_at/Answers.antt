-- A weight of at most 1,000,000 times a level of at most the top fits 64 bits, so the share is 01's formula as it stands.
use native.Mathlib.Nat.{mul-le-mul}
use native.Mathlib.Omega.{arith}
use Rattle.rounds.proofs.share.share_at.Goals as goal

pub overflow_mul-part : goal.overflow_mul-part
overflow_mul-part c = omega (arith, mul-le-mul c.requires.0 c.requires.1)
