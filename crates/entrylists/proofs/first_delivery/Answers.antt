use mathlib.Core.Path.{ap, sym}
use Prim.Native.Nat.{◌*◌}
use native.Mathlib.Omega.{arith}
use borrow.Author.Tests.{eq-eqb, ne_eqb}
use Rattle.columns.specs.Column.{listed}
use Rattle.columns.proofs.Firsts.{first_found, first-none}
use Rattle.bigendian.specs.Row.{size}
use Rattle.dayformat.specs.Format.{column_in}
use Rattle.entrylists.proofs.first_delivery.Goals as goal

pub returns-then-entries-row-eq1 : goal.returns-then-entries-row-eq1
unfolding size listed column_in
returns-then-entries-row-eq1 c =
    ap (λ row. row * 12)
    (sym
    (first_found _ _ _ c.loop-row-test.true (λ k l. ne_eqb _ 1 (c.loop-row.invariant k l)) (eq-eqb _ 1 c.if-entries-row-eq1.true)))

pub returns : goal.returns
unfolding size listed column_in
returns c =
    ap (λ row. row * 12)
    (sym (first-none _ _ (λ k l. ne_eqb _ 1 (c.loop-row.invariant k (omega (arith, l, c.loop-row-test.false))))))
