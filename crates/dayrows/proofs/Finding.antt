-- What a test of a field finds: nothing, or a fault.
use mathlib.Core.Path.{◌≡◌, refl, sym, ap, ◌∙◌}
use mathlib.Core.Bool.{true, false, true≢false}
use Rattle.std.specs.Prelude.{Ok, Err, is_ok}
use Rattle.dayrows.specs.declared.fault.Fault.{Fault}
use Rattle.dayrows.specs.Fault.{Found}

pub fault-not-none : {fault : Fault} → ◌≡◌ {A = Found} (Err fault) (Ok tt) → ⊥
fault-not-none e = true≢false (sym (ap is_ok e))

pub none-ok : {found : Found} → found ≡ Ok tt → is_ok found ≡ true
none-ok e = ap is_ok e

pub ok-none : (found : Found) → is_ok found ≡ true → found ≡ Ok tt
ok-none (Ok x) e = refl
ok-none (Err fault) e = absurd (true≢false (sym e))

pub not_ok-some : (found : Found) → is_ok found ≡ false → found ≡ Ok tt → ⊥
not_ok-some found e none = true≢false (sym (ap is_ok none) ∙ e)
