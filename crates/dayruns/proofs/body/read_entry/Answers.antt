-- The side, the two names, then the reserved entitlement.
use mathlib.Core.Path.{refl}
use Rattle.dayformat.specs.declared.form.Tag.TheVariants.{Entry}
use Rattle.dayruns.proofs.BodyReading.{◌followed_by◌, kinds-none, kind-room}
use Rattle.dayruns.proofs.body.read_entry.Goals as goal

pub read_kind-side-requires : goal.read_kind-side-requires
read_kind-side-requires c =
    kind-room (kinds-none c.args.file.now c.args.from c.args.numbers.now) Entry _ _ refl c.requires

pub read_kind-names-requires : goal.read_kind-names-requires
read_kind-names-requires c =
    kind-room (kinds-none _ _ _ followed_by c.read_kind-side.ensures) Entry _ _ refl c.requires

pub read_kind-requires : goal.read_kind-requires
read_kind-requires c =
    kind-room (kinds-none _ _ _ followed_by c.read_kind-side.ensures followed_by c.read_kind-names.ensures) Entry _ _ refl
    c.requires

pub returns : goal.returns
returns c =
    kinds-none _ _ _ followed_by c.read_kind-side.ensures followed_by c.read_kind-names.ensures followed_by c.read_kind.ensures
