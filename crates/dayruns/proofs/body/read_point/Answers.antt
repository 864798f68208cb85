-- The side, the name, then the capacity.
use mathlib.Core.Path.{refl}
use Rattle.dayformat.specs.declared.form.Tag.TheVariants.{Point}
use Rattle.dayruns.proofs.BodyReading.{◌followed_by◌, kinds-none, kind-room}
use Rattle.dayruns.proofs.body.read_point.Goals as goal

pub read_kind-side-requires : goal.read_kind-side-requires
read_kind-side-requires c =
    kind-room (kinds-none c.args.file.now c.args.from c.args.numbers.now) Point _ _ refl c.requires

pub read_kind-point-requires : goal.read_kind-point-requires
read_kind-point-requires c =
    kind-room (kinds-none _ _ _ followed_by c.read_kind-side.ensures) Point _ _ refl c.requires

pub read_kind-requires : goal.read_kind-requires
read_kind-requires c =
    kind-room (kinds-none _ _ _ followed_by c.read_kind-side.ensures followed_by c.read_kind-point.ensures) Point _ _ refl
    c.requires

pub returns : goal.returns
returns c =
    kinds-none _ _ _ followed_by c.read_kind-side.ensures followed_by c.read_kind-point.ensures followed_by c.read_kind.ensures
