-- The name, then the MDQs and the schedules.
use mathlib.Core.Path.{refl}
use Rattle.dayformat.specs.declared.form.Tag.TheVariants.{Shipper}
use Rattle.dayruns.proofs.BodyReading.{◌followed_by◌, kinds-none, kind-room}
use Rattle.dayruns.proofs.body.read_shipper.Goals as goal

pub read_kind-shipper-requires : goal.read_kind-shipper-requires
read_kind-shipper-requires c =
    kind-room (kinds-none c.args.file.now c.args.from c.args.numbers.now) Shipper _ _ refl c.requires

pub read_kind-requires : goal.read_kind-requires
read_kind-requires c =
    kind-room (kinds-none _ _ _ followed_by c.read_kind-shipper.ensures) Shipper _ _ refl c.requires

pub returns : goal.returns
returns c =
    kinds-none _ _ _ followed_by c.read_kind-shipper.ensures followed_by c.read_kind.ensures
