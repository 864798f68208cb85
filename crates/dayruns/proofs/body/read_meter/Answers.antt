-- The name, the MDQs, the hours, the schedules, then the backhaul.
use mathlib.Core.Path.{refl}
use Rattle.dayformat.specs.declared.form.Tag.TheVariants.{Meter}
use Rattle.dayruns.proofs.BodyReading.{◌followed_by◌, kinds-none, kind-room}
use Rattle.dayruns.proofs.body.read_meter.Goals as goal

pub read_kind-shipper-requires : goal.read_kind-shipper-requires
read_kind-shipper-requires c =
    kind-room (kinds-none c.args.file.now c.args.from c.args.numbers.now) Meter _ _ refl c.requires

pub read_kind-mdqs-requires : goal.read_kind-mdqs-requires
read_kind-mdqs-requires c =
    kind-room (kinds-none _ _ _ followed_by c.read_kind-shipper.ensures) Meter _ _ refl c.requires

pub read_kind-hours-requires : goal.read_kind-hours-requires
read_kind-hours-requires c =
    kind-room (kinds-none _ _ _ followed_by c.read_kind-shipper.ensures followed_by c.read_kind-mdqs.ensures) Meter _ _ refl
    c.requires

pub read_kind-schedules-requires : goal.read_kind-schedules-requires
read_kind-schedules-requires c =
    kind-room
    (kinds-none _ _ _ followed_by c.read_kind-shipper.ensures followed_by c.read_kind-mdqs.ensures followed_by c.read_kind-hours.ensures)
    Meter _ _ refl c.requires

pub read_kind-requires : goal.read_kind-requires
read_kind-requires c =
    kind-room
    (kinds-none _ _ _ followed_by c.read_kind-shipper.ensures followed_by c.read_kind-mdqs.ensures followed_by c.read_kind-hours.ensures
    followed_by c.read_kind-schedules.ensures) Meter _ _ refl c.requires

pub returns : goal.returns
returns c =
    kinds-none _ _ _ followed_by c.read_kind-shipper.ensures followed_by c.read_kind-mdqs.ensures followed_by c.read_kind-hours.ensures
    followed_by c.read_kind-schedules.ensures followed_by c.read_kind.ensures
