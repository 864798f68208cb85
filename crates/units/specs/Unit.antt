-- 01, "Units and bounds": 1 GJ = 1,000 MJ.
use Rattle.std.specs.Prelude.{◌*◌}
use Rattle.units.specs.declared.Gigajoules.{Gigajoules}
use Rattle.units.specs.declared.Megajoules.{Megajoules}

abbrev pub thousandfold : Gigajoules → Megajoules
thousandfold g = record { 0 = g.0 * 1000 }
