-- What is written of a byte, padded to two digits, are those of its halves.
use Rattle.std.proofs.Common.{rules}
use Rattle.std.proofs.lemmas.Fmt.{hex_byte}
use Rattle.streams.proofs.print_hex.Goals as goal

pub returns : goal.returns
returns g c = search (rules, hex_byte)
