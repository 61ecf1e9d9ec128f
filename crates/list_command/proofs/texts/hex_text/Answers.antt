use Rattle.std.proofs.Common.{sym}
use Rattle.list_command.proofs.Hex.{lower_is}
use Rattle.list_command.proofs.texts.hex_text.Goals as goal

pub returns : goal.returns
returns c = let e = sym (lower_is c.args.bytes.now c.are_bytes.ensures) in rw e c.encode.ensures
