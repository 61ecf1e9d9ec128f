use Rattle.std.proofs.Common.{sym}
use Rattle.view_command.proofs.Hex.{lower_is}
use Rattle.view_command.proofs.words.hex_text.Goals as goal

pub returns : goal.returns
returns c = let e = sym (lower_is c.args.bytes.now) in rw e c.encode.ensures
