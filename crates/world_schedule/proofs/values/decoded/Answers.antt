use Rattle.std.proofs.Common.{ap, sym, ◌∙◌}
use Rattle.std.specs.Result.{result_ok}
use Rattle.world_schedule.proofs.Hex.{decoded_is, decoded_err}
use Rattle.world_schedule.proofs.values.decoded.Goals as goal

pub returns-in-Ok : goal.returns-in-Ok
returns-in-Ok c = ap result_ok (sym c.in-Ok.ensures.ok) ∙ decoded_is c.args.text.now

pub returns-in_default : goal.returns-in_default
returns-in_default c = decoded_err c.args.text.now c.in-Err.error c.in_default.not-OutOfMemory c.in-Err.ensures.err
