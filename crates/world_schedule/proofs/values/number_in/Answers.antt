use Rattle.std.proofs.Common.{sym}
use Rattle.avm_script.proofs.Spelled.{not_utf8}
use Rattle.world_schedule.proofs.values.number_in.Goals as goal

pub returns-in-Err : goal.returns-in-Err
returns-in-Err c = sym (not_utf8 c.args.text.now c.in-Err.ensures.cases.0)
