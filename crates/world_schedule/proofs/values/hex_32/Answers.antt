use Rattle.std.proofs.Common.{ap, ◌∙◌}
use Rattle.std.specs.Result.{result_ok}
use Rattle.avm_script.proofs.Digits.{sized_is}
use Rattle.world_schedule.proofs.values.hex_32.Goals as goal

pub returns : goal.returns
returns c = c.ok.ensures.value ∙ ap result_ok c.from_hex.ensures ∙ sized_is 32 c.args.text.now
