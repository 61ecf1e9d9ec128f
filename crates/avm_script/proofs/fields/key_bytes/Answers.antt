use Rattle.std.proofs.Common.{ap, ◌∙◌}
use Rattle.std.specs.Prelude.{option_and_then}
use Rattle.std.specs.Result.{result_ok}
use Rattle.avm_model.specs.Words.{hex_sized}
use Rattle.avm_script.proofs.Digits.{sized_is}
use Rattle.avm_script.proofs.fields.key_bytes.Goals as goal

pub returns-in-Some : goal.returns-in-Some
returns-in-Some c = c.ok.ensures.value ∙ ap result_ok c.from_hex.ensures ∙ sized_is 56 c.in-Some.text.now ∙ ap (option_and_then (hex_sized 56)) c.in-Some.ensures
