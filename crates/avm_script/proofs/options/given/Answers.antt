use Rattle.std.proofs.Common.{map, string_bytes, sym, ◌∙◌, arith}
use Rattle.avm_script.specs.View.{text_view}
use Rattle.avm_script.proofs.Given.{given_end}
use Rattle.avm_script.proofs.options.given.Goals as goal
use Rattle.std.proofs.lemmas.List.{length-map}

pub returns : goal.returns
returns c = sym (given_end c.args.option.now (text_view c.loop-left.found) (map string_bytes c.loop-left.left.now) (simp length-map (omega arith))) ∙ c.loop-left.invariant
