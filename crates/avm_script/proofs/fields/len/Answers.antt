use Rattle.std.proofs.Common.{sym, ◌∙◌}
use Rattle.avm_script.proofs.Counts.{count_is}
use Rattle.avm_script.proofs.fields.len.Goals as goal

pub returns : goal.returns
returns c = c.len.ensures.len ∙ sym (count_is c.args.map.now.entries)
