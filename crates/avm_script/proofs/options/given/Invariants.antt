use Rattle.std.proofs.Common.{◌≡◌, map, length, string_bytes, ◌++◌}
use Rattle.std.specs.Option.{option_to_list}
use Rattle.avm_model.specs.Words.{at_most_one, values_of, optional}
use Rattle.avm_script.specs.View.{text_view}
use Rattle.avm_script.proofs.options.given.Given as goal

-- the value that was found, before those that are left
abbrev pub invariant-loop-left : goal.invariant-loop-left
invariant-loop-left l = at_most_one (option_to_list (text_view l.found) ++ values_of l.option (map string_bytes l.left)) ≡ optional l.option (map string_bytes l.fn.words)

abbrev pub decreases-loop-left : goal.decreases-loop-left
decreases-loop-left l = length l.left
