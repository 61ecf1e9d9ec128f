use Rattle.std.proofs.Common.{rules}
use Rattle.avm_plain.proofs.Numbers.{next_of}
use Rattle.avm_plain.proofs.taking.take.Goals as goal

pub add_message-requires : goal.add_message-requires
add_message-requires c = search (rules, next_of)
