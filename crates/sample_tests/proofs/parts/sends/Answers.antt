use Rattle.std.proofs.Common.{arith}
use Rattle.avm_model.specs.LmsTypes.{height_of}
use Rattle.sample_tests.proofs.parts.sends.Goals as goal

pub send-requires-clause-leaf : goal.send-requires-clause-leaf
unfolding height_of
send-requires-clause-leaf c =
    rw (c.requires.last, c.requires.height) (omega arith)

pub answer-requires-clause-leaf : goal.answer-requires-clause-leaf
unfolding height_of
answer-requires-clause-leaf c =
    rw (c.send.ensures, c.requires.last, c.requires.height) (omega arith)
