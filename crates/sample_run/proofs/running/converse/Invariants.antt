use Rattle.std.proofs.Common.{◌-◌}
use Rattle.sample_model.specs.Talk.{Talk as TalkOf}
use Rattle.sample_node.specs.Node.{sender_in}
use Rattle.sample_talk.specs.Talking.{IsTalk}
use Rattle.sample_run.proofs.Exchanging.{Reached}
use Rattle.sample_run.proofs.running.converse.Given as goal

abbrev pub invariant-talks : goal.invariant-talks
invariant-talks l = (m : TalkOf) → IsTalk 1 l.fn.talk m → Reached (sender_in l.fn.talk.node) m l.k l.talk

abbrev pub decreases-talks : goal.decreases-talks
decreases-talks l = 18446744073709551 - l.k
