use Rattle.avm_model.specs.Evidence.{evidence_at}
use Rattle.rebut_command.proofs.Ending.{bytes_said}
use Rattle.rebut_command.proofs.command.answer_bytes.Goals as goal

pub returns-clause-said : goal.returns-clause-said
returns-clause-said g c = let s = c.say.ensures in bytes_said (evidence_at c.args.bytes.now) (g.D.Disk.seen c.args.disk.now) _ _ _ _ _ _ c.say.result c.judge_bytes-judged.result c.judge_bytes-judged.ensures.ends c.judge_bytes-judged.ensures.counts s.0 s.1 s.2
