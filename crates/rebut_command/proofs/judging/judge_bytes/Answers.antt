use Rattle.std.proofs.Common.{sym}
use Rattle.avm_model.specs.Evidence.{evidence_at}
use Rattle.evid_file.specs.Views.{evidence_view}
use Rattle.rebut_command.proofs.Judgements.{bytes_told, bytes_none}
use Rattle.rebut_command.proofs.judging.judge_bytes.Goals as goal

pub judge_store-requires : goal.judge_store-requires
judge_store-requires g c = record { read = sym c.in-Some.ensures.exact; fits = c.in-Some.ensures.found.1 }

pub returns-in-Some-clause-ends : goal.returns-in-Some-clause-ends
returns-in-Some-clause-ends g c = bytes_told (evidence_at c.args.bytes.now) (evidence_view c.in-Some.evidence) (g.D.Disk.seen c.args.disk.now) c.judge_store.result c.in-Some.ensures.exact c.judge_store.ensures.ends

pub returns-in-None-clause-ends : goal.returns-in-None-clause-ends
returns-in-None-clause-ends g c = bytes_none (evidence_at c.args.bytes.now) (g.D.Disk.seen c.args.disk.now) c.in-None.ensures.exact
