use Rattle.std.proofs.Common.{ap}
use Rattle.avm_auth.specs.Views.{auth_view}
use Rattle.evid_file.specs.Views.{evidence_view}
use Rattle.jrnl_store.specs.Kept.{kept}
use Rattle.rebuttal.proofs.Answering.{double_compared, fork_compared}
use Rattle.rebuttal.proofs.Last.{evidence_told, evidence_none}
use Rattle.rebuttal.proofs.rebutting.differing.Goals as goal

pub returns-in-Double-clause-value : goal.returns-in-Double-clause-value
returns-in-Double-clause-value g c = evidence_none _ (kept c.args.journal.now) (evidence_view c.args.evidence.now) _ (ap evidence_view c.in-Double.is) (λ s j. double_compared s j c.in-Double.key (auth_view c.in-Double.a) (auth_view c.in-Double.b))

pub returns-in-Fork-clause-value : goal.returns-in-Fork-clause-value
returns-in-Fork-clause-value g c =
    evidence_none _ (kept c.args.journal.now) (evidence_view c.args.evidence.now) _ (ap evidence_view c.in-Fork.is) (λ s j. fork_compared s j c.in-Fork.key c.in-Fork.before.0 c.in-Fork.frames.now c.in-Fork.start (auth_view c.in-Fork.top) (auth_view c.in-Fork.other))

pub returns-in-Replay-clause-value : goal.returns-in-Replay-clause-value
returns-in-Replay-clause-value g c =
    evidence_told _ (kept c.args.journal.now) (evidence_view c.args.evidence.now) c.in-Replay.key c.in-Replay.segment.now (auth_view c.in-Replay.top) c.differing_segment.result (ap evidence_view c.in-Replay.is) c.differing_segment.ensures.value
