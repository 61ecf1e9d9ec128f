use Rattle.std.proofs.Common.{None}
use Rattle.jrnl_store.specs.Kept.{kept}
use Rattle.seg_file.specs.Views.{segment_view}
use Rattle.rebuttal.proofs.Last.{no_machine, machines_compared}
use Rattle.rebuttal.proofs.states.differing_states.Goals as goal

pub returns-in-Ok-None-clause-value : goal.returns-in-Ok-None-clause-value
returns-in-Ok-None-clause-value g c = no_machine _ (kept c.args.journal.now) c.args.parts.now.start c.in-Ok-None.field-0 (segment_view c.args.parts.now) None c.in-Ok-None.field-0-is c.in-Ok-None.ensures.state

pub returns-in-Ok-clause-value : goal.returns-in-Ok-clause-value
returns-in-Ok-clause-value g c =
    machines_compared _ (kept c.args.journal.now) c.in-Ok-Some.field-0 c.in-Ok-Some.ours c.in_ok-theirs.theirs.0.state (segment_view c.args.parts.now) c.in-Ok.found c.in-Ok-Some.field-0-is c.in-Ok-Some.ensures.state c.in_ok-theirs.ensures.state c.in-Ok.ensures
