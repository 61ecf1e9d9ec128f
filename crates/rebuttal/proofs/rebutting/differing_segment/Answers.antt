use Rattle.jrnl_store.specs.Kept.{kept}
use Rattle.seg_file.specs.Views.{segment_view}
use Rattle.rebuttal.proofs.Last.{segment_told}
use Rattle.rebuttal.proofs.Segments.{tells}
use Rattle.rebuttal.proofs.rebutting.differing_segment.Goals as goal

pub differing_states-requires : goal.differing_states-requires
differing_states-requires g c = let f = c.in-Some.ensures.found in record { theirs = tells c.args.segment.now (segment_view c.in-Some.parts) f.0 f.1 f.2 }

pub returns-in-Some-clause-value : goal.returns-in-Some-clause-value
returns-in-Some-clause-value g c =
    let f = c.in-Some.ensures.found in
    segment_told _ (kept c.args.journal.now) c.args.segment.now (segment_view c.in-Some.parts) f.0 c.differing_states.result f.1 f.2 c.differing_states.ensures.value
