use Rattle.std.proofs.Common.{refl}
use Rattle.std.specs.Prelude.{map, string_bytes}
use Rattle.avm_model.specs.Evidence.{evidence_bytes}
use Rattle.evid_file.proofs.EvidenceLaws.{evidence_again}
use Rattle.evid_file.specs.Views.{evidence_view}
use Rattle.rebut_command.proofs.Judgements.{stands_holds}
use Rattle.rebut_command.specs.Judging.{judged_view}
use Rattle.sample_lines.specs.Judging.{journal}
use Rattle.sample_judge.proofs.Stages.{stood}
use Rattle.sample_judge.proofs.convicting.stand.Goals as goal

pub answer-requires : goal.answer-requires
answer-requires c = record {
  fits = c.requires.fits;
  holds = stands_holds c.args.key.now (evidence_bytes (evidence_view c.args.evidence.now)) (evidence_view c.args.evidence.now) (evidence_again (evidence_view c.args.evidence.now) c.requires.fits) c.requires.stands;
}

pub returns : goal.returns
returns c = λ x said own stands says.
    stood x said (evidence_view c.args.evidence.now) (judged_view c.in_ok-judged.judged) c.args.key.now c.stands_line.result c.rebut_line.result (map string_bytes c.args.lines.items) (map string_bytes c.add.new.lines.items) (map string_bytes c.add-2.new.lines.items) _
    own c.requires.stands (c.in_ok-judged.ensures (journal x) stands) c.stands_line.ensures c.in_ok-add.ensures c.rebut_line.ensures c.in_ok-add-2.ensures says refl refl
