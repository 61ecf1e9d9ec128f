use Rattle.std.proofs.Common.{[], ◌∷◌, ◌++◌, None, Some, refl}
use Rattle.std.specs.Prelude.{map, string_bytes}
use Rattle.evid_file.specs.Views.{evidence_view}
use Rattle.sample_lines.specs.Judging.{cheat_line}
use Rattle.sample_judge.proofs.Saying.{says_added}
use Rattle.sample_judge.proofs.Stages.{cheat_by, if_cheat_by, not_stood}
use Rattle.sample_judge.proofs.convicting.convict.Goals as goal

pub returns-in-Some : goal.returns-in-Some
returns-in-Some c = λ x said own stands says.
    let v = c.in_ok-verdict.verdict in
    let one = says_added c.cheat_line.result (map string_bytes c.args.lines.items) (map string_bytes c.add.new.lines.items) said (cheat_line v) c.cheat_line.ensures c.in_ok-add.ensures says in
    if_cheat_by x said c.args.key.now c.args.segment.now c.args.auth.now v (Some (evidence_view c.in-Some.evidence)) c.stand.result own c.in_ok-verdict.ensures.value c.in-Some.ensures.value c.in-Some.ensures.some
    (c.stand.ensures x (said ++ cheat_line v ∷ []) own stands one)

pub returns-in_ok-add-in-None : goal.returns-in_ok-add-in-None
returns-in_ok-add-in-None c = λ x said own stands says.
    let v = c.in_ok-verdict.verdict in
    let one = says_added c.cheat_line.result (map string_bytes c.args.lines.items) (map string_bytes c.add.new.lines.items) said (cheat_line v) c.cheat_line.ensures c.in_ok-add.ensures says in
    cheat_by x said c.args.key.now c.args.segment.now c.args.auth.now v None _ own c.in_ok-verdict.ensures.value c.in-None.ensures.value c.in-None.ensures.some
    (not_stood x (said ++ cheat_line v ∷ []) c.refused_line.result (map string_bytes c.add.new.lines.items) (map string_bytes c.add-in-None.new.lines.items) _ c.refused_line.ensures c.in_ok-add-in-None.ensures one refl refl)
