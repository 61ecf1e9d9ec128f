use Rattle.std.proofs.Common.{◌∷◌, ◌++◌, [], refl, ap, ◌∙◌}
use Rattle.std.specs.Prelude.{map, string_bytes}
use Rattle.avm_outside.specs.MemDisks.{disk_bytes}
use Rattle.journal_model.specs.Journal.{journal_of}
use Rattle.sample_lines.specs.Judging.{journal, segment_line}
use Rattle.sample_judge.proofs.Saying.{says_added}
use Rattle.sample_judge.proofs.Segmented.{exports_none, exports_some, if_second, second_none}
use Rattle.sample_judge.proofs.judging.judge_second.Goals as goal

pub returns-in_default : goal.returns-in_default
returns-in_default c = λ x said case says.
    let none = exports_none _ (journal x) c.args.middle c.args.last c.in_ok-found.found c.in_default.not-Some (c.in_ok-found.ensures.exports (journal x) case.stands) in
    second_none x said c.args.first.now c.args.key.now (disk_bytes c.args.disk.now) c.args.seal.now c.args.middle c.args.last _ case none says refl

pub returns : goal.returns
returns c = λ x said case says.
    let v = c.in_ok-verdict.verdict in
    let some = exports_some _ (journal x) c.args.middle c.args.last c.in_ok-found.found c.in-Some.bytes c.in-Some.is (c.in_ok-found.ensures.exports (journal x) case.stands) in
    let verdict = rw (c.public.ensures, c.deref.ensures.value) at c.in_ok-verdict.ensures.value in
    let one = says_added c.segment_line.result (map string_bytes c.args.lines.items) (map string_bytes c.add.new.lines.items) said (segment_line 2 v) c.segment_line.ensures c.in_ok-add.ensures says in
    if_second x said c.args.first.now c.args.key.now (disk_bytes c.args.disk.now) c.args.seal.now c.args.middle c.args.last c.in-Some.bytes.items c.auths_for.result.now v c.judge_cheat.result case some c.auths_for.ensures verdict
    (c.judge_cheat.ensures x (said ++ segment_line 2 v ∷ []) case.key_is (ap journal_of c.in_ok-found.ensures.same ∙ case.stands) one)
