use Rattle.std.proofs.Common.{◌∷◌, ◌++◌, [], refl}
use Rattle.std.specs.Prelude.{map, string_bytes}
use Rattle.avm_outside.specs.MemDisks.{disk_bytes}
use Rattle.sample_lines.specs.Judging.{first_lines, journal, segment_line}
use Rattle.sample_judge.proofs.Saying.{says_added}
use Rattle.sample_judge.proofs.Segmented.{case_on, exports_none, exports_some, first_none, if_first}
use Rattle.sample_judge.proofs.judging.judge_first.Goals as goal

pub returns-in_default : goal.returns-in_default
returns-in_default c = λ x case says.
    let none = exports_none _ (journal x) 1 c.args.middle c.in_ok-found.found c.in_default.not-Some (c.in_ok-found.ensures.exports (journal x) case.stands) in
    first_none x c.args.key.now (disk_bytes c.args.disk.now) c.args.seal.now c.args.middle c.args.last _ case none says refl

pub returns : goal.returns
returns c = λ x case says.
    let v = c.in_ok-verdict.verdict in
    let some = exports_some _ (journal x) 1 c.args.middle c.in_ok-found.found c.in-Some.bytes c.in-Some.is (c.in_ok-found.ensures.exports (journal x) case.stands) in
    let verdict = rw (c.public.ensures, c.deref.ensures.value) at c.in_ok-verdict.ensures.value in
    let one = says_added c.segment_line.result (map string_bytes c.args.lines.items) (map string_bytes c.add.new.lines.items) (first_lines x) (segment_line 1 v) c.segment_line.ensures c.in_ok-add.ensures says in
    let next = rw c.deref-2.ensures.value at (c.judge_second.ensures x (first_lines x ++ segment_line 1 v ∷ []) (case_on x c.args.key.now (disk_bytes c.args.disk.now) (disk_bytes c.segment.new.disk) c.args.seal.now c.args.middle c.args.last c.in_ok-found.ensures.same case) one) in
    if_first x c.args.key.now (disk_bytes c.args.disk.now) c.args.seal.now c.args.middle c.args.last c.in-Some.bytes.items c.auths_for.result.now v c.judge_second.result case some c.auths_for.ensures verdict next
