use Rattle.std.proofs.Common.{◌≡◌, refl, sym, ap, subst, ◌∙◌, arith}
use Rattle.std.specs.Prelude.{map, string_bytes}
use Rattle.avm_model.specs.Keys.{KeyData}
use Rattle.avm_model.specs.Machine.{State}
use Rattle.avm_outside.specs.DiskLog.{IsImage}
use Rattle.avm_outside.specs.MemDisks.{disk_bytes, state_now}
use Rattle.avm_outside.specs.Outlet.{Released}
use Rattle.journal_model.specs.Journal.{journal_of}
use Rattle.jrnl_store.specs.Kept.{kept}
use Rattle.recorder.specs.Recorder.{desk_of}
use Rattle.sample_lines.specs.Judging.{Subject, first_or_none}
use Rattle.sample_model.specs.Start.{own_key}
use Rattle.sample_judge.specs.Ends.{IsCase}
use Rattle.sample_judge.proofs.Numbered.{AreNumbers, first_said, if_full, left_last, left_stands, left_used, not_full}
use Rattle.sample_judge.proofs.judging.judge.Goals as goal

pub make-requires : goal.make-requires
make-requires c =
    let lms : c.args.key.now.lms ≡ 6 = ap (λ (k : KeyData). k.lms) c.requires.key in
    let ots : c.args.key.now.ots ≡ 4 = ap (λ (k : KeyData). k.ots) c.requires.key in
    record { lms_type = (omega (arith, lms), omega (arith, lms)); ots_type = (omega (arith, ots), omega (arith, ots)) }

pub returns-then-not-are_full : goal.returns-then-not-are_full
returns-then-not-are_full c = λ last left.
    let x : Subject = record { seed = c.args.seed; last = last } in
    let j = last.recording.journal in
    let k = kept (desk_of c.args.node.recorder).store.journal in
    let ready = c.args.node.recorder.ready c.requires.running in
    let stands = left_stands k (IsImage (state_now c.args.node.disk)) (disk_bytes c.args.node.disk) j ready.opens.run left.own in
    let found = c.in_ok-numbers.ensures.numbers j stands in
    let count = rw c.machine.ensures at c.count.ensures in
    let n : AreNumbers x c.last-last.result c.in_ok-numbers.numbers.snaps c.bound-used.result c.count.result = record {
      last_is = left_last k (IsImage (state_now c.args.node.disk)) (disk_bytes c.args.node.disk) j c.last-last.result c.last-last.ensures.value left.own;
      snaps_is = found.snaps_are;
      used_is = left_used k (IsImage (state_now c.args.node.disk)) (disk_bytes c.args.node.disk) j c.bound-used.result c.bound-used.ensures left.own;
      steps_is = count ∙ ap (λ (s : State). s.count) left.machine;
    } in
    not_full x c.last-last.result c.in_ok-numbers.numbers.snaps c.bound-used.result c.count.result c.are_full.result _ n c.are_full.ensures c.if-not-are_full.true
    (first_said x c.last-last.result c.in_ok-numbers.numbers.snaps c.bound-used.result c.count.result (map string_bytes c.in_ok-lines.lines.items) n c.in_ok-lines.ensures) refl

pub returns : goal.returns
returns c = λ last left.
    let x : Subject = record { seed = c.args.seed; last = last } in
    let j = last.recording.journal in
    let k = kept (desk_of c.args.node.recorder).store.journal in
    let ready = c.args.node.recorder.ready c.requires.running in
    let stands = left_stands k (IsImage (state_now c.args.node.disk)) (disk_bytes c.args.node.disk) j ready.opens.run left.own in
    let found = c.in_ok-numbers.ensures.numbers j stands in
    let count = rw c.machine.ensures at c.count.ensures in
    let n : AreNumbers x c.last-last.result c.in_ok-numbers.numbers.snaps c.bound-used.result c.count.result = record {
      last_is = left_last k (IsImage (state_now c.args.node.disk)) (disk_bytes c.args.node.disk) j c.last-last.result c.last-last.ensures.value left.own;
      snaps_is = found.snaps_are;
      used_is = left_used k (IsImage (state_now c.args.node.disk)) (disk_bytes c.args.node.disk) j c.bound-used.result c.bound-used.ensures left.own;
      steps_is = count ∙ ap (λ (s : State). s.count) left.machine;
    } in
    let case : IsCase x (own_key c.args.seed) (disk_bytes c.read_numbers.new.disk) c.seal_of-seal.result.now c.in_ok-numbers.numbers.first c.last-last.result = record {
      key_is = refl;
      stands = ap journal_of c.in_ok-numbers.ensures.same ∙ stands;
      seal_is = c.seal_of-seal.ensures ∙ ap (λ (r : Released). first_or_none r.auths) left.held;
      middle_is = found.first_is;
      last_is = n.last_is;
    } in
    let own = subst (λ (y : KeyData). IsCase x y (disk_bytes c.read_numbers.new.disk) c.seal_of-seal.result.now c.in_ok-numbers.numbers.first c.last-last.result) (sym (c.in-Ok.ensures.made.0 ∙ c.requires.key)) case in
    if_full x c.last-last.result c.in_ok-numbers.numbers.snaps c.bound-used.result c.count.result c.are_full.result c.judge_first.result n c.are_full.ensures c.if-not-are_full.false
    (c.judge_first.ensures x own (first_said x c.last-last.result c.in_ok-numbers.numbers.snaps c.bound-used.result c.count.result (map string_bytes c.in_ok-lines.lines.items) n c.in_ok-lines.ensures))
