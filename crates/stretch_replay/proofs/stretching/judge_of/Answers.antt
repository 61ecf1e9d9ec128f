use Rattle.std.proofs.Common.{[], length, refl, sym, ap, subst, ◌∙◌}
use Rattle.avm_model.specs.HeadReading.{head_of}
use Rattle.avm_model.specs.Machine.{State}
use Rattle.avm_model.specs.Pages.{root_of, sha_hashes}
use Rattle.rebut_judge.specs.Judging.{JudgedTo, judge_view}
use Rattle.keep_judge.proofs.Goodness.{fits_head}
use Rattle.open_replay.proofs.Sought.{cleaned, made}
use Rattle.open_replay.proofs.Starting.{starts}
use Rattle.stretch_replay.proofs.stretching.judge_of.Goals as goal

pub machine_of-requires : goal.machine_of-requires
machine_of-requires c =
    let f = fits_head (length c.args.base.ram.dirty) (head_of c.args.base.head.bytes) c.args.base.fits in
    record { head = (f.0, ap head_of c.bytes.ensures ∙ f.1, f.2 ∙ sym (cleaned c.args.base.ram c.build.new.ram c.in_ok-tree.ensures.ram)) }

pub new-judge-requires-clause-tree : goal.new-judge-requires-clause-tree
new-judge-requires-clause-tree c =
    let f = fits_head (length c.args.base.ram.dirty) (head_of c.args.base.head.bytes) c.args.base.fits in
    let m = made f.0 c.args.base.ram c.build.new.ram c.in_ok-machine.machine c.in_ok-tree.ensures.ram (c.in_ok-machine.ensures f.0 (ap head_of c.bytes.ensures ∙ f.1)) in
    rw (m.ram_is, m.count) c.in_ok-tree.ensures.tree

pub new-judge-requires-clause-root : goal.new-judge-requires-clause-root
new-judge-requires-clause-root c =
    let f = fits_head (length c.args.base.ram.dirty) (head_of c.args.base.head.bytes) c.args.base.fits in
    let m = made f.0 c.args.base.ram c.build.new.ram c.in_ok-machine.machine c.in_ok-tree.ensures.ram (c.in_ok-machine.ensures f.0 (ap head_of c.bytes.ensures ∙ f.1)) in
    c.in_ok-tree.ensures.root ∙ ap (root_of sha_hashes) (sym m.ram_is)

pub returns : goal.returns
returns c = λ b e.
    let m = made b c.args.base.ram c.build.new.ram c.in_ok-machine.machine c.in_ok-tree.ensures.ram (c.in_ok-machine.ensures b (ap head_of c.bytes.ensures ∙ e)) in
    starts _ c.args.first c.args.base.keeps (judge_view c.new-judge.result) _ (subst (λ (s : State). JudgedTo s c.args.first [] (judge_view c.new-judge.result)) m.state c.new-judge.ensures) refl
