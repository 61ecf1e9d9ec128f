use Rattle.std.proofs.Common.{refl, sym, ap, ◌∙◌}
use Rattle.avm_model.specs.Frame.{frames_of}
use Rattle.avm_model.specs.HeadReading.{head_of}
use Rattle.avm_model.specs.Keys.{public_of}
use Rattle.log_entry.proofs.Options.{is_some_is}
use Rattle.rebuttal.proofs.Segments.{whole_is}
use Rattle.sample_lines.specs.Judging.{has_out}
use Rattle.seg_file.specs.Views.{segment_view}
use Rattle.sample_judge.proofs.Stages.{if_out, no_out}
use Rattle.sample_judge.proofs.convicting.judge_cheat.Goals as goal

pub returns-then-not-has_out : goal.returns-then-not-has_out
returns-then-not-has_out c = λ x said own stands says.
    let s = segment_view c.in-Some.parts in
    let h = is_some_is (head_of c.in-Some.parts.head.now) (sym c.read_head.ensures.exact ∙ c.if-not-read_head.false) in
    let whole = whole_is c.args.segment.now s h.0 c.in-Some.ensures.exact h.1 in
    let out = ap (λ b. has_out (frames_of b)) (sym c.new.ensures) ∙ sym c.has_out.ensures ∙ c.if-not-has_out.true in
    no_out x said c.args.segment.now s h.0 _ whole out says refl

pub returns : goal.returns
returns c = λ x said own stands says.
    let s = segment_view c.in-Some.parts in
    let h = is_some_is (head_of c.in-Some.parts.head.now) (sym c.read_head.ensures.exact ∙ c.if-not-read_head.false) in
    let whole = whole_is c.args.segment.now s h.0 c.in-Some.ensures.exact h.1 in
    let out = ap (λ b. has_out (frames_of b)) (sym c.new.ensures) ∙ sym c.has_out.ensures ∙ c.if-not-has_out.false in
    if_out x said c.args.segment.now s h.0 c.args.key.now c.deref.result.now c.deref-2.result.now c.convict.result whole out own (c.deref.ensures.value ∙ c.in_ok-cheat.ensures.segment) (c.deref-2.ensures.value ∙ c.in_ok-cheat.ensures.auth)
    (c.convict.ensures x said (c.public.ensures ∙ ap public_of own) stands says)
