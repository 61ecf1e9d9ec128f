use Rattle.std.proofs.Common.{◌≡◌, ◌<◌, ℕ, List, ap, ◌∙◌, arith}
use Rattle.avm_model.specs.Frame.{frames_of}
use Rattle.avm_model.specs.Reference.{timed, entries_of}
use Rattle.avm_model.specs.Timed.{last_count}
use Rattle.seg_file.specs.Views.{segment_view}
use Rattle.view_model.specs.Views.{run_of}
use Rattle.avm_view.specs.Inputs.{point_of}
use Rattle.avm_view.specs.Viewing.{Viewing}
use Rattle.avm_view.proofs.Asides.{ahead, ahead_near, ahead_stands}
use Rattle.avm_view.proofs.viewer.resume.Goals as goal

pub invariant_of-viewer : goal.invariant_of-viewer
invariant_of-viewer c =
    let s = segment_view c.args.parts.now in
    let h = c.requires.tells.0 in
    let is = c.requires.tells.1.is in
    let last : c.last_count-last.result ≡ (run_of s h).last = c.last_count-last.ensures.value ∙ ap (λ (b : List ℕ). last_count timed 0 (entries_of (frames_of b))) c.new.ensures in
    let below : c.args.aside.machine.state.count < c.last_count-last.result = omega (arith, c.if-count-last.false, c.count-else-count.ensures) in
    let a = ahead s h c.args.aside.machine.state c.args.aside.frames c.last_count-last.result (c.requires.can h is) (c.requires.aside h is) last below in
    record { high = omega (arith, below); few = c.last_count-last.ensures.few; on = rw last (a.resumes.on (omega (arith, a.before))) }

pub returns-clause-stands : goal.returns-clause-stands
returns-clause-stands c = λ h is.
    let s = segment_view c.args.parts.now in
    let last : c.last_count-last.result ≡ (run_of s h).last = c.last_count-last.ensures.value ∙ ap (λ (b : List ℕ). last_count timed 0 (entries_of (frames_of b))) c.new.ensures in
    let below : c.args.aside.machine.state.count < c.last_count-last.result = omega (arith, c.if-count-last.false, c.count-else-count.ensures) in
    let a = ahead s h c.args.aside.machine.state c.args.aside.frames c.last_count-last.result (c.requires.can h is) (c.requires.aside h is) last below in
    let p : Viewing = record { point = point_of c.args.aside.machine.state c.args.aside.frames; first = c.args.first; last = c.last_count-last.result } in
    ahead_stands (run_of s h) p c.advance.new.self c.advance.result a (c.requires.first h is) last c.advance.ensures.ends c.advance.ensures.next c.advance.ensures.first c.advance.ensures.last c.advance.ensures.high

pub returns-clause-near : goal.returns-clause-near
returns-clause-near c =
    let below : c.args.aside.machine.state.count < c.last_count-last.result = omega (arith, c.if-count-last.false, c.count-else-count.ensures) in
    let lt : c.args.aside.machine.state.count < c.args.count = omega (arith, c.if-count.false, c.count.ensures) in
    let p : Viewing = record { point = point_of c.args.aside.machine.state c.args.aside.frames; first = c.args.first; last = c.last_count-last.result } in
    ahead_near p c.advance.new.self c.advance.result c.args.count lt below c.advance.ensures.ends c.advance.ensures.count
