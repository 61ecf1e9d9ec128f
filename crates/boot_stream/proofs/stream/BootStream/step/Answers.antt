use Rattle.std.proofs.Common.{◌≡◌, Some, take, sym, ap, subst, ◌∙◌}
use Rattle.avm_num.proofs.Numbers.{IsBytes-take}
use Rattle.log_entry.specs.Views.{frame_view}
use Rattle.seg_file.specs.Reading.{Goes}
use Rattle.seg_file.specs.declared.filling.Part.{Part}
use Rattle.seg_file.specs.declared.filling.Part.TheVariants as part
use Rattle.boot_stream.proofs.Streamed.{reopened, step_more, step_page, step_frame, step_head, step_bad}
use Rattle.boot_stream.proofs.stream.BootStream.step.Goals as goal

pub returns-in-More-clause-seen : goal.returns-in-More-clause-seen
returns-in-More-clause-seen c = λ image bytes s.
    let b = c.args.self.now in
    let r = c.take-count.new.self in
    let t = take c.take-count.result.0 c.args.piece.now in
    reopened b r b.compared image _ c.if-not-self.false
    (step_more b r t image bytes c.if-not-self.false (IsBytes-take c.take-count.result.0 c.args.piece.now c.are_bytes.ensures) (λ d st. subst (λ (p : Part). Goes p t d r) c.in-More.is (c.take-count.ensures.goes d st)) s)

pub returns-in_ok-compared-in-Head-clause-seen : goal.returns-in_ok-compared-in-Head-clause-seen
returns-in_ok-compared-in-Head-clause-seen c = λ image bytes s.
    let b = c.args.self.now in
    let r = c.take-count.new.self in
    let t = take c.take-count.result.0 c.args.piece.now in
    let k = c.in_ok-compared-in-Head in
    reopened b r (Some k.compared) image _ c.if-not-self.false
    (step_head b r k.compared t c.head.result.now image bytes c.if-not-self.false (IsBytes-take c.take-count.result.0 c.args.piece.now c.are_bytes.ensures)
    (λ bad. let no : part.Head ≡ part.Bad = sym c.in-Head.is ∙ ap (λ p. p.1) (c.take-count.ensures.bad bad) in cc)
    (λ d st. subst (λ (p : Part). Goes p t d r) c.in-Head.is (c.take-count.ensures.goes d st)) c.head.ensures k.ensures.boots k.ensures.same k.ensures.first s)

pub returns-in-Page-clause-seen : goal.returns-in-Page-clause-seen
returns-in-Page-clause-seen c = λ image bytes s.
    let b = c.args.self.now in
    let r = c.take-count.new.self in
    let t = take c.take-count.result.0 c.args.piece.now in
    reopened b r c.see_page.new.compared image _ c.if-not-self.false
    (step_page b r c.see_page.new.compared c.in-Page.i t c.page.result.now image bytes c.if-not-self.false (IsBytes-take c.take-count.result.0 c.args.piece.now c.are_bytes.ensures) (λ d st. subst (λ (p : Part). Goes p t d r) c.in-Page.is (c.take-count.ensures.goes d st)) c.page.ensures c.see_page.ensures s)

pub returns-in-Frame-clause-seen : goal.returns-in-Frame-clause-seen
returns-in-Frame-clause-seen c = λ image bytes s.
    let b = c.args.self.now in
    let r = c.take-count.new.self in
    let t = take c.take-count.result.0 c.args.piece.now in
    reopened b r c.see_entry.new.compared image _ c.if-not-self.false
    (step_frame b r c.see_entry.new.compared (frame_view c.frame.result) t image bytes c.if-not-self.false (IsBytes-take c.take-count.result.0 c.args.piece.now c.are_bytes.ensures) (λ d st. subst (λ (p : Part). Goes p t d r) c.in-Frame.is (c.take-count.ensures.goes d st)) c.frame.ensures.value c.see_entry.ensures s)

pub returns-in-Bad-clause-seen : goal.returns-in-Bad-clause-seen
returns-in-Bad-clause-seen c = λ image bytes s.
    let r = c.take-count.new.self in
    step_bad c.args.self.now r c.take-count.result.0 c.args.piece.now image bytes c.if-not-self.false c.are_bytes.ensures (λ d st. subst (λ (p : Part). Goes p (take c.take-count.result.0 c.args.piece.now) d r) c.in-Bad.is (c.take-count.ensures.goes d st)) s
