use Rattle.std.proofs.Common.{take, sym, subst}
use Rattle.avm_num.proofs.Numbers.{IsBytes-take}
use Rattle.seg_file.specs.Reading.{Goes}
use Rattle.seg_file.specs.declared.filling.Part.{Part}
use Rattle.log_entry.specs.Views.{frame_view}
use Rattle.audit_stream.proofs.Stepping.{step_more, step_page, step_frame, step_head, step_bad}
use Rattle.audit_stream.specs.Streaming.{streaming_by}
use Rattle.audit_stream.proofs.Finishing.{heard_inside}
use Rattle.audit_stream.proofs.stream.AuditStream.step.Goals as goal

pub returns-in-More-clause-heard : goal.returns-in-More-clause-heard
returns-in-More-clause-heard c begun key auths bytes h =
    step_more (streaming_by c.self.inside) c.in-Some.subject c.take-count.new.self (take c.take-count.result.0 c.args.piece.now) key auths bytes c.in-Some.is (IsBytes-take c.take-count.result.0 c.args.piece.now c.are_bytes.ensures)
    (λ d st. subst (λ (p : Part). Goes p (take c.take-count.result.0 c.args.piece.now) d c.take-count.new.self) c.in-More.is (c.take-count.ensures.goes d st)) (heard_inside (sym c.self.view_is) key auths bytes h)

pub returns-in-Page-clause-heard : goal.returns-in-Page-clause-heard
returns-in-Page-clause-heard c begun key auths bytes h =
    step_page (streaming_by c.self.inside) c.in-Some.subject c.page-in-Page.new.self c.take-count.new.self c.in-Page.i (take c.take-count.result.0 c.args.piece.now) c.page.result.now key auths bytes c.in-Some.is (IsBytes-take c.take-count.result.0 c.args.piece.now c.are_bytes.ensures)
    (λ d st. subst (λ (p : Part). Goes p (take c.take-count.result.0 c.args.piece.now) d c.take-count.new.self) c.in-Page.is (c.take-count.ensures.goes d st)) c.page.ensures c.page-in-Page.ensures (heard_inside (sym c.self.view_is) key auths bytes h)

pub returns-in-Frame-clause-heard : goal.returns-in-Frame-clause-heard
returns-in-Frame-clause-heard c begun key auths bytes h =
    step_frame (streaming_by c.self.inside) c.in-Some.subject c.entry.new.self c.take-count.new.self (frame_view c.frame.result) (take c.take-count.result.0 c.args.piece.now) key auths bytes c.in-Some.is (IsBytes-take c.take-count.result.0 c.args.piece.now c.are_bytes.ensures)
    (λ d st. subst (λ (p : Part). Goes p (take c.take-count.result.0 c.args.piece.now) d c.take-count.new.self) c.in-Frame.is (c.take-count.ensures.goes d st)) c.frame.ensures.value c.entry.ensures.goes (heard_inside (sym c.self.view_is) key auths bytes h)

pub returns-in-Bad-clause-heard : goal.returns-in-Bad-clause-heard
returns-in-Bad-clause-heard c begun key auths bytes h =
    step_bad (streaming_by c.self.inside) c.in-Some.subject c.take-count.new.self c.take-count.result.0 c.args.piece.now key auths bytes c.in-Some.is c.are_bytes.ensures
    (λ d st. subst (λ (p : Part). Goes p (take c.take-count.result.0 c.args.piece.now) d c.take-count.new.self) c.in-Bad.is (c.take-count.ensures.goes d st)) (heard_inside (sym c.self.view_is) key auths bytes h)

pub returns-in-Head-clause-heard : goal.returns-in-Head-clause-heard
returns-in-Head-clause-heard c begun key auths bytes h =
    step_head (streaming_by c.self.inside) c.in-Some.subject c.take-count.new.self (take c.take-count.result.0 c.args.piece.now) key auths bytes c.in-Some.is
    (λ d st. subst (λ (p : Part). Goes p (take c.take-count.result.0 c.args.piece.now) d c.take-count.new.self) c.in-Head.is (c.take-count.ensures.goes d st)) (heard_inside (sym c.self.view_is) key auths bytes h)
