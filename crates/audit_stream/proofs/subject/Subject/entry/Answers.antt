use Rattle.std.proofs.Common.{List, sym, subst}
use Rattle.avm_model.specs.Auth.{AuthData}
use Rattle.log_entry.specs.Views.{frame_view}
use Rattle.audit_stream.specs.Rows.{AreRows}
use Rattle.audit_stream.proofs.Subjects.{last_more}
use Rattle.audit_stream.proofs.subject.Subject.entry.Goals as goal

pub returns : goal.returns
returns c = record {
  goes = λ key auths d is seq pages. record {
    front = is.front;
    there = is.there;
    head = is.head;
    head_is = is.head_is;
    list = is.list;
    list_is = is.list_is;
    first = is.first;
    last = last_more 0 d.frames (frame_view c.args.frame.now);
    rows = subst (λ (own : List AuthData). AreRows c.args.self.now.bad c.args.self.now.double own key is.list) (sym c.entry.ensures.auths) is.rows;
    matches = c.entry.ensures.goes is.front.start is.front.before d.frames seq is.matches;
    course = c.entry-2.ensures.goes is.head d.pages d.frames pages is.course;
  };
}
