use Rattle.std.proofs.Common.{sym, ◌∙◌}
use Rattle.log_entry.specs.Views.{frame_view}
use Rattle.audit_stream.proofs.Courses.{course_begins, never_none}
use Rattle.audit_stream.proofs.course.Course.begin.Goals as goal

pub returns-in_default : goal.returns-in_default
returns-in_default c some h pages fs len is = never_none c.args.self.now.loading some (sym c.take.ensures.value ∙ c.in_default.is)

pub returns : goal.returns
returns c some h pages fs len is =
    rw c.take.ensures.after
    (course_begins c.args.self.now c.in-Some.loading c.begin-replay.result.0 c.begin-replay.result.1 h pages fs (frame_view c.args.frame.now) len (sym c.take.ensures.value ∙ c.in-Some.is) is c.begin-replay.ensures.stand c.begin-replay.ensures.none c.begin-replay.ensures.fault c.begin-replay.ensures.committed)
