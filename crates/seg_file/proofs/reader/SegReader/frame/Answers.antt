use Rattle.std.proofs.Common.{ap, ◌∙◌}
use Rattle.log_entry.specs.Views.{frame_view}
use Rattle.log_entry.proofs.FrameLaws.{frame_form}
use Rattle.seg_file.specs.Reading.{Reading}
use Rattle.seg_file.proofs.Ending.{frame_held}
use Rattle.seg_file.proofs.reader.SegReader.frame.Goals as goal

pub returns-clause-value : goal.returns-clause-value
returns-clause-value c f fits e =
    frame_held c.new-view.result (frame_view c.in-Some.frame) f c.read_frame.new.view c.in-Some.ensures.exact
    (c.new-view.ensures ∙ c.last.ensures ∙ ap (λ (r : Reading). r.last) c.self.view_is ∙ e) fits

pub returns-clause-form : goal.returns-clause-form
returns-clause-form c = frame_form _ _ c.in-Some.ensures.exact
