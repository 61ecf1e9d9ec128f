use Rattle.std.proofs.Common.{ap, ◌∙◌}
use Rattle.seg_file.specs.Reading.{Reading}
use Rattle.seg_file.proofs.Ending.{head_held}
use Rattle.seg_file.proofs.reader.SegReader.head.Goals as goal

pub returns : goal.returns
returns c f fits e = head_held c.last.result.now f fits (c.last.ensures ∙ ap (λ (r : Reading). r.last) c.self.view_is ∙ e)
