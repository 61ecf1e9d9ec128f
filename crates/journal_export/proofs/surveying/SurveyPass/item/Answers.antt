use Rattle.std.proofs.Common.{ap}
use Rattle.jrnl_store.specs.Items.{item_view}
use Rattle.log_entry.specs.Views.{frame_view}
use Rattle.rebut_pass.specs.Items.{frame_in}
use Rattle.journal_export.proofs.Surveyed.{surveys_entry}
use Rattle.journal_export.proofs.surveying.SurveyPass.item.Goals as goal

pub returns-in-Entry-clause-taken : goal.returns-in-Entry-clause-taken
returns-in-Entry-clause-taken c = surveys_entry c.args.self.now _ (item_view c.args.item.now) (frame_view c.in-Entry.frame) (ap (λ i. frame_in (item_view i)) c.in-Entry.is) c.entry.ensures.surveys
