use Rattle.std.proofs.Common.{sym}
use Rattle.log_entry.specs.Views.{frame_view}
use Rattle.base_carried.proofs.Rowing.{late_rows, none_rows}
use Rattle.base_carried.proofs.finding.Finding.entry.Goals as goal

pub returns-then-frame-self-clause-rows : goal.returns-then-frame-self-clause-rows
returns-then-frame-self-clause-rows c = late_rows c.args.self.now.number (frame_view c.args.frame.now) c.args.self.now.rows.items c.if-frame-self.true

pub returns-in_default-clause-rows : goal.returns-in_default-clause-rows
returns-in_default-clause-rows c = none_rows c.args.self.now.number (frame_view c.args.frame.now) c.args.self.now.rows.items (sym c.in_default.ensures.exact)
