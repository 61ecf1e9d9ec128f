use Rattle.log_entry.specs.Views.{frame_view}
use Rattle.jrnl_store.specs.Frames.{no_frame}
use Rattle.jrnl_store.specs.Items.{held_items}
use Rattle.jrnl_store.proofs.Framing.{shown_some, shown_none}
use Rattle.jrnl_store.proofs.journal.Journal.frame.Goals as goal

pub returns-in-Some : goal.returns-in-Some
returns-in-Some c = shown_some c.args.sought.number (held_items c.args.self.now.buffer.items c.args.sought.held) c.items.result (frame_view c.in-Some.frame) (no_frame c.args.sought.number) c.items.ensures.value c.in-Some.ensures

pub returns-in-None : goal.returns-in-None
returns-in-None c = shown_none c.args.sought.number (held_items c.args.self.now.buffer.items c.args.sought.held) c.items.result (no_frame c.args.sought.number) c.items.ensures.value c.in-None.ensures
