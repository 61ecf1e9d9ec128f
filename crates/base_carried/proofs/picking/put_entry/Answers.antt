use Rattle.std.proofs.Common.{refl}
use Rattle.log_entry.specs.Views.{frame_view}
use Rattle.base_carried.proofs.Picked.{entry_bytes}
use Rattle.base_carried.proofs.picking.put_entry.Goals as goal

pub returns-in-Ok : goal.returns-in-Ok
returns-in-Ok c = entry_bytes c.args.out.now.items c.put_front.new.out.items c.put_frame.new.out.items c.args.leaf _ c.args.before.now.0 (frame_view c.args.frame.now) refl c.in_ok-put_front.ensures c.in-Ok.ensures
