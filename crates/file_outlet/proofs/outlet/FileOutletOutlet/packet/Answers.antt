use Rattle.avm_outside.specs.Outlet.{packet}
use Rattle.file_outlet.proofs.Changes.{piece_added, piece_torn}
use Rattle.file_outlet.proofs.outlet.FileOutletOutlet.packet.Goals as goal

pub returns-clause-added : goal.returns-clause-added
returns-clause-added g c = piece_added c.append.result (packet c.args.peer c.args.bytes.now) _ _ (rw c.spell-frame.ensures at c.append.ensures.added) c.append.ensures.others

pub returns-clause-failed : goal.returns-clause-failed
returns-clause-failed g c = piece_torn c.append.result (packet c.args.peer c.args.bytes.now) _ _ (rw c.spell-frame.ensures at c.append.ensures.failed) c.append.ensures.others
