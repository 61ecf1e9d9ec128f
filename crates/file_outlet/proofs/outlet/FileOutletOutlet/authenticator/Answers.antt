use Rattle.avm_outside.specs.Outlet.{auth}
use Rattle.file_outlet.proofs.Changes.{piece_added, piece_torn}
use Rattle.file_outlet.proofs.outlet.FileOutletOutlet.authenticator.Goals as goal

pub returns-clause-added : goal.returns-clause-added
returns-clause-added g c = piece_added c.append.result (auth c.args.bytes.now) _ _ c.append.ensures.added c.append.ensures.others

pub returns-clause-failed : goal.returns-clause-failed
returns-clause-failed g c = piece_torn c.append.result (auth c.args.bytes.now) _ _ c.append.ensures.failed c.append.ensures.others
