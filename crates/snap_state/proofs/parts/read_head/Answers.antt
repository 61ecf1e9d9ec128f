use Rattle.avm_model.proofs.HeadReads.{found, only}
use Rattle.snap_state.proofs.Reading.{exact}
use Rattle.snap_state.proofs.parts.read_head.Goals as goal

pub returns-clause-found : goal.returns-clause-found
returns-clause-found c = found _ c.args.head.now c.are_bytes.ensures (exact _ _ _ c.is_some.ensures c.parts_of.ensures)

pub returns-clause-only : goal.returns-clause-only
returns-clause-only c = only _ c.args.head.now (exact _ _ _ c.is_some.ensures c.parts_of.ensures)
