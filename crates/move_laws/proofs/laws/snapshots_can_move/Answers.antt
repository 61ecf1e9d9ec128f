use Rattle.move_laws.proofs.CanMoves.{can_move, snap_later}
use Rattle.move_laws.proofs.Sizes.{state_size}
use Rattle.move_laws.proofs.laws.snapshots_can_move.Goals as goal

pub returns-clause-pages : goal.returns-clause-pages
returns-clause-pages c j n s fits stretch at = state_size j n s fits stretch at

pub returns-clause-moves : goal.returns-clause-moves
returns-clause-moves c j n s h stretch at snap low count of short below = can_move j n s h stretch at snap low count of short below

pub returns-clause-later : goal.returns-clause-later
returns-clause-later c j n h snap = snap_later j n h snap
