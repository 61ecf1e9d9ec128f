use Rattle.base_model.proofs.Moves.{moved_hash, moved_next}
use Rattle.base_model.proofs.Used.{moved_used}
use Rattle.base_model.proofs.Honesty.{moved_frames, moves, moves_honest}
use Rattle.base_model.proofs.laws.moved_is_honest.Goals as goal

pub returns-clause-hash : goal.returns-clause-hash
returns-clause-hash c j n s = moved_hash j n s

pub returns-clause-used : goal.returns-clause-used
returns-clause-used c j n s = moved_used j n s

pub returns-clause-next : goal.returns-clause-next
returns-clause-next c j n s before behind f w split is = moved_next j n s (moved_frames j n s before behind f w split is).1

pub returns-clause-leads : goal.returns-clause-leads
returns-clause-leads c j n from to before behind f count r w leads split is content = moves j n from to before behind f count r w leads split is content

pub returns-clause-honest : goal.returns-clause-honest
returns-clause-honest c j n at to head leads = moves_honest j n at to (head, leads)
