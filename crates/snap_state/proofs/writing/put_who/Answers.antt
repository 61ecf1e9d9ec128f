use Rattle.avm_model.specs.HeadState.{data_of}
use Rattle.avm_model.proofs.HeadBounds.{rows_few}
use Rattle.snap_state.proofs.writing.put_who.Goals as goal

pub put_front-requires-clause-few : goal.put_front-requires-clause-few
put_front-requires-clause-few c = rw (c.peers.ensures, c.devices-devices.ensures) (rows_few (data_of c.args.machine.now.state) c.bounds.ensures.head)
