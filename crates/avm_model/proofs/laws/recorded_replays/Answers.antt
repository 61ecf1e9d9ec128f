use Rattle.avm_model.proofs.ReplayRecording.{step_recorded, take_recorded}
use Rattle.avm_model.proofs.laws.recorded_replays.Goals as goal

pub returns-clause-step : goal.returns-clause-step
returns-clause-step g c m law s t u v es k o os h e st = step_recorded m law s t u v es k o os h e st

pub returns-clause-input : goal.returns-clause-input
returns-clause-input g c m law s t u v es k i h e tk = take_recorded m law s t u v es k i h e tk
