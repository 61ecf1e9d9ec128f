use Rattle.record_laws.proofs.Kept.{step_true, input_true, saved_true}
use Rattle.record_laws.proofs.laws.keeps_stay_true.Goals as goal

pub returns-clause-step : goal.returns-clause-step
returns-clause-step c r a pages t os h keeps head st fits writes ram = step_true r a pages t os h keeps head st fits writes ram

pub returns-clause-input : goal.returns-clause-input
returns-clause-input c r o keeps = input_true r o keeps

pub returns-clause-saved : goal.returns-clause-saved
returns-clause-saved c r keeps = saved_true r keeps
