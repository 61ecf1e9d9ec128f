use Rattle.log_entry.proofs.FrameLaws.{reads_frame}
use Rattle.log_entry.proofs.writing.put_frame.Goals as goal

pub returns-clause-again : goal.returns-clause-again
returns-clause-again c f rest fits = reads_frame.again f rest fits
