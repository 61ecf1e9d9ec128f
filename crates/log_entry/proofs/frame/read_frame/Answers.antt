use Rattle.log_entry.proofs.FrameLaws.{found, none}
use Rattle.log_entry.proofs.Lengths.{few}
use Rattle.log_entry.proofs.frame.read_frame.Goals as goal

pub returns-clause-found : goal.returns-clause-found
returns-clause-found c = found _ _ _ c.rest-bytes.ensures.fits c.next_frame.ensures

pub returns-clause-none : goal.returns-clause-none
returns-clause-none c = none _ _ _ c.next_frame.ensures

pub returns-clause-few : goal.returns-clause-few
returns-clause-few c = few _ _ _ (found _ _ _ c.rest-bytes.ensures.fits c.next_frame.ensures)
