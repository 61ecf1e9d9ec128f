use Rattle.export_laws.proofs.Still.{still}
use Rattle.export_laws.proofs.laws.exports_stand_still.Goals as goal

pub returns : goal.returns
returns c = still
