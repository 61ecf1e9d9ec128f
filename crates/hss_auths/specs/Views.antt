-- Endorsements without where they lie in memory.
use Rattle.hss_model.specs.HssFile.{EndorsementData}
use Rattle.hss_auths.specs.declared.endorsement.Endorsement.{Endorsement}

abbrev pub endorsement_view : Endorsement → EndorsementData
endorsement_view e = record { upper = e.upper.now; bottom = e.bottom.now }
