-- Evidence without where it lies in memory.
use Rattle.avm_model.specs.Evidence.{EvidData, double, fork, replay}
use Rattle.avm_auth.specs.Views.{auth_view}
use Rattle.evid_file.specs.declared.evidence.Evidence.{Evidence}
use Rattle.evid_file.specs.declared.evidence.Evidence.TheVariants as evidence

abbrev pub evidence_view : Evidence → EvidData
evidence_view (evidence.Double key a b) = double key (auth_view a) (auth_view b)
evidence_view (evidence.Fork key start before frames top other) = fork key start before.0 frames.now (auth_view top) (auth_view other)
evidence_view (evidence.Replay key segment top) = replay key segment.now (auth_view top)
