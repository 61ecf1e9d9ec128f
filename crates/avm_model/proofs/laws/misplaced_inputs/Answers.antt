use Rattle.avm_model.proofs.ReplayInputs.{late_input, early_input, refused_input, pending_input}
use Rattle.avm_model.proofs.laws.misplaced_inputs.Goals as goal

pub returns-clause-late : goal.returns-clause-late
returns-clause-late g c m law s es j i h lt = late_input m law s es j i h lt

pub returns-clause-early : goal.returns-clause-early
returns-clause-early g c m law s es j k u v o os i h empty e st le = early_input m law s es j k u v o os i h empty e st le

pub returns-clause-refused : goal.returns-clause-refused
returns-clause-refused g c m law s es j k u i h empty e same refused = refused_input m law s es j k u i h empty e same refused

pub returns-clause-pending : goal.returns-clause-pending
returns-clause-pending g c m law s es j i o os h e = pending_input m law s es j i o os h e
