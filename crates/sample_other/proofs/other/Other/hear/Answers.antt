use Rattle.log_entry.proofs.Lengths.{data_limit}
use Rattle.sample_other.proofs.other.Other.hear.Goals as goal

pub acknowledge-requires-clause-few : goal.acknowledge-requires-clause-few
acknowledge-requires-clause-few c = data_limit c.args.bytes.now c.if-not-is_data.ensures.packet
