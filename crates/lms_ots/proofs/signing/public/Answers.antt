use Rattle.std.proofs.Common.{◌∙◌}
use Rattle.avm_model.specs.LmsOts.{end_of}
use Rattle.lms_ots.proofs.Steps.{compressed_same}
use Rattle.lms_ots.proofs.signing.public.Goals as goal

pub returns : goal.returns
returns c =
    let base = c.base_bytes-base.result in
    let same = compressed_same c.args.ots base _ (end_of c.args.ots base c.args.seed.now.0) c.ends.ensures in
    rw c.base_bytes-base.ensures at (c.compressed.ensures ∙ same)
