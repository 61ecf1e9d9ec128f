use Rattle.std.proofs.Common.{◌∙◌}
use Rattle.avm_model.specs.LmsOts.{reached_of}
use Rattle.lms_ots.proofs.Steps.{compressed_same}
use Rattle.lms_ots.proofs.signing.key_by.Goals as goal

pub returns : goal.returns
returns c =
    let base = c.base_bytes-base.result in
    let same = compressed_same c.args.ots base _ (reached_of c.args.ots base c.marked_of-signed.result c.args.sig.now) c.reached.ensures in
    rw (c.marked_of-signed.ensures, c.message_digest-digest.ensures, c.piece.ensures.value, c.base_bytes-base.ensures) at (c.compressed.ensures ∙ same)
