use Rattle.std.proofs.Common.{sym, ◌∙◌}
use Rattle.avm_model.specs.Keys.{sig_of}
use Rattle.avm_model.proofs.KeyLaws.{sig_of-length}
use Rattle.hss_model.specs.HssFile.{EndorsementData}
use Rattle.hss_files.proofs.Endorsed.{endorsed_written}
use Rattle.hss_files.proofs.endorsing.put_endorsement.Goals as goal

pub returns : goal.returns
returns c =
    let e : EndorsementData = record { upper = sig_of c.args.key.now c.args.granted.now.leaf c.args.granted.now.bottom; bottom = c.args.granted.now.bottom } in
    rw (c.put-2.ensures.value, c.bottom.ensures, c.endorse.ensures.value, c.put_u32.ensures.value, c.put.ensures.value)
    (endorsed_written c.args.out.now e c.signature_len-len.result (c.signature_len-len.ensures.value ∙ sym (sig_of-length c.args.key.now c.args.granted.now.leaf c.args.granted.now.bottom)))
